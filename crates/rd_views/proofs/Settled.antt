-- Settling each window as it was laid out leaves the state that a redisplay leaves.
use Rattle.std.proofs.Common.{◌≡◌, inl, inr, ℕ, suc, ◌+◌, ◌<◌, ◌==◌, Bool, true, false, if◌then◌else◌, drop, get_or, length, Option, None, Some, List, [], ◌∷◌, map, sym, ap, refl, subst, subst₂, ◌∙◌}
use Rattle.std.proofs.lemmas.Bool.{cases_eq}
use Rattle.std.proofs.lemmas.List.{drop_more}
use Rattle.std.proofs.lemmas.Simd.{map-map}
use Rattle.std.proofs.lemmas.Option.{none-some, same_Some}
use Rattle.std.proofs.lemmas.Iterator.Adapters.{option_map_id}
use Rattle.std.specs.Prelude.{IsSome, option_map, slice_get}
use Rattle.rd_base.proofs.Choices.{map-some}
use Rattle.rd_base.proofs.Lists.{heads}
use Rattle.rd_start.specs.Chosen.{chosen_of}
use Rattle.rd_start.specs.declared.wanted.Chosen.{Chosen}
use Rattle.rd_state.specs.Shown.{IsShownAt}
use Rattle.rd_state.specs.States.{ContentValue, StateValue}
use Rattle.rd_state.specs.Steps.{settled, settled_window}
use Rattle.rd_state.specs.Valid.{IsValid}
use Rattle.rd_state.specs.Windows.{AreApart, content_in, shown_content, under, window_of, changed_under, NumberedWindow}
use Rattle.rd_state.specs.declared.window.WindowState.{WindowState}
use Rattle.rd_text.specs.Texts.{IsAccessible}
use Rattle.rd_tree.proofs.Listing.{placed-here, placed-there}
use Rattle.rd_tree.proofs.Rooms.{found_number}
use Rattle.rd_tree.specs.Windows.{of_number}
use Rattle.rd_tree.specs.declared.placed.Placed.{Placed}
use Rattle.rd_layout.specs.Laws.{ChosenLaw}
use Rattle.rd_layout.specs.Screens.{settled_at, settled_by, settled_state}
use Rattle.rd_layout.specs.Sessions.{SessionValue, layout_of}
use Rattle.rd_layout.specs.Windows.{place_of, places, wanted_of, window_shape, window_source}
use Rattle.rd_state.proofs.ByNumber.{apart-became, under-became, under-here, under-there, some-with, under-other, window-same, window-with}
use Rattle.rd_layout.proofs.Known.{Last}
use Rattle.rd_views.specs.Layings.{AreDesired, AreOnce, CanSettle, IsDesiredBy, all_settled}
use Rattle.rd_views.specs.declared.desired.LaidWindow.{LaidWindow}
use Rattle.rd_views.proofs.Desiring.{each-desired}

-- ---- the windows alone

abbrev pub windows_settled : List LaidWindow → List Last → List NumberedWindow → List NumberedWindow
windows_settled (x ∷ xs) (e ∷ es) ws = windows_settled xs es (changed_under e.0 (settled_window x.chosen.anchor x.chosen.point) ws)
windows_settled _ _ ws = ws

state-is : (xs : List LaidWindow) (es : List Last) (s : StateValue) → all_settled xs es s ≡ record s { windows = windows_settled xs es s.windows }
state-is [] es s = refl
state-is (x ∷ xs) [] s = refl
state-is (x ∷ xs) (e ∷ es) s = state-is xs es (settled s e.0 x.chosen.anchor x.chosen.point)

-- ---- lists of windows that are told apart by their numbers

none-by-numbers : (n : ℕ) (us ws : List NumberedWindow) → map (λ (e : NumberedWindow). e.0) us ≡ map (λ (e : NumberedWindow). e.0) ws → window_of n us ≡ None → window_of n ws ≡ None
none-by-numbers n us [] same none = refl
none-by-numbers n [] (w ∷ ws) same none = absurd (cc)
none-by-numbers n (u ∷ us) (w ∷ ws) same none =
    let parts = heads same in
    elim (cases_eq u.0 n) [
      | inl p ↦ absurd (none-some u.1 (sym none ∙ under-here n u us p))
      | inr q ↦ under-there n w ws (λ r. q (parts.0 ∙ r)) ∙ none-by-numbers n us ws parts.1 (sym (under-there n u us q) ∙ none)
    ]

same-windows : (us ws : List NumberedWindow) → map (λ (e : NumberedWindow). e.0) us ≡ map (λ (e : NumberedWindow). e.0) ws → AreApart us → ((n : ℕ) → window_of n us ≡ window_of n ws) → us ≡ ws
same-windows [] [] same apart found = refl
same-windows [] (w ∷ ws) same apart found = absurd (cc)
same-windows (u ∷ us) [] same apart found = absurd (cc)
same-windows (u ∷ us) (w ∷ ws) same apart found =
    let parts = heads same in
    let value = same_Some u.1 w.1 (sym (under-here u.0 u us refl) ∙ (found u.0 ∙ under-here u.0 w ws (sym parts.0))) in
    let gone = none-by-numbers u.0 us ws parts.1 apart.0 in
    let rest = same-windows us ws parts.1 apart.1 (λ n. elim (cases_eq u.0 n) [
      | inl p ↦ ap (λ (k : ℕ). window_of k us) (sym p) ∙ (apart.0 ∙ (sym gone ∙ ap (λ (k : ℕ). window_of k ws) p))
      | inr q ↦ sym (under-there n u us q) ∙ (found n ∙ under-there n w ws (λ r. q (parts.0 ∙ r)))
    ]) in
    λ i. (parts.0 i, value i) ∷ rest i

with-numbers : (n : ℕ) (f : WindowState → WindowState) (ws : List NumberedWindow) → map (λ (e : NumberedWindow). e.0) (changed_under n f ws) ≡ map (λ (e : NumberedWindow). e.0) ws
with-numbers n f [] = refl
with-numbers n f (w ∷ ws) = by (w.0 == n) (with-numbers n f ws) where
  by : (t : Bool) → map (λ (e : NumberedWindow). e.0) (changed_under n f ws) ≡ map (λ (e : NumberedWindow). e.0) ws
      → map (λ (e : NumberedWindow). e.0) (if t then (w.0, f w.1) ∷ ws else w ∷ changed_under n f ws) ≡ w.0 ∷ map (λ (e : NumberedWindow). e.0) ws
  by true rest = refl
  by false rest = ap (λ (ns : List ℕ). w.0 ∷ ns) rest

settled-numbers : (xs : List LaidWindow) (es : List Last) (ws : List NumberedWindow) → map (λ (e : NumberedWindow). e.0) (windows_settled xs es ws) ≡ map (λ (e : NumberedWindow). e.0) ws
settled-numbers [] es ws = refl
settled-numbers (x ∷ xs) [] ws = refl
settled-numbers (x ∷ xs) (e ∷ es) ws =
    let f = settled_window x.chosen.anchor x.chosen.point in
    settled-numbers xs es (changed_under e.0 f ws) ∙ with-numbers e.0 f ws

-- ---- what is found behind

-- what was chosen, under the numbers of the windows
abbrev pub choices : List LaidWindow → List Last → List (ℕ × Chosen)
choices (x ∷ xs) (e ∷ es) = (e.0, x.chosen) ∷ choices xs es
choices _ _ = []

abbrev pub settle_found : Option Chosen → Option WindowState → Option WindowState
settle_found None o = o
settle_found (Some c) o = option_map (settled_window c.anchor c.point) o

chosen-none : (n : ℕ) (xs : List LaidWindow) (es : List Last) → layout_of n es ≡ None → under n (choices xs es) ≡ None
chosen-none n [] es none = refl
chosen-none n (x ∷ xs) [] none = refl
chosen-none n (x ∷ xs) (e ∷ es) none = elim (cases_eq e.0 n) [
  | inl p ↦ absurd (none-some e.1 (sym none ∙ under-here n e es p))
  | inr q ↦ under-there n (e.0, x.chosen) (choices xs es) q ∙ chosen-none n xs es (sym (under-there n e es q) ∙ none)
]

found-settled : (n : ℕ) (xs : List LaidWindow) (es : List Last) (ws : List NumberedWindow) → AreOnce es → window_of n (windows_settled xs es ws) ≡ settle_found (under n (choices xs es)) (window_of n ws)
found-settled n [] es ws once = refl
found-settled n (x ∷ xs) [] ws once = refl
found-settled n (x ∷ xs) (e ∷ es) ws once =
    let f = settled_window x.chosen.anchor x.chosen.point in
    found-settled n xs es (changed_under e.0 f ws) once.1 ∙ elim (cases_eq e.0 n) [
      | inl p ↦
          ap (λ (c : Option Chosen). settle_found c (window_of n (changed_under e.0 f ws))) (chosen-none n xs es (ap (λ (k : ℕ). layout_of k es) (sym p) ∙ once.0))
          ∙ (ap (λ (k : ℕ). window_of n (changed_under k f ws)) p
          ∙ (window-same n f ws ∙ ap (λ (c : Option Chosen). settle_found c (window_of n ws)) (sym (under-here n (e.0, x.chosen) (choices xs es) p))))
      | inr q ↦
          ap (settle_found (under n (choices xs es))) (under-other e.0 n f ws (λ r. q (sym r)))
          ∙ ap (λ (c : Option Chosen). settle_found c (window_of n ws)) (sym (under-there n (e.0, x.chosen) (choices xs es) q))
    ]

-- ---- what was chosen

module _ (v : SessionValue) where
  -- what is chosen for a window is what the rules choose for it
  pub record IsRight (p : Placed) (c : Option Chosen) : Type 0 where
    pub window : WindowState
    pub lives : window_of p.number v.state.windows ≡ Some window
    pub is : c ≡ Some (chosen_of (window_source v.files v.state window) (window_shape v.state window p) (wanted_of v.state window p))

  abbrev pub AreRight : Option Placed → Option Chosen → Type 0
  AreRight None c = c ≡ None
  AreRight (Some p) c = IsRight p c

  right-by : (p : Placed) (o : Option WindowState) (x : LaidWindow) (e : Last) → window_of p.number v.state.windows ≡ o → IsDesiredBy v.files v.state (layout_of p.number v.layouts) p o x e
      → (e.0 ≡ p.number) × IsRight p (Some x.chosen)
  right-by p None x e is h = absurd h
  right-by p (Some w) x e is h = (h.number, record { window = w; lives = is; is = ap (λ (c : Chosen). Some c) h.chosen })

  right-chosen : (n : ℕ) (ps : List Placed) (xs : List LaidWindow) (es : List Last) → AreDesired v ps xs es → AreRight (of_number n ps) (under n (choices xs es))
  right-chosen n = each-desired v (λ ps xs es. AreRight (of_number n ps) (under n (choices xs es))) refl (λ p x e ps xs es own rest more.
      let one = right-by p (window_of p.number v.state.windows) x e refl own in
      elim (cases_eq p.number n) [
        | inl q ↦ subst₂ AreRight (sym (placed-here n p ps q)) (sym (under-here n (e.0, x.chosen) (choices xs es) (one.0 ∙ q))) one.1
        | inr q ↦ subst₂ AreRight (sym (placed-there n p ps q)) (sym (under-there n (e.0, x.chosen) (choices xs es) (λ r. q (sym one.0 ∙ r)))) more
      ])

  both-settle : (n : ℕ) (o : Option Placed) (c : Option Chosen) → place_of n v.state ≡ o → AreRight o c
      → settle_found c (window_of n v.state.windows) ≡ option_map (λ w. settled_by v.files v.state w o) (window_of n v.state.windows)
  both-settle n None c at right = ap (λ (k : Option Chosen). settle_found k (window_of n v.state.windows)) right ∙ sym (option_map_id (window_of n v.state.windows))
  both-settle n (Some p) c at right =
      let lives : window_of n v.state.windows ≡ Some right.window = ap (λ (k : ℕ). window_of k v.state.windows) (sym (found_number n (places v.state) p at)) ∙ right.lives in
      let chosen = chosen_of (window_source v.files v.state right.window) (window_shape v.state right.window p) (wanted_of v.state right.window p) in
      ap (λ (k : Option Chosen). settle_found k (window_of n v.state.windows)) right.is
      ∙ (ap (option_map (settled_window chosen.anchor chosen.point)) lives
      ∙ sym (ap (option_map (λ w. settled_by v.files v.state w (Some p))) lives))

  windows-are : (xs : List LaidWindow) (es : List Last) → AreApart v.state.windows → AreOnce es → AreDesired v (places v.state) xs es
      → windows_settled xs es v.state.windows ≡ map (settled_at v.files v.state) v.state.windows
  windows-are xs es apart once h =
      let f = λ (n : ℕ) (w : WindowState). settled_by v.files v.state w (place_of n v.state) in
      sym (same-windows (map (settled_at v.files v.state) v.state.windows) (windows_settled xs es v.state.windows)
      (map-map _ _ v.state.windows ∙ sym (settled-numbers xs es v.state.windows))
      (apart-became f v.state.windows apart)
      (λ n. under-became f n v.state.windows
      ∙ (sym (both-settle n (place_of n v.state) (under n (choices xs es)) refl (right-chosen n (places v.state) xs es h)) ∙ sym (found-settled n xs es v.state.windows once))))

  -- the state is the one that a redisplay leaves
  pub state-settled : (xs : List LaidWindow) (es : List Last) → AreApart v.state.windows → AreOnce es → AreDesired v (places v.state) xs es
      → all_settled xs es v.state ≡ settled_state v.files v.state
  state-settled xs es apart once h = state-is xs es v.state ∙ ap (λ (ws : List NumberedWindow). record v.state { windows = ws }) (windows-are xs es apart once h)

-- ---- windows can be settled

-- a window that is found behind another's settling was there before it, and shows the same buffer
pub shown-before : (n m : ℕ) (c : Chosen) (ws : List NumberedWindow) (w : WindowState) → window_of n (changed_under m (settled_window c.anchor c.point) ws) ≡ Some w → (u : WindowState) × (window_of n ws ≡ Some u) × (u.buffer ≡ w.buffer)
shown-before n m c ws w at = elim (window-with m n (settled_window c.anchor c.point) ws) [
  | inl p ↦ (w, sym p ∙ at, refl)
  | inr p ↦
      let u = map-some (settled_window c.anchor c.point) (window_of n ws) w (sym p ∙ at) in
      (u.0, u.1, ap (λ (x : WindowState). x.buffer) u.2)
]

still-shown : (m : ℕ) (c : Chosen) (s : StateValue) (n p : ℕ) → IsShownAt s n p → IsShownAt (settled s m c.anchor c.point) n p
still-shown m c s n p h w b at there =
    let u = shown-before n m c s.windows w at in
    h u.0 b u.1 (ap (λ (k : ℕ). slice_get s.buffers k) u.2 ∙ there)

pub can-still : (m : ℕ) (c : Chosen) (s : StateValue) (xs : List LaidWindow) (es : List Last) → CanSettle s xs es → CanSettle (settled s m c.anchor c.point) xs es
can-still m c s [] es h = tt
can-still m c s (x ∷ xs) [] h = tt
can-still m c s (x ∷ xs) (e ∷ es) h = (
  some-with m e.0 (settled_window c.anchor c.point) s.windows h.0,
  still-shown m c s e.0 x.chosen.anchor.pos h.1,
  still-shown m c s e.0 x.chosen.point h.2,
  can-still m c s xs es h.3,
)

pub first-settles : (s : StateValue) (xs : List LaidWindow) (es : List Last) (i : ℕ) (d : LaidWindow) (f : Last) → i < length xs → i < length es → CanSettle s (drop i xs) (drop i es)
    → CanSettle s (get_or xs i d ∷ drop (i + 1) xs) (get_or es i f ∷ drop (i + 1) es)
first-settles s xs es i d f there less can = subst₂ (CanSettle s) (drop_more xs i d there) (drop_more es i f less) can

-- one window more is settled
pub step-settled : (s new whole : StateValue) (xs : List LaidWindow) (es : List Last) (i : ℕ) (d : LaidWindow) (f : Last) → i < length xs → i < length es → CanSettle s (drop i xs) (drop i es)
    → new ≡ settled s (get_or es i f).0 (get_or xs i d).chosen.anchor (get_or xs i d).chosen.point → all_settled (drop i xs) (drop i es) s ≡ whole
    → CanSettle new (drop (i + 1) xs) (drop (i + 1) es) × (all_settled (drop (i + 1) xs) (drop (i + 1) es) new ≡ whole)
step-settled s new whole xs es i d f there less can is so_far =
    let x = get_or xs i d in
    let e = get_or es i f in
    let first = first-settles s xs es i d f there less can in (
      subst (λ (t : StateValue). CanSettle t (drop (i + 1) xs) (drop (i + 1) es)) (sym is) (can-still e.0 x.chosen s (drop (i + 1) xs) (drop (i + 1) es) first.3),
      ap (all_settled (drop (i + 1) xs) (drop (i + 1) es)) is ∙ ((λ j. all_settled (sym (drop_more xs i d there) j) (sym (drop_more es i f less) j) s) ∙ so_far),
    )

one-shown : (s : StateValue) (n : ℕ) (w : WindowState) (p : ℕ) → window_of n s.windows ≡ Some w → IsAccessible (shown_content s w).text p → IsShownAt s n p
one-shown s n w p lives h u b at there =
    let same : w ≡ u = same_Some w u (sym lives ∙ at) in
    let content : shown_content s w ≡ b.content = ap (λ (x : WindowState). shown_content s x) same ∙ ap content_in there in
    subst (λ (c : ContentValue). IsAccessible c.text p) content h

module _ (v : SessionValue) (chosen : ChosenLaw) (valid : IsValid v.state) where
  settles-by : (p : Placed) (o : Option WindowState) (x : LaidWindow) (e : Last) → window_of p.number v.state.windows ≡ o → place_of p.number v.state ≡ Some p
      → IsDesiredBy v.files v.state (layout_of p.number v.layouts) p o x e
      → IsSome (window_of e.0 v.state.windows) × IsShownAt v.state e.0 x.chosen.anchor.pos × IsShownAt v.state e.0 x.chosen.point
  settles-by p None x e is at h = absurd h
  settles-by p (Some w) x e is at h =
      let lives : window_of e.0 v.state.windows ≡ Some w = ap (λ (k : ℕ). window_of k v.state.windows) h.number ∙ is in
      let both = chosen v.files v.state p.number w p valid is at in (
        subst IsSome (sym lives) refl,
        one-shown v.state e.0 w x.chosen.anchor.pos lives (subst (λ (c : Chosen). IsAccessible (shown_content v.state w).text c.anchor.pos) (sym h.chosen) both.0),
        one-shown v.state e.0 w x.chosen.point lives (subst (λ (c : Chosen). IsAccessible (shown_content v.state w).text c.point) (sym h.chosen) both.1),
      )

  pub can-settle : (xs : List LaidWindow) (es : List Last) → ((k : ℕ) (p : Placed) → slice_get (places v.state) k ≡ Some p → place_of p.number v.state ≡ Some p)
      → AreDesired v (places v.state) xs es → CanSettle v.state xs es
  can-settle xs es at h =
      each-desired v (λ ps xs es. ((k : ℕ) (p : Placed) → slice_get ps k ≡ Some p → place_of p.number v.state ≡ Some p) → CanSettle v.state xs es) (λ at. tt)
      (λ p x e ps xs es own rest more at.
      let one = settles-by p (window_of p.number v.state.windows) x e refl (at 0 p refl) own in
      (one.0, one.1, one.2, more (λ k q there. at (suc k) q there)))
      (places v.state) xs es h at

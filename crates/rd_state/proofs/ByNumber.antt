-- Lists by numbers: what stands under one, and the windows of a state.
use Rattle.std.proofs.Common.{◌≡◌, ◌≢◌, ℕ, zero, suc, ◌+◌, ◌<◌, ◌⊎◌, inl, inr, ◌==◌, false, not, if◌then◌else◌, Option, None, Some, List, [], ◌∷◌, ◌++◌, length, map, nat_lt, set, get_or, subst, sym, ap, refl, ◌∙◌, arith}
use Rattle.std.proofs.lemmas.Bool.{cases_eq, cond-false, cond-true, eq-eqb, eqb-true, ltb-false, ne_eqb, not_from_false, not_from_true}
use Rattle.std.proofs.lemmas.List.Elements.{recursion_from_All}
use Rattle.std.proofs.lemmas.List.Sums.{fails_before_first}
use Rattle.std.proofs.lemmas.Map.{lookup-none}
use Rattle.std.proofs.lemmas.Map.Entries.{place_from_lookup}
use Rattle.std.proofs.lemmas.Option.{none-some, slice_get-get_or}
use Rattle.std.specs.Prelude.{slice_get, option_map, position, IsSome}
use Rattle.std.specs.List.{remove}
use Rattle.std.specs.Option.{option_or}
use Rattle.rd_base.proofs.Choices.{none-chosen, some-mapped}
use Rattle.rd_state.specs.declared.window.WindowState.{WindowState}
use Rattle.rd_state.proofs.Options.{one-value}
use Rattle.rd_state.specs.Windows.{under, window_of, place_in, kept_as, becoming, changed_under, removed_under, AreApart, NumberedWindow}

-- ---- the first thing, and the others

pub under-here : {X : Type 0} (n : ℕ) (e : ℕ × X) (rest : List (ℕ × X)) → e.0 ≡ n → under n (e ∷ rest) ≡ Some e.1
under-here n e rest h = cond-true (e.0 == n) (Some e.1) (under n rest) (eq-eqb e.0 n h)

pub under-there : {X : Type 0} (n : ℕ) (e : ℕ × X) (rest : List (ℕ × X)) → e.0 ≢ n → under n (e ∷ rest) ≡ under n rest
under-there n e rest h = cond-false (e.0 == n) (Some e.1) (under n rest) (ne_eqb e.0 n h)

becoming-here : {X : Type 0} (n : ℕ) (f : X → Option X) (e : ℕ × X) (rest : List (ℕ × X)) → e.0 ≡ n → becoming n f (e ∷ rest) ≡ kept_as e.0 (f e.1) rest
becoming-here n f e rest h = cond-true (e.0 == n) _ _ (eq-eqb e.0 n h)

becoming-there : {X : Type 0} (n : ℕ) (f : X → Option X) (e : ℕ × X) (rest : List (ℕ × X)) → e.0 ≢ n → becoming n f (e ∷ rest) ≡ e ∷ becoming n f rest
becoming-there n f e rest h = cond-false (e.0 == n) _ _ (ne_eqb e.0 n h)

place-here : {X : Type 0} (n : ℕ) (e : ℕ × X) (rest : List (ℕ × X)) → e.0 ≡ n → place_in n (e ∷ rest) ≡ 0
place-here n e rest h = cond-false (not (e.0 == n)) (1 + place_in n rest) 0 (not_from_true (e.0 == n) (eq-eqb e.0 n h))

place-there : {X : Type 0} (n : ℕ) (e : ℕ × X) (rest : List (ℕ × X)) → e.0 ≢ n → place_in n (e ∷ rest) ≡ 1 + place_in n rest
place-there n e rest h = cond-true (not (e.0 == n)) (1 + place_in n rest) 0 (not_from_false (e.0 == n) (ne_eqb e.0 n h))

-- ---- finding

pub get-window : (n : ℕ) (ws : List NumberedWindow) (w : WindowState) → window_of n ws ≡ Some w → (k : ℕ) × (slice_get ws k ≡ Some (n, w))
get-window n ws w h =
    let at = place_from_lookup (λ k. k == n) ws w h in
    (at.0, at.2 ∙ ap (λ (k : ℕ). Some (k, w)) (eqb-true at.1 n at.3))

-- a thing that stands at the place of a number
pub record IsFound {X : Type 0} (n i : ℕ) (es : List (ℕ × X)) (e : ℕ × X) : Type 0 where
  pub at : slice_get es i ≡ Some e
  pub number : e.0 ≡ n
  pub stands : under n es ≡ Some e.1
  pub changed : (f : X → X) → set es i (e.0, f e.1) ≡ changed_under n f es
  pub removed : remove es i ≡ removed_under n es

one-further : {X : Type 0} (n j : ℕ) (d : ℕ × X) (rest : List (ℕ × X)) (e : ℕ × X) → d.0 ≢ n → IsFound n j rest e → IsFound n (suc j) (d ∷ rest) e
one-further {X} n j d rest e q p = record {
  at = p.at;
  number = p.number;
  stands = under-there n d rest q ∙ p.stands;
  changed = λ f. ap (λ (xs : List (ℕ × X)). d ∷ xs) (p.changed f) ∙ sym (becoming-there n (λ x. Some (f x)) d rest q);
  removed = ap (λ (xs : List (ℕ × X)). d ∷ xs) p.removed ∙ sym (becoming-there n (λ x. None) d rest q);
}

pub found-at : {X : Type 0} (n i : ℕ) (es : List (ℕ × X)) → i ≡ place_in n es → i < length es → (e : ℕ × X) × IsFound n i es e
found-at n i [] is less = absurd (omega arith)
found-at n zero (e ∷ rest) is less = elim (cases_eq e.0 n) [
  | inl p ↦ (
    e,
    record {
      at = refl;
      number = p;
      stands = under-here n e rest p;
      changed = λ f. sym (becoming-here n (λ x. Some (f x)) e rest p);
      removed = sym (becoming-here n (λ x. None) e rest p);
    },
  )
  | inr q ↦ absurd (omega (arith, place-there n e rest q, is))
]
found-at n (suc j) (d ∷ rest) is less = elim (cases_eq d.0 n) [
  | inl p ↦ absurd (omega (arith, place-here n d rest p, is))
  | inr q ↦
      let there = found-at n j rest (omega (arith, place-there n d rest q, is)) (omega arith) in
      (there.0, one-further n j d rest there.0 q there.1)
]

pub found-under : {X : Type 0} (n i : ℕ) (es : List (ℕ × X)) (e : ℕ × X) → i ≡ place_in n es → i < length es → e ≡ get_or es i e → IsFound n i es e
found-under n i es e is less at =
    let there = found-at n i es is less in
    let same : there.0 ≡ e = cc (sym there.1.at ∙ (slice_get-get_or es i e less ∙ ap Some (sym at))) in
    subst (IsFound n i es) same there.1

-- where no place is found nothing stands under the number
pub nowhere : {X : Type 0} (n : ℕ) (es : List (ℕ × X)) → position (λ e. e.0 == n) es ≡ None → under n es ≡ None
nowhere {X} n es h =
    let past = ltb-false (place_in n es) (length es) (none-chosen (nat_lt (place_in n es) (length es)) (place_in n es) None h).0 in
    lookup-none (λ k. k == n) es (recursion_from_All (λ (e : ℕ × X). (e.0 == n) ≡ false) es (λ k d p. fails_before_first (λ (e : ℕ × X). e.0 == n) es k d (omega (arith, past, p))))

-- ---- what becomes something else, or goes

kept-past : {X : Type 0} (n m : ℕ) (o : Option X) (rest : List (ℕ × X)) → n ≢ m → under m (kept_as n o rest) ≡ under m rest
kept-past n m None rest other = refl
kept-past n m (Some x) rest other = under-there m (n, x) rest other

-- where what stands under a number becomes something else, or goes, all else stays, and so does the number where nothing stands under it
pub under-past : {X : Type 0} (n m : ℕ) (f : X → Option X) (es : List (ℕ × X)) → (m ≡ n → under m es ≡ None) → under m (becoming n f es) ≡ under m es
under-past n m f [] ne = refl
under-past n m f (e ∷ rest) ne = elim (cases_eq e.0 n) [
  | inl p ↦
      let other : e.0 ≢ m = λ r. none-some e.1 (sym (ne (sym r ∙ p)) ∙ under-here m e rest r) in
      ap (under m) (becoming-here n f e rest p) ∙ (kept-past e.0 m (f e.1) rest other ∙ sym (under-there m e rest other))
  | inr q ↦ ap (under m) (becoming-there n f e rest q) ∙ elim (cases_eq e.0 m) [
    | inl r ↦ under-here m e (becoming n f rest) r ∙ sym (under-here m e rest r)
    | inr r ↦ under-there m e (becoming n f rest) r ∙ (under-past n m f rest (λ s. sym (under-there m e rest r) ∙ ne s) ∙ sym (under-there m e rest r))
  ]
]

pub under-other : {X : Type 0} (n m : ℕ) (f : X → X) (es : List (ℕ × X)) → m ≢ n → under m (changed_under n f es) ≡ under m es
under-other n m f es ne = under-past n m (λ x. Some (f x)) es (λ s. absurd (ne s))

-- no window comes to live as another becomes something else
pub none-past : (n m : ℕ) (f : WindowState → Option WindowState) (ws : List NumberedWindow) → window_of m ws ≡ None → window_of m (becoming n f ws) ≡ None
none-past n m f ws h = under-past n m f ws (λ s. h) ∙ h

apart-kept : (n : ℕ) (o : Option WindowState) (rest : List NumberedWindow) → window_of n rest ≡ None → AreApart rest → AreApart (kept_as n o rest)
apart-kept n None rest none h = h
apart-kept n (Some w) rest none h = (none, h)

pub apart-becoming : (n : ℕ) (f : WindowState → Option WindowState) (ws : List NumberedWindow) → AreApart ws → AreApart (becoming n f ws)
apart-becoming n f [] h = tt
apart-becoming n f (e ∷ rest) h = elim (cases_eq e.0 n) [
  | inl p ↦ subst AreApart (sym (becoming-here n f e rest p)) (apart-kept e.0 (f e.1) rest h.0 h.1)
  | inr q ↦ subst AreApart (sym (becoming-there n f e rest q)) (none-past n e.0 f rest h.0, apart-becoming n f rest h.1)
]

pub window-same : (n : ℕ) (f : WindowState → WindowState) (ws : List NumberedWindow) → window_of n (changed_under n f ws) ≡ option_map f (window_of n ws)
window-same n f [] = refl
window-same n f (e ∷ rest) = elim (cases_eq e.0 n) [
  | inl p ↦ ap (window_of n) (becoming-here n (λ w. Some (f w)) e rest p) ∙ (under-here n (e.0, f e.1) rest p ∙ sym (ap (option_map f) (under-here n e rest p)))
  | inr q ↦
      ap (window_of n) (becoming-there n (λ w. Some (f w)) e rest q)
      ∙ (under-there n e (changed_under n f rest) q ∙ (window-same n f rest ∙ sym (ap (option_map f) (under-there n e rest q))))
]

-- a number leads to what it led to, or to what became of that
pub window-with : (n m : ℕ) (f : WindowState → WindowState) (ws : List NumberedWindow)
    → (window_of m (changed_under n f ws) ≡ window_of m ws) ⊎ (window_of m (changed_under n f ws) ≡ option_map f (window_of m ws))
window-with n m f ws = elim (cases_eq m n) [
  | inl p ↦ inr (subst (λ (k : ℕ). window_of k (changed_under n f ws) ≡ option_map f (window_of k ws)) (sym p) (window-same n f ws))
  | inr q ↦ inl (under-other n m f ws q)
]

pub some-with : (n m : ℕ) (f : WindowState → WindowState) (ws : List NumberedWindow) → IsSome (window_of m ws) → IsSome (window_of m (changed_under n f ws))
some-with n m f ws h = elim (window-with n m f ws) [ inl p ↦ subst IsSome (sym p) h | inr p ↦ subst IsSome (sym p) (some-mapped f (window_of m ws) ∙ h) ]

pub window-gone : (n : ℕ) (ws : List NumberedWindow) → AreApart ws → window_of n (removed_under n ws) ≡ None
window-gone n [] h = refl
window-gone n (e ∷ rest) h = elim (cases_eq e.0 n) [
  | inl p ↦ ap (window_of n) (becoming-here n (λ w. None) e rest p) ∙ (ap (λ (k : ℕ). window_of k rest) (sym p) ∙ h.0)
  | inr q ↦ ap (window_of n) (becoming-there n (λ w. None) e rest q) ∙ (under-there n e (removed_under n rest) q ∙ window-gone n rest h.1)
]

-- ---- a window that comes

pub window-end : (m : ℕ) (ws : List NumberedWindow) (e : NumberedWindow) → window_of m (ws ++ e ∷ []) ≡ option_or (window_of m ws) (if e.0 == m then Some e.1 else None)
window-end m [] e = refl
window-end m (x ∷ rest) e = elim (cases_eq x.0 m) [
  | inl p ↦ under-here m x (rest ++ e ∷ []) p ∙ sym (ap (λ (o : Option WindowState). option_or o (if e.0 == m then Some e.1 else None)) (under-here m x rest p))
  | inr q ↦
      under-there m x (rest ++ e ∷ []) q
      ∙ (window-end m rest e ∙ sym (ap (λ (o : Option WindowState). option_or o (if e.0 == m then Some e.1 else None)) (under-there m x rest q)))
]

pub apart-end : (ws : List NumberedWindow) (e : NumberedWindow) → AreApart ws → window_of e.0 ws ≡ None → AreApart (ws ++ e ∷ [])
apart-end [] e h none = (refl, tt)
apart-end (x ∷ rest) e h none =
    let other : x.0 ≢ e.0 = λ p. none-some x.1 (sym none ∙ under-here e.0 x rest p) in
    let further : window_of e.0 rest ≡ None = sym (under-there e.0 x rest other) ∙ none in
    let past : (if e.0 == x.0 then Some e.1 else None) ≡ None = cond-false (e.0 == x.0) (Some e.1) None (ne_eqb e.0 x.0 (λ p. other (sym p))) in (
      window-end x.0 rest e ∙ (ap (λ (o : Option WindowState). option_or o (if e.0 == x.0 then Some e.1 else None)) h.0 ∙ past),
      apart-end rest e h.1 further,
    )

-- ---- all windows

-- what stands under each number became something else
abbrev pub became : {X Y : Type 0} → (ℕ → X → Y) → ℕ × X → ℕ × Y
became f e = (e.0, f e.0 e.1)

pub under-became : {X Y : Type 0} (f : ℕ → X → Y) (n : ℕ) (es : List (ℕ × X)) → under n (map (became f) es) ≡ option_map (f n) (under n es)
under-became f n [] = refl
under-became f n (e ∷ rest) = elim (cases_eq e.0 n) [
  | inl p ↦ under-here n (became f e) (map (became f) rest) p ∙ (ap (λ k. Some (f k e.1)) p ∙ sym (ap (option_map (f n)) (under-here n e rest p)))
  | inr q ↦ under-there n (became f e) (map (became f) rest) q ∙ (under-became f n rest ∙ sym (ap (option_map (f n)) (under-there n e rest q)))
]

pub apart-became : (f : ℕ → WindowState → WindowState) (ws : List NumberedWindow) → AreApart ws → AreApart (map (became f) ws)
apart-became f [] h = tt
apart-became f (e ∷ rest) h = (under-became f e.0 rest ∙ ap (option_map (f e.0)) h.0, apart-became f rest h.1)

-- windows that become others under their numbers
abbrev pub each_by : (WindowState → WindowState) → NumberedWindow → NumberedWindow
each_by f e = (e.0, f e.1)

pub window-each : (n : ℕ) (f : WindowState → WindowState) (ws : List NumberedWindow) → window_of n (map (each_by f) ws) ≡ option_map f (window_of n ws)
window-each n f ws = under-became (λ k. f) n ws

-- ---- windows that correspond

-- what holds of each window that lives before and after
abbrev pub Each : (ℕ → WindowState → WindowState → Type 0) → List NumberedWindow → List NumberedWindow → Type 0
Each R ws vs = (number : ℕ) (w v : WindowState) → window_of number ws ≡ Some w → window_of number vs ≡ Some v → R number w v

-- windows all of which become others
pub each-moved : (R : ℕ → WindowState → WindowState → Type 0) (f : WindowState → WindowState) (ws : List NumberedWindow) → ((number : ℕ) (w : WindowState) → R number w (f w)) → Each R ws (map (each_by f) ws)
each-moved R f ws moved number w v h k =
    let after : option_map f (window_of number ws) ≡ Some v = sym (window-each number f ws) ∙ k in
    let is : f w ≡ v = cc (sym (ap (option_map f) h) ∙ after) in
    subst (R number w) is (moved number w)

module _ (R : ℕ → WindowState → WindowState → Type 0) (stays : (number : ℕ) (w : WindowState) → R number w w) where
  stays-found : (number : ℕ) (ws : List NumberedWindow) (w v : WindowState) → window_of number ws ≡ Some w → window_of number ws ≡ Some v → R number w v
  stays-found number ws w v h k = subst (R number w) (one-value (window_of number ws) w v h k) (stays number w)

  pub each-same : (ws : List NumberedWindow) → Each R ws ws
  each-same ws number w v h k = stays-found number ws w v h k

  -- windows of which one becomes another
  pub each-with : (n : ℕ) (f : WindowState → WindowState) (ws : List NumberedWindow) → ((w : WindowState) → R n w (f w)) → Each R ws (changed_under n f ws)
  each-with n f ws changed number w v h k = elim (cases_eq number n) [
    | inl p ↦
        let here : window_of n ws ≡ Some w = ap (λ (m : ℕ). window_of m ws) (sym p) ∙ h in
        let after : option_map f (window_of n ws) ≡ Some v = sym (window-same n f ws) ∙ (ap (λ (m : ℕ). window_of m (changed_under n f ws)) (sym p) ∙ k) in
        let is : f w ≡ v = cc (sym (ap (option_map f) here) ∙ after) in
        subst (λ (m : ℕ). R m w v) (sym p) (subst (R n w) is (changed w))
    | inr q ↦ stays-found number ws w v h (sym (under-other n number f ws q) ∙ k)
  ]

  -- windows to which one is added
  pub each-end : (ws : List NumberedWindow) (e : NumberedWindow) → Each R ws (ws ++ e ∷ [])
  each-end ws e number w v h k =
      let other = if e.0 == number then Some e.1 else None in
      let after : option_or (window_of number ws) other ≡ Some v = sym (window-end number ws e) ∙ k in
      let is : w ≡ v = cc (sym (ap (λ (o : Option WindowState). option_or o other) h) ∙ after) in
      subst (R number w) is (stays number w)

  -- windows of which one goes
  pub each-without : (n : ℕ) (ws : List NumberedWindow) → AreApart ws → Each R ws (removed_under n ws)
  each-without n ws apart number w v h k = elim (cases_eq number n) [
    | inl p ↦ absurd (none-some v (sym (window-gone n ws apart) ∙ (ap (λ (m : ℕ). window_of m (removed_under n ws)) (sym p) ∙ k)))
    | inr q ↦ stays-found number ws w v h (sym (under-past n number (λ x. None) ws (λ s. absurd (q s))) ∙ k)
  ]

-- ---- places and numbers

-- no later window has the number of the first
pub window-at : (n : ℕ) (ws : List NumberedWindow) (k : ℕ) (e : NumberedWindow) → AreApart ws → slice_get ws k ≡ Some e → e.0 ≡ n → window_of n ws ≡ Some e.1
window-at n [] k e apart h is = absurd (cc)
window-at n (x ∷ rest) zero e apart h is =
    let same : x ≡ e = cc in
    under-here n x rest (ap (λ (y : NumberedWindow). y.0) same ∙ is) ∙ ap (λ (y : NumberedWindow). Some y.1) same
window-at n (x ∷ rest) (suc k) e apart h is = elim (cases_eq x.0 n) [
  | inl p ↦ absurd (none-some e.1 (sym (ap (λ (m : ℕ). window_of m rest) (sym p) ∙ apart.0) ∙ window-at n rest k e apart.1 h is))
  | inr q ↦ under-there n x rest q ∙ window-at n rest k e apart.1 h is
]

-- ---- what holds of each window

-- a window that lives behind lived before, where none comes
pub some-before : (n : ℕ) (ws us : List NumberedWindow) → (window_of n ws ≡ None → window_of n us ≡ None) → (w : WindowState) × (window_of n us ≡ Some w) → (u : WindowState) × (window_of n ws ≡ Some u)
some-before n ws us none l = by (window_of n ws) refl where
  by : (o : Option WindowState) → window_of n ws ≡ o → (u : WindowState) × (window_of n ws ≡ Some u)
  by None is = absurd (none-some l.0 (sym (none is) ∙ l.1))
  by (Some u) is = (u, is)

-- what holds of a window that lives is handed on as something else
abbrev pub Hands : (WindowState → Type 0) → (WindowState → Type 0) → List NumberedWindow → ℕ → WindowState → WindowState → Type 0
Hands P Q ws number w v = window_of number ws ≡ Some w → P w → Q v

pub each-under : (P Q : WindowState → Type 0) (ws us : List NumberedWindow) → AreApart us → ((n : ℕ) → window_of n ws ≡ None → window_of n us ≡ None) → Each (Hands P Q ws) ws us
    → ((k : ℕ) (e : NumberedWindow) → slice_get ws k ≡ Some e → P e.1) → (k : ℕ) (e : NumberedWindow) → slice_get us k ≡ Some e → Q e.1
each-under P Q ws us apart none hands old k e h =
    let lives = window-at e.0 us k e apart h refl in
    let was = some-before e.0 ws us (none e.0) (e.1, lives) in
    let at = get-window e.0 ws was.0 was.1 in
    hands e.0 was.0 e.1 was.1 lives was.1 (old at.0 (e.0, was.0) at.1)

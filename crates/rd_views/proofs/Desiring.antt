-- What laying out all windows gives, window by window.
use Rattle.std.proofs.Common.{◌≡◌, inl, inr, ℕ, suc, ◌+◌, ◌≤◌, not, is_some, if◌then◌else◌, Option, None, Some, List, [], ◌∷◌, ◌++◌, length, drop, sym, ap, refl, subst, subst₂, ◌∙◌, arith, append_assoc, append-nil, unwrap_or}
use Rattle.std.proofs.lemmas.Bool.{cases_eq, false≢true}
use Rattle.std.specs.List.{flat_map}
use Rattle.std.specs.Prelude.{IfSome, slice_get}
use Rattle.rd_base.proofs.Lists.{drop-at, none-left}
use Rattle.rd_start.specs.Chosen.{chosen_of}
use Rattle.rd_state.specs.States.{StateValue}
use Rattle.rd_state.specs.Windows.{window_of}
use Rattle.rd_state.specs.declared.window.WindowState.{WindowState}
use Rattle.rd_tree.proofs.Listing.{AreApart, placed-here, placed-there}
use Rattle.rd_tree.specs.Windows.{of_number}
use Rattle.rd_tree.specs.declared.placed.Placed.{Placed}
use Rattle.rd_ucd.specs.Data.{Data}
use Rattle.rd_window.specs.Layouts.{IsLaidOut, TellsEnds, layout_after, rests}
use Rattle.rd_window.specs.Views.{WindowView}
use Rattle.rd_window.specs.declared.layout.Layout.{Layout}
use Rattle.rd_layout.specs.Redisplays.{AreLaidOut, IsLaidOutBy, allowance_by, allowances}
use Rattle.rd_layout.specs.Sessions.{SessionValue, layout_of}
use Rattle.rd_layout.specs.Windows.{of_place, of_window, view_in, wanted_of, window_shape, window_source}
use Rattle.rd_layout.proofs.Known.{Last}
use Rattle.rd_state.proofs.ByNumber.{under-there}
use Rattle.rd_views.specs.Layings.{AreDesired, AreOnce, IsDesiredAt, IsDesiredBy, layout_in, layout_taken, layouts_taken, no_layout, shown_by, views_taken, window_in}
use Rattle.rd_views.specs.declared.desired.LaidWindow.{LaidWindow}
use Rattle.rd_views.specs.declared.laying.TextLaying.{TextLaying}

-- ---- one window

module _ (files : Data) (s : StateValue) (place : Placed) (w : WindowState) where
  abbrev pub IsNew : Option Layout → Layout → Type 0
  IsNew last new = IsLaidOut last (window_source files s w) (window_shape s w place) (wanted_of s w place) new

  abbrev pub Tells : TextLaying → Layout → Type 0
  Tells laid = TellsEnds laid.ends (window_source files s w) (window_shape s w place) (wanted_of s w place)

  -- what holds of the layout that a window has holds of the one that is taken
  kept-layout : (P : Layout → Type 0) (last anew : Option Layout) → IfSome (layout_after last anew) P
      → is_some anew ≡ not (rests last (window_source files s w) (window_shape s w place) (wanted_of s w place))
      → P (if is_some anew then unwrap_or anew no_layout else unwrap_or last (unwrap_or anew no_layout))
  kept-layout P last (Some new) own is = own
  kept-layout P (Some l) None own is = own
  kept-layout P None None own is = absurd (false≢true is)

  pub desired-window : (last : Option Layout) (laid : TextLaying) → laid.laying.chosen ≡ chosen_of (window_source files s w) (window_shape s w place) (wanted_of s w place)
      → IfSome (layout_after last laid.laying.anew) (IsNew last) → IfSome (layout_after last laid.laying.anew) (Tells laid) → is_some laid.laying.anew ≡ not (rests last (window_source files s w) (window_shape s w place) (wanted_of s w place))
      → IsDesiredAt files s last place w (window_in laid) (place.number, layout_in laid)
  desired-window last laid chosen new tells is = record {
    number = refl;
    chosen = chosen;
    layout = kept-layout (IsNew last) last laid.laying.anew new is;
    tells = kept-layout (Tells laid) last laid.laying.anew tells is;
  }

-- ---- one window more

-- what is held so far, with what is held of the windows that are left, is what is held of all
abbrev pub Leads : SessionValue → List Placed → List Placed → List LaidWindow → List Last → Type 0
Leads v all left xs es = (ys : List LaidWindow) (fs : List Last) → AreDesired v left ys fs → AreDesired v all (xs ++ ys) (es ++ fs)

pub next-leads : (v : SessionValue) (all : List Placed) (i : ℕ) (p : Placed) (xs : List LaidWindow) (es : List Last) (x : LaidWindow) (e : Last) → slice_get all i ≡ Some p
    → IsDesiredBy v.files v.state (layout_of p.number v.layouts) p (window_of p.number v.state.windows) x e → Leads v all (drop i all) xs es
    → Leads v all (drop (i + 1) all) (xs ++ x ∷ []) (es ++ e ∷ [])
next-leads v all i p xs es x e at one leads ys fs h =
    subst₂ (λ (us : List LaidWindow) (ws : List Last). AreDesired v all us ws) (sym (append_assoc xs (x ∷ []) ys)) (sym (append_assoc es (e ∷ []) fs))
    (leads (x ∷ ys) (e ∷ fs) (subst (λ (ps : List Placed). AreDesired v ps (x ∷ ys) (e ∷ fs)) (sym (drop-at all i p at)) (one, h)))

pub all-lead : (v : SessionValue) (all : List Placed) (i : ℕ) (xs : List LaidWindow) (es : List Last) → slice_get all i ≡ None → Leads v all (drop i all) xs es → AreDesired v all xs es
all-lead v all i xs es at leads =
    subst₂ (λ (us : List LaidWindow) (ws : List Last). AreDesired v all us ws) (append-nil xs) (append-nil es)
    (leads [] [] (subst (λ (ps : List Placed). AreDesired v ps [] []) (sym (none-left all i at)) tt))

-- ---- the allowance that is left

pub next-left : (v : SessionValue) (all : List Placed) (i : ℕ) (p : Placed) → slice_get all i ≡ Some p
    → allowances v (drop i all) ≡ allowance_by v.files v.state (layout_of p.number v.layouts) p (window_of p.number v.state.windows) + allowances v (drop (i + 1) all)
next-left v all i p at = ap (allowances v) (drop-at all i p at)

pub so-far : (before after a left rest total : ℕ) → before + left ≤ total → left ≡ a + rest → after ≤ before + a → after + rest ≤ total
so-far before after a left rest total h is g = omega (arith, h, is, g)

pub at-most : (before after a left rest total : ℕ) → before + left ≤ total → left ≡ a + rest → after ≤ before + a → after ≤ total
at-most before after a left rest total h is g = omega (arith, h, is, g)

-- ---- what follows

module _ (v : SessionValue) where
  laid-by : (p : Placed) (o : Option WindowState) (x : LaidWindow) (e : Last) → IsDesiredBy v.files v.state (layout_of p.number v.layouts) p o x e
      → (e.0 ≡ p.number) × IsLaidOutBy v.files v.state (layout_of p.number v.layouts) p o (layout_taken (layout_of e.0 v.layouts) x e.1)
  laid-by p None x e h = absurd h
  laid-by p (Some w) x e h = (
    h.number,
    subst (λ (n : ℕ). IsLaidOutBy v.files v.state (layout_of p.number v.layouts) p (Some w) (layout_taken (layout_of n v.layouts) x e.1)) (sym h.number) h.layout,
  )

  tells-by : (p : Placed) (w : WindowState) (x : LaidWindow) (e : Last) → IsDesiredAt v.files v.state (layout_of p.number v.layouts) p w x e
      → TellsEnds x.ends (window_source v.files v.state w) (window_shape v.state w p) (wanted_of v.state w p) (layout_taken (layout_of e.0 v.layouts) x e.1)
  tells-by p w x e h =
      subst (λ (n : ℕ). TellsEnds x.ends (window_source v.files v.state w) (window_shape v.state w p) (wanted_of v.state w p) (layout_taken (layout_of n v.layouts) x e.1)) (sym h.number) h.tells

  -- what holds of no window, and of one more where it holds of the others, holds of all that are laid out
  pub each-desired : (C : List Placed → List LaidWindow → List Last → Type 0) → C [] [] []
      → ((p : Placed) (x : LaidWindow) (e : Last) (ps : List Placed) (xs : List LaidWindow) (es : List Last)
      → IsDesiredBy v.files v.state (layout_of p.number v.layouts) p (window_of p.number v.state.windows) x e → AreDesired v ps xs es → C ps xs es → C (p ∷ ps) (x ∷ xs) (e ∷ es))
      → (ps : List Placed) (xs : List LaidWindow) (es : List Last) → AreDesired v ps xs es → C ps xs es
  each-desired C none more [] [] [] h = none
  each-desired C none more [] [] (e ∷ es) h = absurd h
  each-desired C none more [] (x ∷ xs) es h = absurd h
  each-desired C none more (p ∷ ps) [] es h = absurd h
  each-desired C none more (p ∷ ps) (x ∷ xs) [] h = absurd h
  each-desired C none more (p ∷ ps) (x ∷ xs) (e ∷ es) h = more p x e ps xs es h.0 h.1 (each-desired C none more ps xs es h.1)

  -- the layouts that windows have once they are taken are new ones
  pub laid-out : (ps : List Placed) (xs : List LaidWindow) (es : List Last) → AreDesired v ps xs es → AreLaidOut v ps (layouts_taken v.layouts xs es)
  laid-out = each-desired (λ ps xs es. AreLaidOut v ps (layouts_taken v.layouts xs es)) tt (λ p x e ps xs es own rest more.
      let one = laid-by p (window_of p.number v.state.windows) x e own in
      (one.0, one.1, more))

  abbrev view : Placed → WindowState → WindowView
  view p w = view_in v.files v.state w p

  view-by : (p : Placed) (o : Option WindowState) (x : LaidWindow) (e : Last) (rest more : List WindowView) → IsDesiredBy v.files v.state (layout_of p.number v.layouts) p o x e → rest ≡ more
      → shown_by x (layout_taken (layout_of e.0 v.layouts) x e.1) ∷ rest ≡ of_window view p o ++ more
  view-by p None x e rest more h is = absurd h
  view-by p (Some w) x e rest more h is =
      let laid = (laid-by p (Some w) x e h).1 in
      let chosen = h.chosen in
      let tells = tells-by p w x e h in
      λ i. record { anchor = (chosen i).anchor; point = (chosen i).point; rows = laid.rows i; top = tells.top i; bottom = tells.bottom i } ∷ is i

  -- the windows show what the rules give
  pub views-are : (ps : List Placed) (xs : List LaidWindow) (es : List Last) → AreDesired v ps xs es → views_taken v.layouts xs es ≡ flat_map (of_place view v.state) ps
  views-are = each-desired (λ ps xs es. views_taken v.layouts xs es ≡ flat_map (of_place view v.state) ps) refl (λ p x e ps xs es own rest same.
      view-by p (window_of p.number v.state.windows) x e (views_taken v.layouts xs es) (flat_map (of_place view v.state) ps) own same)

  pub same-count : (ps : List Placed) (xs : List LaidWindow) (es : List Last) → AreDesired v ps xs es → length es ≡ length xs
  same-count = each-desired (λ ps xs es. length es ≡ length xs) refl (λ p x e ps xs es own rest same. ap suc same)

  number-by : (p : Placed) (o : Option WindowState) (x : LaidWindow) (e : Last) → IsDesiredBy v.files v.state (layout_of p.number v.layouts) p o x e → e.0 ≡ p.number
  number-by p o x e h = (laid-by p o x e h).0

  gone : (n : ℕ) (ps : List Placed) (xs : List LaidWindow) (es : List Last) → AreDesired v ps xs es → of_number n ps ≡ None → layout_of n es ≡ None
  gone n = each-desired (λ ps xs es. of_number n ps ≡ None → layout_of n es ≡ None) (λ none. refl) (λ p x e ps xs es own rest left none.
      let same = number-by p (window_of p.number v.state.windows) x e own in
      elim (cases_eq p.number n) [
        | inl is ↦ absurd (cc (sym (placed-here n p ps is) ∙ none))
        | inr other ↦ under-there n e es (λ q. other (sym same ∙ q)) ∙ left (sym (placed-there n p ps other) ∙ none)
      ])

  -- no two layouts have one number
  pub once : (ps : List Placed) (xs : List LaidWindow) (es : List Last) → AreDesired v ps xs es → AreApart ps → AreOnce es
  once = each-desired (λ ps xs es. AreApart ps → AreOnce es) (λ apart. tt) (λ p x e ps xs es own rest more apart.
      let same = number-by p (window_of p.number v.state.windows) x e own in
      (ap (λ (n : ℕ). layout_of n es) same ∙ gone p.number ps xs es rest apart.0, more apart.1))

-- The windows of a tree in order, where no number stands twice.
use Rattle.std.proofs.Common.{◌≡◌, ◌≢◌, inl, inr, ℕ, zero, suc, ◌≤◌, ◌==◌, List, [], ◌∷◌, ◌++◌, Option, None, Some, is_some, refl, sym, ap, ap₂, ◌∙◌, arith}
use Rattle.std.specs.Prelude.{slice_get}
use Rattle.std.specs.Option.{option_map, option_or}
use Rattle.std.proofs.lemmas.Option.{none-some, same_Some, slice_get-map}
use Rattle.std.proofs.lemmas.Bool.{cases_eq, cond-false, cond-true, eq-eqb, ne_eqb}
use Rattle.rd_tree.specs.declared.rect.Rect.{Rect}
use Rattle.rd_tree.specs.declared.placed.Placed.{Placed}
use Rattle.rd_tree.specs.Windows.{Windows, Window, Split, first_part, second_part, leaves, of_number, placed, window_at, times}
use Rattle.rd_tree.proofs.Keeping.{found_held}
use Rattle.rd_tree.proofs.Rooms.{of_number-append}
use Rattle.rd_tree.proofs.Standing.{listed, not_found, once_in_first}

pub placed-here : (n : ℕ) (p : Placed) (ps : List Placed) → p.number ≡ n → of_number n (p ∷ ps) ≡ Some p
placed-here n p ps h = cond-true (p.number == n) (Some p) (of_number n ps) (eq-eqb p.number n h)

pub placed-there : (n : ℕ) (p : Placed) (ps : List Placed) → p.number ≢ n → of_number n (p ∷ ps) ≡ of_number n ps
placed-there n p ps h = cond-false (p.number == n) (Some p) (of_number n ps) (ne_eqb p.number n h)

-- no window has the number of another
abbrev pub AreApart : List Placed → Type 0
AreApart [] = Unit {0}
AreApart (p ∷ ps) = (of_number p.number ps ≡ None) × AreApart ps

-- no number of the first list is one of the second
abbrev Differ : List Placed → List Placed → Type 0
Differ ps qs = (n : ℕ) (p : Placed) → of_number n ps ≡ Some p → of_number n qs ≡ None

rest-differs : (p : Placed) (ps qs : List Placed) → Differ (p ∷ ps) qs → Differ ps qs
rest-differs p ps qs differ n q at = elim (cases_eq p.number n) [
  | inl e ↦ differ n p (placed-here n p ps e)
  | inr e ↦ differ n q (placed-there n p ps e ∙ at)
]

both-apart : (ps qs : List Placed) → AreApart ps → AreApart qs → Differ ps qs → AreApart (ps ++ qs)
both-apart [] qs h g differ = g
both-apart (p ∷ ps) qs h g differ = (
  of_number-append p.number ps qs ∙ ap₂ option_or h.0 (differ p.number p (placed-here p.number p ps refl)),
  both-apart ps qs h.1 g (rest-differs p ps qs differ),
)

pub placed-apart : (windows : Windows) (rect : Rect) → ((n : ℕ) → times n windows ≤ 1) → AreApart (placed windows rect)
placed-apart (Window number mode margins) rect once = (refl, tt)
placed-apart (Split side size first second) rect once =
    let a = first_part side size rect in
    let b = second_part side size rect in
    both-apart (placed first a) (placed second b)
    (placed-apart first a (λ n. omega (arith, once n)))
    (placed-apart second b (λ n. omega (arith, once n)))
    (λ n p at. not_found n second b (once_in_first n second first (omega (arith, once n)) (sym (found_held n first a) ∙ ap is_some at)))

-- each window of a list is found by its number
apart-found : (ps : List Placed) (i : ℕ) (window : Placed) → AreApart ps → slice_get ps i ≡ Some window → of_number window.number ps ≡ Some window
apart-found [] i window apart e = absurd (cc)
apart-found (p ∷ ps) zero window apart e = placed-here window.number p ps (ap (λ (q : Placed). q.number) (same_Some p window e)) ∙ e
apart-found (p ∷ ps) (suc i) window apart e =
    let found = apart-found ps i window apart.1 e in
    elim (cases_eq p.number window.number) [
      | inl same ↦ absurd (none-some window (sym apart.0 ∙ ap (λ n. of_number n ps) same ∙ found))
      | inr other ↦ placed-there window.number p ps other ∙ found
    ]

-- each window of a tree is found by its number
pub listed_found : (windows : Windows) (rect : Rect) → ((n : ℕ) → times n windows ≤ 1) → (i : ℕ) (window : Placed) → slice_get (placed windows rect) i ≡ Some window → window_at window.number windows rect ≡ Some window
listed_found windows rect once i window e = apart-found (placed windows rect) i window (placed-apart windows rect once) e

in_order : (windows : Windows) (rect : Rect) (number i : ℕ) (o : Option Placed) → ((n : ℕ) → times n windows ≤ 1) → slice_get (placed windows rect) i ≡ o → option_map (λ (window : Placed). window.number) o ≡ Some number → window_at number windows rect ≡ o
in_order windows rect number i None once e f = absurd (cc)
in_order windows rect number i (Some window) once e f =
    let same : window.number ≡ number = cc in
    rw (← same) (listed_found windows rect once i window e)

-- the window of a leaf is the one in its place
pub leaf_window : (windows : Windows) (rect : Rect) (i number : ℕ) → ((n : ℕ) → times n windows ≤ 1) → slice_get (leaves windows) i ≡ Some number → window_at number windows rect ≡ slice_get (placed windows rect) i
leaf_window windows rect i number once e =
    in_order windows rect number i (slice_get (placed windows rect) i) once refl
    (sym (slice_get-map (λ (window : Placed). window.number) (placed windows rect) i) ∙ (ap (λ (ns : List ℕ). slice_get ns i) (listed windows rect) ∙ e))

-- The interval of a row that is sent is the least one that holds all differences and cuts no character.
use Rattle.std.proofs.Common.{◌≡◌, if◌then◌else◌, ◌⊎◌, inl, inr, ◌||◌, ℕ, zero, suc, ◌-◌, ◌<◌, ◌≤◌, Bool, true, false, List, [], ◌∷◌, length, get_or, refl, sym, ap, ap₂, ◌∙◌, arith}
use Rattle.std.proofs.lemmas.List.{get_or-take}
use Rattle.std.proofs.lemmas.Bool.{cases_lt}
use Rattle.rd_base.specs.Glyphs.{IsRowAfter}
use Rattle.rd_base.specs.declared.cell.Cell.{Cell}
use Rattle.rd_base.specs.declared.cell.Cell.TheVariants.{Blank, First, Rest}
use Rattle.rd_term.specs.Pictures.{blank}
use Rattle.rd_update.specs.Laws.{IsLeastInterval}
use Rattle.rd_base.specs.Equals.{same_cell}
use Rattle.rd_base.proofs.Equals.{cell-itself}
use Rattle.rd_term.proofs.Walks.{back-stops, back-greatest, on-least}
use Rattle.rd_update.specs.Updates.{first_difference, end_before, end_unlike, end_of_differences, is_rest, goes_on, begin_of, end_of}
use Rattle.rd_update.proofs.Spans.{front-same, first_before, behind-here, behind-step, last-step, end_within, begin-le, end-is}

-- ---- the first and the last difference

-- before the first difference cells are the same
before-first : (k : ℕ) (d : Cell) (old new : List Cell) → k < first_difference old new → same_cell (get_or old k d) (get_or new k d) ≡ true
before-first k d old new lt =
    let front = first_difference old new in
    ap (same_cell (get_or old k d)) (sym (get_or-take front new k d lt) ∙ ap (λ xs. get_or xs k d) (front-same old new) ∙ get_or-take front old k d lt)
    ∙ cell-itself (get_or old k d)

-- from the end of the differences on cells are the same
pub behind-last : {X : Type 0} (same : X → X → Bool) (k : ℕ) (d : X) (old new : List X) → length old ≡ length new → k < length new → end_unlike same old new ≤ k
    → same (get_or old k d) (get_or new k d) ≡ true
behind-last same k d [] [] n lt le = absurd (omega arith)
behind-last same k d [] (y ∷ ys) n lt le = absurd (cc)
behind-last same k d (x ∷ xs) [] n lt le = absurd (cc)
behind-last same zero d (x ∷ xs) (y ∷ ys) n lt le = behind-here (same x y) (end_unlike same xs ys) le
behind-last same (suc k) d (x ∷ xs) (y ∷ ys) n lt le = behind-last same k d xs ys (omega arith) (omega arith) (behind-step (same x y) (end_unlike same xs ys) k le)

-- at the first difference, and at the last, cells differ
first-differs-step : (same : Bool) (n e : ℕ) (x y d : Cell) (xs ys : List Cell) → same_cell x y ≡ same → (0 < e → same_cell (get_or xs n d) (get_or ys n d) ≡ false)
    → 0 < end_before same e → same_cell (get_or (x ∷ xs) (if same then suc n else 0) d) (get_or (y ∷ ys) (if same then suc n else 0) d) ≡ false
first-differs-step true n zero x y d xs ys s h p = absurd (omega arith)
first-differs-step true n (suc e) x y d xs ys s h p = h (omega arith)
first-differs-step false n e x y d xs ys s h p = s

first-differs : (d : Cell) (old new : List Cell) → 0 < end_of_differences old new → same_cell (get_or old (first_difference old new) d) (get_or new (first_difference old new) d) ≡ false
first-differs d [] [] p = absurd (omega arith)
first-differs d [] (y ∷ ys) p = absurd (omega arith)
first-differs d (x ∷ xs) [] p = absurd (omega arith)
first-differs d (x ∷ xs) (y ∷ ys) p = first-differs-step (same_cell x y) (first_difference xs ys) (end_of_differences xs ys) x y d xs ys refl (first-differs d xs ys) p

pub last-differs : {X : Type 0} (same : X → X → Bool) (d : X) (old new : List X) (j : ℕ) → suc j ≡ end_unlike same old new → same (get_or old j d) (get_or new j d) ≡ false
last-differs same d [] [] j p = absurd (omega arith)
last-differs same d [] (y ∷ ys) j p = absurd (omega arith)
last-differs same d (x ∷ xs) [] j p = absurd (omega arith)
last-differs same d (x ∷ xs) (y ∷ ys) j p =
    last-step (λ k. same (get_or (x ∷ xs) k d) (get_or (y ∷ ys) k d) ≡ false) (same x y) (end_unlike same xs ys) j (λ s. s) (last-differs same d xs ys) p

-- ---- columns at which no character goes on

-- a row of whole characters begins with none that goes on
row-begins : (cells : List Cell) → IsRowAfter 0 cells → is_rest (get_or cells 0 blank) ≡ false
row-begins [] h = refl
row-begins (Blank f ∷ cells) h = refl
row-begins (First g f ∷ cells) h = refl
row-begins (Rest ∷ cells) h = absurd h

begin-cuts-none : (old new : List Cell) (column : ℕ) → IsRowAfter 0 old → IsRowAfter 0 new → (column ≡ 0) ⊎ (goes_on old new column ≡ false) → goes_on old new column ≡ false
begin-cuts-none old new column h k (inl e) =
    let both : goes_on old new 0 ≡ false = ap₂ (λ a b. a || b) (row-begins old h) (row-begins new k) in
    ap (goes_on old new) e ∙ both
begin-cuts-none old new column h k (inr e) = e

-- ---- the interval

pub interval-least : (old new : List Cell) → length old ≡ length new → IsRowAfter 0 old → IsRowAfter 0 new → 0 < end_of_differences old new → IsLeastInterval old new (begin_of old new) (end_of old new)
interval-least old new same h k some =
    let first = first_difference old new in
    let last = end_of_differences old new in
    let le = begin-le old new (first_difference old new) in
    record {
      holds = λ j d lt e. (
        elim (cases_lt j (first_difference old new)) [
          | inl less ↦ absurd (let a : true ≡ false = sym (before-first j d old new less) ∙ e in cc)
          | inr past ↦ omega (arith, le, past)
        ],
        elim (cases_lt j (end_of_differences old new)) [
          | inl less ↦ omega (arith, less)
          | inr past ↦ absurd (let a : true ≡ false = sym (behind-last same_cell j d old new same lt past) ∙ e in cc)
        ],
      );
      whole = (begin-cuts-none old new (begin_of old new) h k (back-stops (goes_on old new) first), end-is old new same);
      least = λ from to holds none.
          let inside = end_within same_cell old new in
          let order = first_before old new some in
          let from_first = holds first blank (omega (arith, order, inside)) (first-differs blank old new some) in
          let j = last - 1 in
          let next : suc (last - 1) ≡ end_of_differences old new = omega (arith, some) in
          let to_last = holds j blank (omega (arith, inside, next)) (last-differs same_cell blank old new j next) in
          let few = on-least (goes_on old new) last (length new - last) to none.1 (omega (arith, to_last.1, next)) in
          (back-greatest (goes_on old new) from first none.0 from_first.0, few);
    }

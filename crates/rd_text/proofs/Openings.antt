-- Where a search back along lines stops, and where paragraphs begin.
use Rattle.std.proofs.Common.{◌≡◌, ℕ, zero, suc, ◌+◌, ◌-◌, ◌<◌, ◌≤◌, Bool, true, false, ◌&&◌, ◌||◌, List, [], ◌∷◌, ◌++◌, length, get_or, drop, inl, inr, refl, sym, ap, ◌∙◌, arith}
use Rattle.std.specs.Prelude.{slice_range}
use Rattle.std.proofs.lemmas.Bool.{cases_eq, eq-eqb, ne_eqb, and_parts, or_right}
use Rattle.std.proofs.lemmas.List.Edits.{get_or-between}
use Rattle.rd_base.proofs.Lists.{range-from}
use Rattle.rd_text.specs.Texts.{is_newline, is_blank}
use Rattle.rd_text.specs.Stretches.{opens, closes, separated}
use Rattle.rd_text.specs.Pieces.{IsOpening}
use Rattle.rd_text.proofs.Summaries.{separated-append}
use Rattle.rd_text.proofs.Ranges.{IsLastPiece, range_split}

-- a search back along lines that did not stop met no line of blanks alone
pub some_opening : (codes : List ℕ) (opened : Bool) → (separated codes || (closes codes && opened)) ≡ true
    → ((rest : List ℕ) → opens rest ≡ opened → separated rest ≡ false → separated (codes ++ rest) ≡ false) → false ≡ true
some_opening codes true some none =
    sym (none (10 ∷ []) refl refl) ∙ separated-append codes (10 ∷ []) ∙ ap (λ (b : Bool). b || separated (10 ∷ [])) some
some_opening codes false some none =
    sym (none [] refl refl) ∙ separated-append codes [] ∙ ap (λ (b : Bool). b || separated []) some

pub with_part : (xs : List ℕ) (from at to : ℕ) (piece : List ℕ) → IsLastPiece xs from at piece → at ≤ to → slice_range xs (at - length piece) to ≡ piece ++ slice_range xs at to
with_part xs from at to piece is within =
    range_split xs (at - length piece) at to (omega arith) within ∙ ap (λ (ys : List ℕ). ys ++ slice_range xs at to) (sym is.same)

pub opening_goes : (xs : List ℕ) (from at to : ℕ) (piece : List ℕ) → IsLastPiece xs from at piece → at ≤ to
    → (separated piece || (closes piece && opens (slice_range xs at to))) ≡ false → separated (slice_range xs at to) ≡ false
    → separated (slice_range xs (at - length piece) to) ≡ false
opening_goes xs from at to piece is within none clear =
    ap separated (with_part xs from at to piece is within) ∙ separated-append piece (slice_range xs at to)
    ∙ ap (λ (b : Bool). b || separated (slice_range xs at to)) none ∙ clear

pub opening_found : (xs : List ℕ) (from at to n : ℕ) (piece : List ℕ) (opened : Bool) → IsLastPiece xs from at piece → at ≤ to → to ≤ length xs → 0 < n → n ≤ length piece
    → is_newline (get_or piece (n - 1) 0) ≡ true → opens (slice_range xs at to) ≡ opened → separated (slice_range xs at to) ≡ false
    → ((rest : List ℕ) → opens rest ≡ opened → opens (drop n piece ++ rest) ≡ true)
    → ((rest : List ℕ) → opens rest ≡ opened → separated rest ≡ false → separated (drop n piece ++ rest) ≡ false)
    → IsOpening xs from to (at - length piece + n)
opening_found xs from at to n piece opened is within last some bound newline begins clear goes stays =
    let fits = is.fits in
    let start : ℕ = at - length piece in
    let part : slice_range xs (start + n) to ≡ drop n piece ++ slice_range xs at to
    = range_split xs (start + n) at to (omega arith) within
    ∙ ap (λ (ys : List ℕ). ys ++ slice_range xs at to) (range-from xs start n at (omega arith) ∙ ap (drop n) (sym is.same)) in
    record {
      first = omega arith;
      last = omega arith;
      clear = ap separated part ∙ stays (slice_range xs at to) begins clear;
      newline = λ _.
          ap is_newline (sym (ap (λ (ys : List ℕ). get_or ys (n - 1) 0) is.same ∙ get_or-between xs start at (n - 1) 0 (omega arith)
          ∙ (let e : start + (n - 1) ≡ start + n - 1 = omega arith in ap (λ (k : ℕ). get_or xs k 0) e))) ∙ newline;
      begins = λ _. ap opens part ∙ goes (slice_range xs at to) begins;
    }

-- a list that opens has a first newline with blanks before it
pub record Opened (ys : List ℕ) : Type 0 where
  pub place : ℕ
  pub inside : place < length ys
  pub newline : is_newline (get_or ys place 0) ≡ true
  pub blank : (k : ℕ) → k < place → is_blank (get_or ys k 0) ≡ true

later_blank : (c : ℕ) (cs : List ℕ) (m : ℕ) → is_blank c ≡ true → ((k : ℕ) → k < m → is_blank (get_or cs k 0) ≡ true) → (k : ℕ) → k < suc m → is_blank (get_or (c ∷ cs) k 0) ≡ true
later_blank c cs m here rest zero less = here
later_blank c cs m here rest (suc k) less = rest k (omega arith)

pub opened : (ys : List ℕ) → opens ys ≡ true → Opened ys
opened [] e = absurd (cc)
opened (c ∷ cs) e = elim (cases_eq c 10) [
  | inl is ↦ record { place = 0; inside = omega arith; newline = eq-eqb c 10 is; blank = λ k less. absurd (omega arith) }
  | inr other ↦
      let b = and_parts (is_blank c) (opens cs) (sym (ap (λ (t : Bool). t || (is_blank c && opens cs)) (ne_eqb c 10 other)) ∙ e) in
      let rest = opened cs b.1 in
      record { place = suc rest.place; inside = (let h = rest.inside in omega arith); newline = rest.newline; blank = later_blank c cs rest.place b.0 rest.blank }
]

pub opens_is : (ys : List ℕ) (m : ℕ) → m < length ys → is_newline (get_or ys m 0) ≡ true → ((k : ℕ) → k < m → is_blank (get_or ys k 0) ≡ true) → opens ys ≡ true
opens_is [] m inside newline blank = absurd (omega arith)
opens_is (c ∷ cs) zero inside newline blank = ap (λ (b : Bool). b || (is_blank c && opens cs)) newline
opens_is (c ∷ cs) (suc m) inside newline blank =
    ap (λ (b : Bool). is_newline c || b)
    (ap (λ (b : Bool). b && opens cs) (blank 0 (omega arith)) ∙ opens_is cs m (omega arith) newline (λ k less. blank (suc k) (omega arith))) ∙ or_right (is_newline c) true refl

pub separated_is : (ys : List ℕ) (i j : ℕ) → i < j → j < length ys → is_newline (get_or ys i 0) ≡ true → is_newline (get_or ys j 0) ≡ true
    → ((k : ℕ) → i < k → k < j → is_blank (get_or ys k 0) ≡ true) → separated ys ≡ true
separated_is [] i j order inside first second blank = absurd (omega arith)
separated_is (c ∷ cs) i zero order inside first second blank = absurd (omega arith)
separated_is (c ∷ cs) zero (suc j) order inside first second blank =
    ap (λ (b : Bool). (b && opens cs) || separated cs) first
    ∙ ap (λ (b : Bool). b || separated cs) (opens_is cs j (omega arith) second (λ k less. blank (suc k) (omega arith) (omega arith)))
separated_is (c ∷ cs) (suc i) (suc j) order inside first second blank =
    ap (λ (b : Bool). (is_newline c && opens cs) || b) (separated_is cs i j (omega arith) (omega arith) first second (λ k low high. blank (suc k) (omega arith) (omega arith)))
    ∙ or_right (is_newline c && opens cs) true refl

-- The cells of a line's number: their count, whole glyphs, and colours in their range.
use Rattle.std.proofs.Common.{◌≡◌, ℕ, zero, suc, ◌+◌, ◌-◌, ◌^◌, ◌<◌, ◌≤◌, Bool, true, false, List, [], ◌∷◌, ◌++◌, length, get_or, map, replicate, decimal, Some, All, refl, subst, ap, ◌∙◌, arith, length-append}
use Rattle.std.specs.Prelude.{IfSome, Option, None, nat_le, if◌then◌else◌}
use Rattle.std.proofs.lemmas.Bool.Decides.{nat_tests}
use Rattle.std.proofs.lemmas.Fmt.{decimal_is_IsNumeral}
use Rattle.std.proofs.lemmas.List.{length-map, length-replicate}
use Rattle.std.proofs.lemmas.List.Elements.{All-append, All-cons, All-nil, All-replicate}
use Rattle.std.proofs.lemmas.Str.Parse.{digit_at}
use Rattle.rd_base.specs.Cells.{IsColoured, single}
use Rattle.rd_base.specs.Faces.{plain}
use Rattle.rd_base.specs.Glyphs.{IsGood, IsRowAfter, blanks, is_space}
use Rattle.rd_base.proofs.Colours.{plain-coloured, blanks-coloured}
use Rattle.rd_base.proofs.Rows.{behind-whole, blanks-whole, printable-measured}
use Rattle.rd_base.specs.declared.cell.Cell.{Cell}
use Rattle.rd_base.specs.declared.cell.Cell.TheVariants.{Blank}
use Rattle.rd_margins.specs.Cells.{IsMargin, digit_cells, number_cells, sign}

-- ---- the glyphs

seen : (c : ℕ) → 32 < c → is_space (single c 1) ≡ false
seen c low = grind (arith, nat_tests)

good : (c : ℕ) → 32 < c → c < 127 → IsGood (single c 1)
good c low high = record { measured = printable-measured c (omega arith) high; seen = seen c low }

-- ---- rows

-- decimal digits
abbrev AreDigits : List ℕ → Type 0
AreDigits cs = (i : ℕ) → i < length cs → (48 ≤ get_or cs i 0) × (get_or cs i 0 ≤ 57)

signs-whole : (cs : List ℕ) → AreDigits cs → IsRowAfter 0 (map sign cs)
signs-whole [] digits = tt
signs-whole (c ∷ cs) digits =
    let first = digits 0 (omega arith) in
    (good c (omega (arith, first.0)) (omega (arith, first.1)), signs-whole cs (λ i p. digits (suc i) (omega arith)))

pluses-whole : (n : ℕ) → IsRowAfter 0 (replicate n (sign 43))
pluses-whole zero = tt
pluses-whole (suc n) = (good 43 (omega arith) (omega arith), pluses-whole n)

-- ---- margins

pub blanks-margin : (n : ℕ) → IsMargin n (blanks n plain)
blanks-margin n = record {
  count = length-replicate n (Blank plain);
  whole = blanks-whole n plain;
  coloured = blanks-coloured n plain plain-coloured;
}

signs-coloured : (cs : List ℕ) → All IsColoured (map sign cs)
signs-coloured [] = All-nil IsColoured
signs-coloured (c ∷ cs) = All-cons IsColoured (sign c) (map sign cs) plain-coloured (signs-coloured cs)

pub beside-margin : (n m : ℕ) (cells more : List Cell) → IsMargin n cells → IsMargin m more → IsMargin (n + m) (cells ++ more)
beside-margin n m cells more a b = record {
  count = length-append cells more ∙ ap (λ (k : ℕ). k + length more) a.count ∙ ap (λ (k : ℕ). n + k) b.count;
  whole = behind-whole 0 cells more a.whole b.whole;
  coloured = All-append IsColoured cells more a.coloured b.coloured;
}

digits-margin : (columns : ℕ) (cs : List ℕ) → AreDigits cs → IsMargin columns (digit_cells columns cs)
digits-margin columns cs digits = by-room (nat_le (length cs) columns) refl where
  by-room : (room : Bool) → nat_le (length cs) columns ≡ room
      → IsMargin columns (if room then blanks (columns - length cs) plain ++ map sign cs else replicate columns (sign 43))
  by-room true e =
      let fits : length cs ≤ columns = grind (arith, nat_tests) in
      let all : columns - length cs + length cs ≡ columns = omega arith in
      let signs : IsMargin (length cs) (map sign cs) = record { count = length-map cs sign; whole = signs-whole cs digits; coloured = signs-coloured cs } in
      subst (λ (n : ℕ). IsMargin n (blanks (columns - length cs) plain ++ map sign cs)) all
      (beside-margin (columns - length cs) (length cs) (blanks (columns - length cs) plain) (map sign cs) (blanks-margin (columns - length cs)) signs)
  by-room false e = record {
    count = length-replicate columns (sign 43);
    whole = pluses-whole columns;
    coloured = All-replicate IsColoured columns (sign 43) plain-coloured;
  }

pub number-margin : (columns line : ℕ) → line < 2 ^ 64 → IsMargin (columns + 1) (number_cells (suc columns) (Some line))
number-margin columns line fits =
    beside-margin columns 1 (digit_cells columns (decimal line)) (Blank plain ∷ [])
    (digits-margin columns (decimal line) (λ i p. digit_at (decimal line) i (decimal_is_IsNumeral line fits).0.1 p)) (blanks-margin 1)

-- a line's number, or none
pub numbers-margin : (columns : ℕ) (line : Option ℕ) → IfSome line (λ n. n < 2 ^ 64) → IsMargin columns (number_cells columns line)
numbers-margin columns None fits = blanks-margin columns
numbers-margin zero (Some line) fits = blanks-margin 0
numbers-margin (suc columns) (Some line) fits =
    subst (λ (n : ℕ). IsMargin n (number_cells (suc columns) (Some line))) (omega arith) (number-margin columns line fits)

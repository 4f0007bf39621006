-- Good glyphs and the cells of whole, coloured rows are small.
use Rattle.std.proofs.Common.{◌≡◌, ℕ, ◌<◌, ◌≤◌, ◌⊎◌, inl, inr, IsTrue, List, ◌∷◌, length, get_or, sym, arith}
use Rattle.std.specs.Prelude.{All}
use Rattle.std.proofs.lemmas.Bool.{cases_lt}
use Rattle.std.proofs.lemmas.Bool.Decides.{nat_tests}
use Rattle.std.proofs.lemmas.List.{get_or_default}
use Rattle.std.proofs.lemmas.List.Elements.{All-head, All-tail, All-cons, All-nil}
use Rattle.std.proofs.Math.Logic.{⊎_swap}
use Rattle.rd_base.specs.Cells.{IsColoured, IsSmall, IsSmallGlyph}
use Rattle.rd_base.specs.Chars.{is_scalar}
use Rattle.rd_base.specs.Glyphs.{IsMeasured, IsGood, IsRowAfter}
use Rattle.rd_base.specs.declared.cell.Glyph.{Glyph}
use Rattle.rd_base.specs.declared.cell.Cell.{Cell}
use Rattle.rd_base.specs.declared.cell.Cell.TheVariants.{Blank, First, Rest}
use Rattle.rd_base.proofs.Rows.{by-cells}

scalar-small : (n : ℕ) → IsTrue (is_scalar n) → n < 2097152
scalar-small n h = grind (arith, nat_tests)

mark-small : (g : Glyph) → IsMeasured g → (k : ℕ) (d : ℕ) → k < length g.marks → (g.count ≤ k) ⊎ (k < g.count) → get_or g.marks k d < 2097152
mark-small g m k d p (inl q) =
    let below : k < 6 = rw (sym m.places) p in
    let zero : get_or g.marks k 0 ≡ 0 = m.rest k q below in
    let here : get_or g.marks k d ≡ get_or g.marks k 0 = get_or_default g.marks k d 0 p in
    omega arith
mark-small g m k d p (inr q) =
    let small = scalar-small (get_or g.marks k 0) (m.marks k q).0 in
    let here : get_or g.marks k d ≡ get_or g.marks k 0 = get_or_default g.marks k d 0 p in
    omega arith

pub good-small : (g : Glyph) → IsGood g → IsSmallGlyph g
good-small g good =
    let m = good.measured in
    record {
      base = scalar-small g.base m.scalar;
      marks = λ k d p. mark-small g m k d p (⊎_swap (cases_lt k g.count));
      places = m.places;
      count = m.count;
      width = m.few;
    }

pub row-small : (due : ℕ) (cells : List Cell) → IsRowAfter due cells → All IsColoured cells → All IsSmall cells
row-small due cells whole =
    let next : (c : Cell) (cells : List Cell) → (IsColoured c → IsSmall c) → (All IsColoured cells → All IsSmall cells) → All IsColoured (c ∷ cells) → All IsSmall (c ∷ cells)
    = λ c cells one so coloured. All-cons IsSmall c cells (one (All-head IsColoured c cells coloured)) (so (All-tail IsColoured c cells coloured)) in
    by-cells (λ due cells. All IsColoured cells → All IsSmall cells) (λ coloured. All-nil IsSmall) (λ f cells so. next (Blank f) cells (λ colours. colours) so)
    (λ g f cells good row so. next (First g f) cells (λ colours. (good-small g good, colours)) so) (λ due cells so. next Rest cells (λ colours. tt) so) due cells whole

-- Marks of one column: they stand whole, in colours of their range.
use Rattle.std.proofs.Common.{[], ◌∷◌, refl, arith}
use Rattle.std.specs.List.{All}
use Rattle.std.proofs.lemmas.List.Elements.{All-nil, All-cons}
use Rattle.rd_base.specs.Cells.{IsColoured, single}
use Rattle.rd_base.specs.declared.cell.Glyph.{Glyph}
use Rattle.rd_base.proofs.Rows.{printable-measured}
use Rattle.rd_rows.specs.Rows.{mark}
use Rattle.rd_rows.specs.Whole.{IsMark}
use Rattle.rd_rows.proofs.Marks as marks

pub mark-coloured : (g : Glyph) → All IsColoured (mark g ∷ [])
mark-coloured g = All-cons IsColoured (mark g) [] (marks.mark-coloured g) (All-nil IsColoured)

-- a vertical bar is a mark
pub bar-mark : IsMark (single 124 1)
bar-mark = record { measured = printable-measured 124 (omega arith) (omega arith); columns = refl }

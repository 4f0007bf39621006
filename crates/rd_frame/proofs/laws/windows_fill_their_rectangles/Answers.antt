use Rattle.std.specs.Prelude.{All}
use Rattle.std.proofs.lemmas.List.Elements.{All-append}
use Rattle.rd_base.specs.Cells.{IsColoured}
use Rattle.rd_base.specs.Faces.{plain}
use Rattle.rd_base.specs.Glyphs.{IsRowAfter}
use Rattle.rd_base.proofs.Colours.{blanks-coloured, plain-coloured}
use Rattle.rd_base.proofs.Rows.{behind-whole, blanks-whole}
use Rattle.rd_frame.proofs.Filling.{window-size, window-each}
use Rattle.rd_frame.proofs.laws.windows_fill_their_rectangles.Goals as goal

pub returns : goal.returns
returns c = record {
  size = window-size;
  whole = window-each (IsRowAfter 0) (behind-whole 0) (λ columns. blanks-whole columns plain);
  coloured = window-each (All IsColoured) (All-append IsColoured) (λ columns. blanks-coloured columns plain plain-coloured);
}

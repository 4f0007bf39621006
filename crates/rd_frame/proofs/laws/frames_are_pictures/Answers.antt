use Rattle.std.proofs.Common.{◌+◌, arith}
use Rattle.std.specs.Prelude.{All}
use Rattle.std.proofs.lemmas.List.Elements.{All-append}
use Rattle.rd_base.specs.Cells.{AreColoured, IsColoured}
use Rattle.rd_base.specs.Faces.{plain}
use Rattle.rd_base.specs.Glyphs.{IsRowAfter}
use Rattle.rd_base.proofs.Choices.{if-value}
use Rattle.rd_base.proofs.Colours.{blanks-coloured, plain-coloured}
use Rattle.rd_base.proofs.Rows.{behind-whole, blanks-whole}
use Rattle.rd_term.specs.Pictures.{IsOfSize, IsWellFormed}
use Rattle.rd_tree.proofs.Composing.{composed-size, composed-whole, composed-coloured}
use Rattle.rd_tree.proofs.Standing.{stands_in}
use Rattle.rd_tree.specs.Calls.{frame_of}
use Rattle.rd_tree.specs.Places.{StandsIn}
use Rattle.rd_frame.specs.Frames.{FrameValues, rows_of, frame_rows, selected_window, frame_picture}
use Rattle.rd_frame.specs.Fits.{FitsFrame, IsWholeFrame, IsColouredFrame}
use Rattle.rd_frame.proofs.Filling.{frame-filled, frame-size, frame-width, echo-each, windows-each}
use Rattle.rd_frame.proofs.laws.frames_are_pictures.Goals as goal

pub returns : goal.returns
returns c = record { size = size; whole = whole; coloured = coloured } where
  size : (f : FrameValues) → FitsFrame f → IsOfSize f.tree.width (f.tree.height + 1) (frame_picture f)
  size f fits =
      let rows = composed-size (rows_of f) f.tree.windows (frame_of f.tree) fits.room (frame-filled f fits) in
      frame-size f rows (if-value (λ window. StandsIn window (frame_of f.tree)) (selected_window f) (λ window e. stands_in f.selected f.tree.windows (frame_of f.tree) window fits.room e)) fits

  whole : (f : FrameValues) → FitsFrame f → IsWholeFrame f → IsWellFormed (frame_picture f)
  whole f fits each =
      let s = size f fits in
      let w = frame-width f s in
      let rows = composed-whole (rows_of f) f.tree.windows (frame_of f.tree) (windows-each (IsRowAfter 0) (behind-whole 0) (λ columns. blanks-whole columns plain) f each) in
      record {
        glyphs = echo-each (IsRowAfter 0) f rows each.echo;
        row = let n = s.rows in let r = s.row in omega arith;
        column = let k = s.column in omega (arith, w);
      }

  coloured : (f : FrameValues) → IsColouredFrame f → AreColoured (frame_rows f)
  coloured f each =
      let rows = composed-coloured (rows_of f) f.tree.windows (frame_of f.tree) (windows-each (All IsColoured) (All-append IsColoured) (λ columns. blanks-coloured columns plain plain-coloured) f each) in
      echo-each (All IsColoured) f rows each.echo

use Rattle.std.proofs.Common.{◌≡◌, ◌+◌}
use Rattle.rd_frame.specs.OneByOne.{painted_from}
use Rattle.rd_layout.specs.Screens.{frame_in}
use Rattle.rd_paint.specs.Shown.{AreShown}
use Rattle.rd_term.specs.Pictures.{Picture}
use Rattle.rd_tree.specs.Compositions.{HasSize}
use Rattle.rd_ucd.specs.Data.{Data}
use Rattle.rd_paint.proofs.frame.paint_windows.Given as goal

abbrev pub invariant-loop-i : goal.invariant-loop-i
invariant-loop-i l = record {
  size : HasSize l.state.tree.width (l.state.tree.height + 1) l.screen.rows;
  others : let p : Picture = record l.fn.screen { rows = l.screen.rows } in l.screen ≡ p;
  rest : (files : Data) → AreShown files l.classes l.state l.windows → painted_from (frame_in files l.state) 0 l.fn.screen.rows ≡ painted_from (frame_in files l.state) l.i l.screen.rows;
}

use Rattle.std.proofs.Common.{◌≡◌, ℕ, ◌+◌, List, length, sym, ap, subst, ◌∙◌}
use Rattle.rd_base.specs.Faces.{plain}
use Rattle.rd_base.specs.declared.cell.Cell.{Cell}
use Rattle.rd_ucd.specs.declared.spans.Span.{Span}
use Rattle.rd_frame.specs.Frames.{FrameValues, frame_cursor, frame_rows, rows_of, selected_window}
use Rattle.rd_frame.specs.Paints.{painted, with_echo}
use Rattle.rd_glyphs.specs.Lines.{plain_cells}
use Rattle.rd_layout.specs.Screens.{frame_in, laid_out}
use Rattle.rd_layout.specs.Windows.{places}
use Rattle.rd_term.specs.Pictures.{Picture}
use Rattle.rd_tree.specs.Compositions.{HasSize}
use Rattle.rd_paint.proofs.OneByOne.{width-is}
use Rattle.rd_paint.proofs.Whole.{blank-size, finished}
use Rattle.rd_paint.proofs.frame.paint_frame.Goals as goal

pub paint_echo-requires : goal.paint_echo-requires
paint_echo-requires c =
    let s = c.args.state.now in
    let frame = c.states_are_valid.ensures.frame in
    ap length c.as_slice.ensures
    ∙ (c.in_ok-echo.ensures.columns
    ∙ (c.frame-width.ensures.width ∙ (sym frame.columns ∙ sym (width-is s.tree.width s.tree.height c.paint_windows.new.screen.rows c.in_ok-paint_windows.ensures.size))))

pub returns : goal.returns
unfolding laid_out
returns c = λ files shown.
    let s = c.args.state.now in
    let f : FrameValues = frame_in files s in
    let frame = c.states_are_valid.ensures.frame in
    let first : Picture = c.in_ok-screen.screen in
    let columns : ℕ = c.frame-width.result.0 in
    let classes : List Span = c.args.classes.now in
    let size : HasSize s.tree.width (s.tree.height + 1) first.rows
    = subst (λ (p : Picture). HasSize s.tree.width (s.tree.height + 1) p.rows) (sym c.in_ok-screen.ensures)
    (blank-size columns c.frame-width.result.1 s.tree.width s.tree.height (c.frame-width.ensures.width ∙ sym frame.columns) (frame.rows ∙ sym c.frame-width.ensures.height)) in
    let echo : c.as_slice.result.now ≡ f.echo
    = c.as_slice.ensures
    ∙ (c.in_ok-echo.ensures.value
    ∙ (ap (λ (n : ℕ). plain_cells classes plain n c.echo.result.now) c.frame-width.ensures.width
    ∙ (ap (plain_cells classes plain s.width) c.echo.ensures ∙ ap (λ (spans : List Span). plain_cells spans plain s.width s.echo) (sym shown.known)))) in
    let windows : List (List Cell) = painted (rows_of f) (places s) first.rows in
    let place : ℕ × ℕ = frame_cursor (selected_window f) f.cursor in
    finished first c.paint_windows.new.screen c.paint_echo.new.screen c.place_selected.new.screen c.as_slice.result.now windows (frame_rows f) place.0 place.1
    (c.in_ok-paint_windows.ensures.painted files shown) c.paint_echo.ensures.painted (c.place_selected.ensures files shown.shown)
    (ap (λ (cells : List Cell). with_echo cells windows) echo ∙ c.windows_are_painted_in_order.ensures.rows f first.rows (c.targets_fit_their_frames.ensures files s c.states_are_valid.ensures) size)

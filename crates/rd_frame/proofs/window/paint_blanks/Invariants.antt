use Rattle.std.specs.Prelude.{◌+◌, ◌-◌, take, replicate}
use Rattle.rd_term.specs.Pictures.{blank_row, width_of}
use Rattle.rd_frame.specs.Panes.{body_height, body_width}
use Rattle.rd_frame.proofs.Screens.{IsLaid}
use Rattle.rd_frame.proofs.window.paint_blanks.Given as goal

abbrev pub invariant-loop-row : goal.invariant-loop-row
invariant-loop-row l =
    IsLaid l.window l.border l.fn.screen l.screen (l.window.rect.y + l.fn.from)
    (take (l.row - l.fn.from) (replicate (body_height l.window - l.fn.from) (blank_row (l.window.margins + body_width (width_of l.fn.screen.rows) l.window))))

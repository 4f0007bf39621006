use Rattle.std.proofs.Common.{length, get_or, ap}
use Rattle.rd_term.specs.Pictures.{width_of}
use Rattle.rd_term.specs.Shifts.{moved}
use Rattle.rd_term.specs.Terminals.{Tty}
use Rattle.rd_term.proofs.Shapes.{whole-moved, length-moved, grid-moved}
use Rattle.rd_term.proofs.terminal.Terminal.shift_rows.Goals as goal

pub invariant_of-self : goal.invariant_of-self
invariant_of-self c =
    let t = c.self.inside in
    let n = get_or c.args.numbers.now 0 0 in
    rw c.move_rows.ensures (
    whole-moved t.rows.items t.cursor t.latest t.region c.in-len1-Some.from c.in-len1-Some.end (moved c.args.way n) c.self.invariant (length-moved c.args.way n) (grid-moved c.args.way (width_of t.rows.items) n)
    (ap (λ (t : Tty). length t.rows) c.self.view_is) c.in-len1-Some.ensures.within)

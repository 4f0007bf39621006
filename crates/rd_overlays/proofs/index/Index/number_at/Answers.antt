use Rattle.std.proofs.Common.{◌≤◌, length, arith}
use Rattle.rd_overlays.proofs.Passing.{number-back}
use Rattle.rd_overlays.proofs.index.Index.number_at.Goals as goal

pub returns-else-place-len : goal.returns-else-place-len
returns-else-place-len c = λ size p.
    let len = c.len.ensures in
    let behind = c.if-place-len.false in
    let low : length c.args.self.now.order ≤ c.args.place = omega (arith, len, behind) in
    number-back c.args.self.now.order size c.args.place low p

use Rattle.std.proofs.Common.{◌<◌, ◌≤◌, length, arith}
use Rattle.rd_audit.proofs.Comparing.{place-missing, place-more}
use Rattle.rd_audit.proofs.compare.other_place.Goals as goal

pub returns-then-row-height : goal.returns-then-row-height
returns-then-row-height c =
    let l = c.loop-row in
    let past : length c.args.terminal.now.rows ≤ l.row = omega (arith, c.if-row-height.true, c.height.ensures) in
    place-missing l.row c.args.rows.now c.args.terminal.now.rows _ c.loop-row-test.true past l.invariant

pub returns-then-height : goal.returns-then-height
returns-then-height c =
    let l = c.loop-row in
    let past : length c.args.rows.now ≤ l.row = omega (arith, c.loop-row-test.false) in
    let less : length c.args.rows.now < length c.args.terminal.now.rows = omega (arith, c.if-height.true, c.height-2.ensures) in
    place-more l.row c.args.rows.now c.args.terminal.now.rows _ l.auto.row-end past less l.invariant

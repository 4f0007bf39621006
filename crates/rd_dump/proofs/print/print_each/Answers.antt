use Rattle.std.proofs.Common.{◌<◌, ◌≤◌, length, arith, rules}
use Rattle.rd_dump.proofs.Writing.{going-done, going-each, going-failed}
use Rattle.rd_dump.proofs.print.print_each.Goals as goal

pub returns-in_err-print : goal.returns-in_err-print
returns-in_err-print g c text each =
    let less : c.loop-item.item-index < length c.args.items.now = search rules in
    going-failed text c.args.items.now c.loop-item.item-index c.item-item.result _ _ _ _ _ _ _ _ _ _ less (c.loop-item.invariant.1 text each)
    (each _ _ _ _ c.in_err-print.ensures) c.from_residual.ensures.0 c.item-item.is

pub loop-item-preserved : goal.loop-item-preserved
loop-item-preserved g c =
    let less : c.loop-item.item-index < length c.args.items.now = search rules in (
      c.loop-item.invariant.0,
      λ text each. going-each text c.args.items.now c.loop-item.item-index c.item-item.result _ _ _ _ _ _ _ _ _ less (c.loop-item.invariant.1 text each)
          (each _ _ _ _ c.in_ok-print.ensures) c.item-item.is,
    )

pub returns : goal.returns
returns g c text each =
    let past : length c.args.items.now ≤ c.loop-item.item-index = omega (arith, c.loop-item.auto.item-index-end, c.loop-item-test.false) in
    going-done text c.args.items.now c.loop-item.item-index _ _ _ _ _ _ past (c.loop-item.invariant.1 text each)

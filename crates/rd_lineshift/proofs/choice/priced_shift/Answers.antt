use Rattle.std.proofs.Common.{◌∙◌, arith}
use Rattle.rd_lineshift.proofs.Moving.{down-cost, up-cost}
use Rattle.rd_lineshift.proofs.choice.priced_shift.Goals as goal

pub returns-then-up-clause-cost : goal.returns-then-up-clause-cost
returns-then-up-clause-cost c = rw c.if-up.true (
    c.unlike_moved.ensures.value
    ∙ up-cost c.args.numbers.now.old.items c.args.numbers.now.new.items c.args.numbers.now.blank c.args.band c.args.by c.requires.length c.requires.band (omega (arith, c.requires.by)))

pub returns-clause-cost : goal.returns-clause-cost
returns-clause-cost c = rw c.if-up.false (
    c.unlike_moved-2.ensures.value
    ∙ down-cost c.args.numbers.now.old.items c.args.numbers.now.new.items c.args.numbers.now.blank c.args.band c.args.by c.requires.length c.requires.band c.requires.some (omega (arith, c.requires.by)))

use Rattle.std.proofs.Common.{length, ap, ◌∙◌}
use Rattle.rd_levels.proofs.order.levels_with.Goals as goal

pub returns-clause-places : goal.returns-clause-places
returns-clause-places c =
    ap length c.in_ok-fill.ensures.ok ∙ c.lines_have_a_level_each.ensures c.args.brackets.now c.args.base c.args.classes.now c.args.codes.now

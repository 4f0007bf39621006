use Rattle.std.proofs.lemmas.Bool.{eqb-true, not-false}
use Rattle.rd_lanes.proofs.Masks.{same_groups}
use Rattle.rd_lanes.proofs.groups.may_differ.Goals as goal

pub returns : goal.returns
returns c h k from to = same_groups c.args.a.now c.args.b.now c.args.at k c.requires.first c.requires.second (eqb-true _ 0 (not-false _ h)) from to

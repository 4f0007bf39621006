use Rattle.std.proofs.lemmas.Bool.{eqb-true, not-false}
use Rattle.rd_lanes.proofs.Masks.{none_reaches}
use Rattle.rd_lanes.proofs.groups.may_reach.Goals as goal

pub returns : goal.returns
returns c h k from to = none_reaches c.args.list.now c.args.at c.args.limit k c.requires (eqb-true _ 0 (not-false _ h)) from to

use Rattle.std.proofs.Common.{◌∙◌}
use Rattle.rd_update.proofs.Comparing.{unequal-differ}
use Rattle.rd_update.proofs.span.differ.Goals as goal

pub returns : goal.returns
returns c = c.ne.ensures ∙ unequal-differ c.args.old.now c.args.new.now c.requires

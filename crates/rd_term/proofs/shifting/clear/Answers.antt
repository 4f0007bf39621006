use Rattle.std.proofs.Common.{◌∙◌}
use Rattle.rd_term.proofs.Erasing.{filled-whole}
use Rattle.rd_term.proofs.shifting.clear.Goals as goal

pub returns : goal.returns
returns c = c.fill.ensures ∙ filled-whole c.args.row.now c.len-end.result c.len-end.ensures

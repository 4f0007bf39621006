use Rattle.rd_explicit.specs.Links.{seq_at}
use Rattle.rd_explicit.proofs.Joining.{none-added}
use Rattle.rd_explicit.proofs.runs.add_sequence.Goals as goal

pub returns-else-at : goal.returns-else-at
returns-else-at c =
    none-added c.args.found.now (seq_at c.args.links.now.links c.args.i c.args.sos) c.args.links.now.begins c.args.i c.at.result c.at.ensures c.if-at.false

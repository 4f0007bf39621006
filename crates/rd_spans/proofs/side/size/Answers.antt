use Rattle.rd_spans.proofs.Sides.{size-last}
use Rattle.rd_spans.proofs.side.size.Goals as goal

pub returns-in-Some : goal.returns-in-Some
returns-in-Some c = size-last c.args.runs.now c.in-Some.run'.now c.in-Some.ensures.value

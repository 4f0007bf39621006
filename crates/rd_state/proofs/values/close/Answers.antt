use Rattle.std.proofs.Common.{length, arith}
use Rattle.rd_spans.specs.Values.{values_closed}
use Rattle.rd_state.proofs.Opening.{all-edited, none-closed}
use Rattle.rd_state.proofs.values.close.Goals as goal

pub returns : goal.returns
returns c = all-edited (λ f. values_closed f c.args.from c.args.to) c.close_first.new.spans c.args.spans.now (length c.args.spans.now) (omega arith)
    (none-closed c.args.from c.args.to) c.close_first.ensures

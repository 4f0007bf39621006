use Rattle.std.proofs.Common.{arith}
use Rattle.rd_spans.specs.Values.{values_closed}
use Rattle.rd_props.specs.Buffers.{values_of}
use Rattle.rd_state.proofs.Opening.{one-more}
use Rattle.rd_state.proofs.values.close_first.Goals as goal

pub loop-kind-preserved : goal.loop-kind-preserved
loop-kind-preserved c = one-more (λ f. values_closed f c.args.from c.args.to) c.loop-kind.spans (values_of c.args.spans.now) c.loop-kind.kind c.index-spans-kind.result
    c.deleted.new.self (omega arith) c.deleted.ensures c.loop-kind.invariant

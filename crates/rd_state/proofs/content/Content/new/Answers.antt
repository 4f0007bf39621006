use Rattle.rd_props.specs.Buffers.{meaning}
use Rattle.rd_state.proofs.Tables.{nothing-within, new-content}
use Rattle.rd_state.proofs.content.Content.new.Goals as goal

pub invariant_of-result : goal.invariant_of-result
invariant_of-result c = nothing-within (meaning c.in_ok-new.field-0) c.in_ok-new.ensures

pub returns : goal.returns
returns c = new-content c.in_ok-new.field-0 c.in_ok-new-2.field-0 c.in_ok-new.ensures c.in_ok-new-2.ensures

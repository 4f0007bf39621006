use Rattle.std.proofs.Common.{◌∙◌, ap}
use Rattle.rd_props.specs.Buffers.{BufferValue}
use Rattle.rd_state.proofs.ByName.{text-at}
use Rattle.rd_state.proofs.buffers.text_at.Goals as goal

pub returns : goal.returns
returns c =
    let at = text-at c.args.buffers.now.entries c.args.i c.index.result.now c.index.ensures in
    (at.0, at.1, ap (λ (b : BufferValue). b.text) c.state.ensures ∙ at.2)

use Rattle.std.proofs.Common.{subst}
use Rattle.rd_props.specs.Buffers.{files_of, meaning}
use Rattle.rd_props.specs.declared.state.View.{View}
use Rattle.rd_matrix.specs.Sources.{IsSource}
use Rattle.rd_blocks.specs.Sources.{source_of}
use Rattle.rd_blocks.proofs.blocks.Blocks.rules.Goals as goal

pub returns : goal.returns
returns c =
    let x = c.self.inside.view in
    subst (λ (w : View). IsSource (source_of w)) c.self.view_is
    (c.buffers_are_sources.ensures (meaning x.state.now) x.objects.now (files_of x) c.begin-begin.ensures.right)

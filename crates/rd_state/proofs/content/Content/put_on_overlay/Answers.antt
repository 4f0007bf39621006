use Rattle.std.proofs.Common.{ap, ◌∙◌}
use Rattle.rd_props.specs.Buffers.{meaning}
use Rattle.rd_overlays.specs.Overlays.{given}
use Rattle.rd_state.proofs.Within.{given-within}
use Rattle.rd_state.proofs.content.Content.put_on_overlay.Goals as goal

pub invariant_of-self : goal.invariant_of-self
invariant_of-self c =
    let b = c.self.inside.state in
    given-within (meaning b) c.set_living.new.self b.settings c.args.number c.args.kind c.in_ok-value.value c.self.invariant
    (c.set_living.ensures ∙ ap (λ n. given b.overlays n c.args.kind c.in_ok-value.value) c.in_ok-living.ensures.0)

use Rattle.std.proofs.Common.{sym, ap, ◌∙◌}
use Rattle.rd_props.specs.Buffers.{meaning}
use Rattle.rd_overlays.specs.Overlays.{moved}
use Rattle.rd_state.proofs.Within.{moved-within}
use Rattle.rd_state.proofs.content.Content.move_overlay.Goals as goal

pub invariant_of-self-2 : goal.invariant_of-self-2
invariant_of-self-2 c =
    let b = c.self.inside.state in
    moved-within (meaning b) c.move_living.new.self b.settings c.args.number c.args.from c.args.to c.self.invariant (sym c.is_range_of_all.ensures.value ∙ c.if-not-is_range_of_all.false)
    (c.in_ok-move_living.ensures.ok ∙ ap (λ n. moved b.overlays n c.args.from c.args.to) c.in_ok-living.ensures.0)

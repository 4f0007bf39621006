use Rattle.std.proofs.Common.{refl, sym, ◌∙◌}
use Rattle.rd_props.specs.Buffers.{meaning}
use Rattle.rd_state.proofs.Within.{made-within}
use Rattle.rd_state.proofs.content.Content.make_overlay.Goals as goal

pub invariant_of-self-2 : goal.invariant_of-self-2
invariant_of-self-2 c =
    let b = c.self.inside.state in
    made-within (meaning b) c.make.new.self b.settings c.args.from c.args.to _ c.self.invariant (sym c.is_range_of_all.ensures.value ∙ c.if-not-is_range_of_all.false)
    c.in_ok-make.ensures.0 refl refl c.in_ok-make.ensures.2

use Rattle.std.proofs.Common.{refl}
use Rattle.rd_state.specs.contracts.parts.StateParts.{the_view}
use Rattle.rd_state.specs.Effects.{effect_of}
use Rattle.rd_state.specs.Steps.{step}
use Rattle.rd_state.proofs.Viewing.{sets-placed}
use Rattle.rd_state.proofs.parts.StateParts.move_point.Goals as goal

pub returns-clause-applies : goal.returns-clause-applies
unfolding step effect_of
returns-clause-applies c =
    let at = c.in_ok-i.ensures in (
      sets-placed c.args.self.now (the_view c.self.inside) c.args.window c.in_ok-i.i c.args.pos _ c.index_mut.result.now (λ p old. record old { point = p })
          c.self.view_is at.place at.inside at.same c.index_mut.ensures.value at.placed,
      refl,
    )

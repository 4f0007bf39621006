use Rattle.std.proofs.Common.{Ok, refl, ap, sym, ◌∙◌}
use Rattle.rd_state.specs.contracts.parts.StateParts.{the_view}
use Rattle.rd_state.specs.Effects.{effect_of}
use Rattle.rd_state.specs.Steps.{step}
use Rattle.rd_state.proofs.Finding.{found-in, at-window}
use Rattle.rd_state.proofs.parts.StateParts.select.Goals as goal

pub returns-clause-applies : goal.returns-clause-applies
unfolding step effect_of
returns-clause-applies c =
    let t = the_view c.self.inside in
    let there = found-in t c.as_slice.result.now c.args.window c.in_ok-i.i c.index.result.now c.as_slice.ensures.value c.in_ok-i.ensures.0 c.in_ok-i.ensures.1 c.index.ensures in (
      at-window c.args.self.now t c.args.window c.in_ok-i.i c.index.result.now (λ x w. Ok (record x { selected = c.args.window })) c.self.view_is there
          ∙ ap (λ n. Ok (record t { selected = n })) (sym there.number),
      refl,
    )

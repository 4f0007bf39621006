use Rattle.std.proofs.Common.{refl}
use Rattle.rd_state.specs.contracts.parts.StateParts.{the_view}
use Rattle.rd_state.specs.declared.window.WindowState.{WindowState}
use Rattle.rd_state.specs.Effects.{effect_of}
use Rattle.rd_state.specs.Steps.{step}
use Rattle.rd_state.proofs.Finding.{found-in, sets-window}
use Rattle.rd_state.proofs.parts.StateParts.scroll_sideways.Goals as goal

pub returns-clause-applies : goal.returns-clause-applies
unfolding step effect_of
returns-clause-applies c =
    let there = found-in (the_view c.self.inside) c.as_slice.result.now c.args.window c.in_ok-i.i c.index_mut.result.now c.as_slice.ensures.value c.in_ok-i.ensures.0 c.in_ok-i.ensures.1 c.index_mut.ensures.value in
    (sets-window c.args.self.now (the_view c.self.inside) c.args.window c.in_ok-i.i c.index_mut.result.now (λ (old : WindowState). record old { hscroll = c.args.columns }) c.self.view_is there, refl)

use Rattle.std.proofs.Common.{ap, ◌∙◌}
use Rattle.rd_state.specs.States.{StateValue}
use Rattle.rd_state.specs.Windows.{under, window_of}
use Rattle.rd_state.proofs.parts.StateParts.window.Goals as goal

pub returns : goal.returns
returns c = c.under.ensures ∙ (ap (under c.args.number) c.as_slice.ensures.value ∙ ap (λ (s : StateValue). window_of c.args.number s.windows) c.self.view_is)

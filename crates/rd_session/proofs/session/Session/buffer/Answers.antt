use Rattle.std.proofs.Common.{◌≡◌, sym, ap, ◌∙◌}
use Rattle.rd_layout.specs.Readings.{buffer_shown}
use Rattle.rd_layout.specs.Sessions.{SessionValue}
use Rattle.rd_session.proofs.Reading.{shown-name}
use Rattle.rd_session.proofs.session.Session.buffer.Goals as goal

pub returns : goal.returns
returns c =
    let s = c.state-state.result.now in
    let same : s ≡ c.args.self.now.state = c.state-state.ensures ∙ ap (λ (v : SessionValue). v.state) c.self.view_is in
    c.name.ensures
    ∙ (shown-name s c.args.w c.in_ok-window.window.now c.states_are_valid.ensures (sym c.in_ok-window.ensures) ∙ ap (buffer_shown c.args.w) same)

use Rattle.std.proofs.Common.{◌≡◌, Some, subst, sym}
use Rattle.rd_state.specs.Windows.{window_of}
use Rattle.rd_layout.specs.Sessions.{SessionValue}
use Rattle.rd_layout.specs.Since.{IsSession}
use Rattle.rd_views.proofs.views.Views.position_shown.Goals as goal

pub position_at-pos-requires : goal.position_at-pos-requires
position_at-pos-requires c =
    let lives = subst (λ (v : SessionValue). window_of c.in_ok-number.number v.state.windows ≡ Some c.in-Some.shown.now) c.self.view_is (sym c.in-Some.ensures) in
    c.sessions_stay_known.ensures.positions c.args.self.now c.in_ok-number.number c.in-Some.shown.now c.in-Some-layout.layout.now (subst IsSession c.self.view_is c.self.invariant) lives
    (sym c.in-Some-layout.ensures)

use Rattle.std.proofs.Common.{subst, sym}
use Rattle.rd_state.specs.Valid.{IsWindow}
use Rattle.rd_state.proofs.Showing.{window-valid}
use Rattle.rd_layout.specs.Sessions.{SessionValue}
use Rattle.rd_views.proofs.views.Views.beside.Goals as goal

pub stepped_to-requires : goal.stepped_to-requires
stepped_to-requires c =
    subst (λ (v : SessionValue). IsWindow v.state.buffers c.in-Some.shown.now) c.self.view_is
    (window-valid c.self.inside.state c.in_ok-number.number c.in-Some.shown.now c.states_are_valid.ensures (sym c.in-Some.ensures))

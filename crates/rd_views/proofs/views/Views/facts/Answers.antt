use Rattle.std.proofs.Common.{◌≡◌, Some, None, subst, sym, ap, ◌∙◌}
use Rattle.std.proofs.lemmas.Option.{none-some}
use Rattle.rd_state.proofs.Leaves.{placed-window}
use Rattle.rd_state.specs.Valid.{IsValid}
use Rattle.rd_state.specs.Windows.{window_of}
use Rattle.rd_layout.specs.Facts.{cursor_since, fact_of}
use Rattle.rd_layout.specs.Sessions.{SessionValue, layout_of}
use Rattle.rd_layout.proofs.Placed.{none-shown, shown-at}
use Rattle.rd_views.proofs.views.Views.facts.Goals as goal
use Rattle.rd_views.proofs.views.Views.facts.Goals.{After-states_are_valid}

-- the state of the session is valid
valid : (c : goal.After-states_are_valid) → IsValid c.args.self.now.state
valid c = subst (λ (v : SessionValue). IsValid v.state) c.self.view_is c.states_are_valid.ensures

pub returns-in_err-place-clause-told : goal.returns-in_err-place-clause-told
returns-in_err-place-clause-told c =
    let here = (goal.at.returns-in_err-place-clause-told c).After-states_are_valid in
    let none : c.from_residual.result ≡ None = cc in
    let v = c.args.self.now in
    none ∙ sym (none-shown v.state (valid here) (fact_of v) c.args.i (sym c.in_err-place.ensures.place))

-- a window that has a place lives
pub returns-in_err-window-clause-told : goal.returns-in_err-window-clause-told
returns-in_err-window-clause-told c =
    let v = c.args.self.now in
    let place = c.in_ok-place.place in
    let here = (goal.at.returns-in_err-window-clause-told c).After-states_are_valid in
    let lives = placed-window v.state place.number place (valid here) c.in_ok-place.ensures.found in
    let none = subst (λ (v : SessionValue). window_of place.number v.state.windows ≡ None) c.self.view_is (sym c.in_err-window.ensures) in
    absurd (none-some lives.0 (sym none ∙ lives.1))

pub returns-clause-told : goal.returns-clause-told
returns-clause-told c =
    let v = c.args.self.now in
    let place = c.in_ok-place.place in
    let window = c.in_ok-window.window.now in
    let here = (goal.at.returns-clause-told c).After-states_are_valid in
    let lives = subst (λ (v : SessionValue). window_of place.number v.state.windows ≡ Some window) c.self.view_is (sym c.in_ok-window.ensures) in
    let cursor : c.cursor_since-cursor.result ≡ cursor_since (layout_of place.number v.layouts) window.point =
    c.cursor_since-cursor.ensures ∙ ap (λ o. cursor_since o window.point) c.layout.ensures in
    ap (λ k. Some (record { window = place.number; rect = place.rect; start = window.anchor; point = window.point; cursor = k })) cursor
    ∙ sym (shown-at v.state (valid here) (fact_of v) c.args.i place window (sym c.in_ok-place.ensures.place) lives)

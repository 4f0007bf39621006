use Rattle.std.proofs.Common.{◌≡◌, true, false, Err, subst, ap, sym, ◌∙◌}
use Rattle.rd_state.specs.contracts.parts.StateParts.{the_view}
use Rattle.rd_state.specs.declared.window.WindowState.{WindowState}
use Rattle.rd_state.specs.Steps.{placing}
use Rattle.rd_state.specs.Valid.{IsValid}
use Rattle.rd_state.proofs.ByNumber.{IsFound}
use Rattle.rd_state.proofs.Finding.{found-in, sets-window}
use Rattle.rd_state.proofs.Sharing.{if-refused}
use Rattle.rd_state.proofs.Viewing.{shown-made, placing-is}
use Rattle.rd_state.proofs.parts.StateParts.find_place.Goals.{After-index}
use Rattle.rd_state.proofs.parts.StateParts.find_place.Goals as goal

-- the window was found
there : (c : After-index) → IsFound c.args.window c.in_ok-i.i (the_view c.self.inside).windows c.index.result.now
there c =
    found-in (the_view c.self.inside) c.as_slice.result.now c.args.window c.in_ok-i.i c.index.result.now c.as_slice.ensures.value c.in_ok-i.ensures.0 c.in_ok-i.ensures.1 c.index.ensures

pub accessible-requires : goal.accessible-requires
accessible-requires c =
    let valid : IsValid (the_view c.self.inside) = subst IsValid (sym c.self.view_is) c.requires.valid in
    shown-made (the_view c.self.inside) c.args.window c.in_ok-i.i c.index.result.now valid (there (goal.at.accessible-requires c).After-index)

pub returns-in_err-place-clause-refused : goal.returns-in_err-place-clause-refused
returns-in_err-place-clause-refused c =
    let b = c.in_err-place.ensures.exact in
    let here = there (goal.at.returns-in_err-place-clause-refused c).After-index in
    if-refused c.from_residual-in_err-place.result c.in_err-place.field-0.0 (λ x. (f : WindowState → WindowState) → placing c.args.self.now c.args.window c.args.pos f ≡ Err x)
    c.from_residual-in_err-place.ensures.1
    (λ f. placing-is c.args.self.now (the_view c.self.inside) c.args.window c.in_ok-i.i c.args.pos c.index.result.now f b.0 false c.self.view_is here b.1 b.2 ∙ ap (λ e. Err e) (sym c.in_err-place.ensures.refused))

pub returns-clause-placed : goal.returns-clause-placed
returns-clause-placed c =
    let b = c.in_ok-place.ensures.exact in
    let here = there (goal.at.returns-clause-placed c).After-index in
    λ f. placing-is c.args.self.now (the_view c.self.inside) c.args.window c.in_ok-i.i c.args.pos c.index.result.now f b.0 true c.self.view_is here b.1 b.2
    ∙ sym (sets-window c.args.self.now (the_view c.self.inside) c.args.window c.in_ok-i.i c.index.result.now f c.self.view_is here)

use Rattle.std.proofs.Common.{◌≡◌, ◌+◌, Some, List, drop, subst₂, sym, ◌∙◌}
use Rattle.std.specs.Prelude.{None, slice_get}
use Rattle.rd_layout.specs.Windows.{places}
use Rattle.rd_layout.proofs.Known.{Last}
use Rattle.rd_views.specs.Layings.{layout_in, window_in}
use Rattle.rd_views.specs.declared.desired.LaidWindow.{LaidWindow}
use Rattle.rd_views.proofs.Desiring.{Leads, all-lead, at-most, next-leads, next-left, so-far}
use Rattle.rd_views.proofs.views.Views.lay_out.Goals as goal

pub returns-in_err-laid-clause-steps : goal.returns-in_err-laid-clause-steps
returns-in_err-laid-clause-steps g c =
    let v = c.args.self.now in
    let left = next-left v (places v.state) c.loop-place.i c.in-Some.place (sym c.in-Some.ensures.place) in
    at-most c.loop-place.steps c.lay_out_window.new.steps _ _ _ _ c.loop-place.invariant.steps left c.lay_out_window.ensures.steps

pub returns-in_err-push-clause-steps : goal.returns-in_err-push-clause-steps
returns-in_err-push-clause-steps g c =
    let v = c.args.self.now in
    let left = next-left v (places v.state) c.loop-place.i c.in-Some.place (sym c.in-Some.ensures.place) in
    at-most c.loop-place.steps c.lay_out_window.new.steps _ _ _ _ c.loop-place.invariant.steps left c.lay_out_window.ensures.steps

pub loop-place-preserved : goal.loop-place-preserved
loop-place-preserved g c =
    let v = c.args.self.now in
    let all = places v.state in
    let i = c.loop-place.i in
    let p = c.in-Some.place in
    let laid = c.in_ok-laid.laid in
    let at : slice_get all i ≡ Some p = sym c.in-Some.ensures.place in
    let left = next-left v all i p at in
    let lead : Leads v all (drop (i + 1) all) _ _ = next-leads v all i p c.loop-place.desired.windows c.loop-place.desired.layouts.items (window_in laid) (p.number, layout_in laid) at c.in_ok-laid.ensures.laid c.loop-place.invariant.desired in
    record {
      desired = subst₂ (λ (us : List LaidWindow) (ws : List Last). Leads v all (drop (i + 1) all) us ws) (sym c.in_ok-push.ensures.windows) (sym c.in_ok-push.ensures.layouts) lead;
      steps = so-far c.loop-place.steps c.lay_out_window.new.steps _ _ _ _ c.loop-place.invariant.steps left c.lay_out_window.ensures.steps;
    }

pub returns-clause-desired : goal.returns-clause-desired
returns-clause-desired g c =
    let v = c.args.self.now in
    let at : slice_get (places v.state) c.loop-place.i ≡ None = sym c.place.ensures.place ∙ c.in_default.is in
    all-lead v (places v.state) c.loop-place.i c.loop-place.desired.windows c.loop-place.desired.layouts.items at c.loop-place.invariant.desired

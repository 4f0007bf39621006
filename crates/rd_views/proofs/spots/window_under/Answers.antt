use Rattle.std.proofs.Common.{◌≡◌, None, slice_get, sym, ◌∙◌}
use Rattle.rd_tree.specs.Calls.{frame_of}
use Rattle.rd_tree.specs.Places.{lies_in}
use Rattle.rd_tree.specs.Windows.{placed}
use Rattle.rd_tree.specs.declared.placed.Placed.{Placed}
use Rattle.rd_views.proofs.Holding.{passes-here, passes-later, passes-never}
use Rattle.rd_views.proofs.spots.window_under.Goals as goal

pub returns-then-holds-clause-found : goal.returns-then-holds-clause-found
returns-then-holds-clause-found c =
    let windows = placed c.args.tree.now.windows (frame_of c.args.tree.now) in
    passes-here (λ (place : Placed). lies_in c.args.column c.args.row place.rect) windows c.loop-place.i c.loop-place.invariant c.in-Some.place
    (sym c.placed_leaf.ensures.place ∙ c.in-Some.is) (sym c.holds.ensures ∙ c.if-holds.true)

pub loop-place-preserved : goal.loop-place-preserved
loop-place-preserved c =
    let windows = placed c.args.tree.now.windows (frame_of c.args.tree.now) in
    passes-later (λ (place : Placed). lies_in c.args.column c.args.row place.rect) windows c.loop-place.i c.loop-place.invariant c.in-Some.place
    (sym c.placed_leaf.ensures.place ∙ c.in-Some.is) (sym c.holds.ensures ∙ c.if-holds.false)

pub returns-clause-found : goal.returns-clause-found
returns-clause-found c =
    let windows = placed c.args.tree.now.windows (frame_of c.args.tree.now) in
    let none : slice_get windows c.loop-place.i ≡ None = cc in
    passes-never (λ (place : Placed). lies_in c.args.column c.args.row place.rect) windows c.loop-place.i c.loop-place.invariant none

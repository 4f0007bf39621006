use Rattle.std.proofs.Common.{◌≡◌, ap, subst, ◌∙◌}
use Rattle.std.specs.Prelude.{find}
use Rattle.rd_tree.specs.Calls.{Configuration, frame_of}
use Rattle.rd_tree.specs.Places.{lies_in}
use Rattle.rd_tree.specs.Windows.{placed}
use Rattle.rd_tree.specs.declared.placed.Placed.{Placed}
use Rattle.rd_layout.specs.Sessions.{SessionValue}
use Rattle.rd_layout.specs.Spots.{held_spot}
use Rattle.rd_views.proofs.views.Views.held_spot.Goals as goal

pub returns-in-Some : goal.returns-in-Some
returns-in-Some c =
    let v = c.args.self.now in
    let row = c.args.row in
    let column = c.args.column in
    let tree = subst (λ (x : SessionValue). c.tree.result.now ≡ x.state.tree) c.self.view_is c.tree.ensures in
    let found = c.in-Some.ensures.found ∙ ap (λ (t : Configuration). find (λ (place : Placed). lies_in column row place.rect) (placed t.windows (frame_of t))) tree in
    c.spot_in.ensures ∙ ap (held_spot v row column) found

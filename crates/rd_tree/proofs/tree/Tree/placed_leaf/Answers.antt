use Rattle.std.proofs.Common.{◌≡◌, ◌<◌, Some, sym, ◌∙◌, arith}
use Rattle.std.proofs.lemmas.Option.{slice_get_within}
use Rattle.rd_base.proofs.Choices.{if-value}
use Rattle.rd_base.specs.declared.limits.TheConstants.{WINDOWS}
use Rattle.rd_tree.specs.Calls.{frame_of}
use Rattle.rd_tree.specs.Windows.{leaves, window_at}
use Rattle.rd_tree.proofs.Listing.{leaf_window, listed_found}
use Rattle.rd_tree.proofs.tree.Tree.placed_leaf.Goals as goal

pub returns-clause-found : goal.returns-clause-found
returns-clause-found c =
    let tree = c.args.self.now in
    let once = c.trees_are_valid.ensures.once in
    let listed = c.placed.ensures.place ∙ leaf_window tree.windows (frame_of tree) c.args.i c.in_ok-number.number once (sym c.leaf.ensures ∙ c.in_ok-number.was) in
    if-value (λ window. window_at window.number tree.windows (frame_of tree) ≡ Some window) c.placed.result
    (λ window is. listed_found tree.windows (frame_of tree) once c.args.i window (sym listed ∙ is))

pub returns-clause-few : goal.returns-clause-few
returns-clause-few c =
    let inside = slice_get_within (leaves c.args.self.now.windows) c.args.i c.in_ok-number.number (sym c.leaf.ensures ∙ c.in_ok-number.was) in
    let few = c.trees_are_valid.ensures.few in
    if-value (λ window. c.args.i < WINDOWS) c.placed.result (λ window is. omega (arith, inside, few))

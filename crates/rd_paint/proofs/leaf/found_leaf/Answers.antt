use Rattle.std.proofs.Common.{sym}
use Rattle.std.proofs.option.Match.{at_none}
use Rattle.rd_base.proofs.Lists.{ended}
use Rattle.rd_layout.specs.Windows.{places}
use Rattle.rd_paint.proofs.Leaves.{found-of-tree, is-leaf, listed-of-tree, lives, shows-buffer}
use Rattle.rd_paint.proofs.leaf.found_leaf.Goals as goal

pub returns-in_err-place : goal.returns-in_err-place
returns-in_err-place c =
    let s = c.args.state.now in
    at_none c.from_residual.result _ _ c.from_residual.ensures (ended (places s) c.args.i (listed-of-tree s c.tree.result.now c.args.i _ c.tree.ensures c.in_err-place.ensures.place))

pub returns-in_err-window : goal.returns-in_err-window
returns-in_err-window c =
    let s = c.args.state.now in
    let p = c.in_ok-place.place in
    absurd (lives s c.states_are_valid.ensures p (found-of-tree s c.tree.result.now p c.tree.ensures c.in_ok-place.ensures.found) (sym c.in_err-window.ensures))

pub returns-in_err-content : goal.returns-in_err-content
returns-in_err-content c =
    let s = c.args.state.now in
    absurd (shows-buffer s c.states_are_valid.ensures c.in_ok-place.place.number c.in_ok-window.window.now (sym c.in_ok-window.ensures) c.in_err-content.ensures)

pub returns : goal.returns
returns c =
    let s = c.args.state.now in
    let p = c.in_ok-place.place in
    is-leaf s c.states_are_valid.ensures c.args.i p c.in_ok-window.window.now c.in_ok-content.content
    (listed-of-tree s c.tree.result.now c.args.i _ c.tree.ensures c.in_ok-place.ensures.place) (found-of-tree s c.tree.result.now p c.tree.ensures c.in_ok-place.ensures.found)
    c.in_ok-window.ensures c.in_ok-content.ensures

use Rattle.std.proofs.Common.{◌≡◌, length, Some, sym, ap, ◌∙◌, arith}
use Rattle.std.proofs.lemmas.Option.{slice_get-get_or}
use Rattle.std.specs.Prelude.{slice_get}
use Rattle.rd_window.specs.Views.{WindowView}
use Rattle.rd_layout.specs.Screens.{cursor_of}
use Rattle.rd_paint.proofs.Cursor.{cursor-here, no-cursor}
use Rattle.rd_paint.proofs.Leaves.{inside, small, views-count}
use Rattle.rd_paint.proofs.frame.cursor_of.Goals as goal

pub overflow_cast-i : goal.overflow_cast-i
overflow_cast-i c =
    let s = c.args.state.now in
    let less = small s c.states_are_valid.ensures c.requires.0 c.args.windows.now c.loop-i.i c.requires.1 c.loop-i-test.true in
    omega arith

pub leaf_at-requires : goal.leaf_at-requires
leaf_at-requires c =
    let s = c.args.state.now in
    inside s c.states_are_valid.ensures c.requires.0 c.args.windows.now c.loop-i.i c.requires.1 c.loop-i-test.true

pub returns-then-leaf_at-number : goal.returns-then-leaf_at-number
returns-then-leaf_at-number c =
    let s = c.args.state.now in
    let v : WindowView = c.index-windows-i.result in
    let at : slice_get c.args.windows.now c.loop-i.i ≡ Some v = slice_get-get_or c.args.windows.now c.loop-i.i v c.loop-i-test.true ∙ ap (λ (x : WindowView). Some x) (sym c.index-windows-i.is) in
    λ files shown.
    c.cursor.ensures
    ∙ (ap cursor_of c.shown.view_is
    ∙ cursor-here files s c.states_are_valid.ensures c.args.windows.now shown c.loop-i.i c.args.number c.leaf_at.result.place c.leaf_at.result.window.now c.leaf_at.result.content c.leaf_at.ensures
    c.if-leaf_at-number.true v at)

pub returns : goal.returns
returns c =
    let s = c.args.state.now in
    λ files shown.
    let count = ap length shown ∙ views-count s c.states_are_valid.ensures files in
    let over = c.loop-i-test.false in
    no-cursor files s c.args.number (λ k p less at. c.loop-i.invariant k p (omega arith) at)

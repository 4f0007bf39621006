use Rattle.std.proofs.Common.{◌≡◌, ◌+◌, List, length, Some, sym, ap, subst, ◌∙◌, arith}
use Rattle.std.proofs.lemmas.Option.{slice_get-get_or}
use Rattle.std.specs.Prelude.{slice_get}
use Rattle.rd_base.specs.declared.cell.Cell.{Cell}
use Rattle.rd_frame.proofs.Screens.{twice}
use Rattle.rd_frame.specs.Fits.{FitsWindow}
use Rattle.rd_frame.specs.OneByOne.{IsPaintedNext, painted_from, with_window}
use Rattle.rd_layout.specs.Screens.{frame_in}
use Rattle.rd_objects.specs.Things.{ObjectLists}
use Rattle.rd_term.specs.Pictures.{Picture, width_of}
use Rattle.rd_tree.specs.Compositions.{HasSize}
use Rattle.rd_ucd.specs.Data.{Data}
use Rattle.rd_window.specs.Views.{WindowView}
use Rattle.rd_paint.specs.Shown.{AreShown, of_classes, pane_in}
use Rattle.rd_paint.proofs.Leaves.{inside, small, views-count}
use Rattle.rd_paint.proofs.OneByOne.{all-painted, fits-here, next-here, rows-here, view-here}
use Rattle.rd_paint.proofs.frame.paint_windows.Goals as goal
use Rattle.rd_paint.proofs.frame.paint_windows.Goals.{After-leaf_at-leaf}

pub overflow_cast-i : goal.overflow_cast-i
overflow_cast-i c =
    let less = small c.args.state.now c.states_are_valid.ensures c.requires.shown.0 c.args.windows.now c.loop-i.i c.requires.shown.1.shown c.loop-i-test.true in
    omega arith

pub leaf_at-leaf-requires : goal.leaf_at-leaf-requires
leaf_at-leaf-requires c = inside c.args.state.now c.states_are_valid.ensures c.requires.shown.0 c.args.windows.now c.loop-i.i c.requires.shown.1.shown c.loop-i-test.true

-- the view of the window that is painted next
viewed : (c : goal.After-leaf_at-leaf) → slice_get c.args.windows.now c.loop-i.i ≡ Some c.index-windows-i.result
viewed c = slice_get-get_or c.args.windows.now c.loop-i.i c.index-windows-i.result c.loop-i-test.true ∙ ap (λ (x : WindowView). Some x) (sym c.index-windows-i.is)

-- the leaf that was found is the window that is painted next
painted-next : (c : goal.After-leaf_at-leaf) (files : Data) → IsPaintedNext (frame_in files c.args.state.now) c.loop-i.i c.leaf_at-leaf.result.place c.loop-i.screen.rows
painted-next c =
    let leaf = c.leaf_at-leaf.result in
    next-here c.paint_laws.ensures c.args.state.now c.states_are_valid.ensures c.loop-i.i leaf.place leaf.window.now leaf.content c.leaf_at-leaf.ensures c.loop-i.screen.rows c.loop-i.invariant.size

pub paint_leaf-requires-clause-stands : goal.paint_leaf-requires-clause-stands
paint_leaf-requires-clause-stands c = (painted-next (goal.at.paint_leaf-requires-clause-stands c).After-leaf_at-leaf c.requires.shown.0).stands

pub paint_leaf-requires-clause-fits : goal.paint_leaf-requires-clause-fits
paint_leaf-requires-clause-fits c =
    let leaf = c.leaf_at-leaf.result in
    let v = c.index-windows-i.result in
    let at = viewed (goal.at.paint_leaf-requires-clause-fits c).After-leaf_at-leaf in
    subst (λ (o : ObjectLists). FitsWindow (width_of c.loop-i.screen.rows) (pane_in (of_classes c.args.classes.now) o leaf.content leaf.window.now leaf.place.rect.width v) leaf.place) (sym c.objects.ensures)
    (fits-here c.paint_laws.ensures c.args.state.now c.states_are_valid.ensures c.args.classes.now c.args.windows.now c.loop-i.i leaf.place leaf.window.now leaf.content c.leaf_at-leaf.ensures v at c.loop-i.screen.rows
    c.loop-i.invariant.size c.requires.shown.0 c.requires.shown.1)

pub paint_leaf-requires-clause-view : goal.paint_leaf-requires-clause-view
paint_leaf-requires-clause-view c =
    let leaf = c.leaf_at-leaf.result in
    let at = viewed (goal.at.paint_leaf-requires-clause-view c).After-leaf_at-leaf in
    view-here c.paint_laws.ensures c.args.state.now c.states_are_valid.ensures c.args.classes.now c.args.windows.now c.loop-i.i leaf.place leaf.window.now leaf.content c.leaf_at-leaf.ensures c.index-windows-i.result at
    c.loop-i.screen.rows c.loop-i.invariant.size c.requires.shown.0 c.requires.shown.1

pub loop-i-preserved : goal.loop-i-preserved
loop-i-preserved c =
    let s = c.args.state.now in
    let leaf = c.leaf_at-leaf.result in
    let old : Picture = c.loop-i.screen in
    let new : Picture = c.paint_leaf.new.screen in
    let here = (goal.at.loop-i-preserved c).After-leaf_at-leaf in
    let painted = c.in_ok-paint_leaf.ensures.painted in
    let rows : (files : Data) → AreShown files c.args.classes.now s c.args.windows.now → new.rows ≡ with_window (frame_in files s) leaf.place old.rows = λ files shown.
    rows-here c.paint_laws.ensures s c.states_are_valid.ensures c.args.classes.now c.args.windows.now c.loop-i.i leaf.place leaf.window.now leaf.content c.leaf_at-leaf.ensures c.index-windows-i.result (viewed here) old.rows
    c.loop-i.invariant.size files shown c.objects.result.now c.objects.ensures new.rows (ap (λ (p : Picture). p.rows) painted) in
    record {
      size = subst (HasSize s.tree.width (s.tree.height + 1)) (sym (rows c.requires.shown.0 c.requires.shown.1)) (painted-next here c.requires.shown.0).size;
      others = twice c.args.screen.now old new old.rows _ new.rows c.loop-i.invariant.others painted (sym (ap (λ (p : Picture). p.rows) painted));
      rest = λ files shown. c.loop-i.invariant.rest files shown ∙ ((painted-next here files).rest ∙ ap (painted_from (frame_in files s) (c.loop-i.i + 1)) (sym (rows files shown)));
    }

pub returns-clause-painted : goal.returns-clause-painted
returns-clause-painted c =
    let s = c.args.state.now in
    λ files shown.
    let count = ap length shown.shown ∙ views-count s c.states_are_valid.ensures files in
    let over = c.loop-i-test.false in
    c.loop-i.invariant.others
    ∙ ap (λ (xs : List (List Cell)). let p : Picture = record c.args.screen.now { rows = xs } in p)
    (sym (all-painted (frame_in files s) c.loop-i.i c.args.screen.now.rows c.loop-i.screen.rows (omega arith) (c.loop-i.invariant.rest files shown)))

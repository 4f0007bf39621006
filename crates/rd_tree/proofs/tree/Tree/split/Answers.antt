use Rattle.std.proofs.Common.{◌≡◌, true, Some, add-one, refl, sym, ap, ◌∙◌, arith}
use Rattle.std.specs.Result.{result_ok}
use Rattle.rd_tree.specs.Calls.{frame_of, is_full}
use Rattle.rd_tree.specs.Held.{configuration_of}
use Rattle.rd_tree.specs.Windows.{fits, holds, split_at, window_at}
use Rattle.rd_tree.proofs.Answering.{held_by, split_replaced, split_room, split_small, split_many, split_done, full_of_windows, full_of_numbers, not_full}
use Rattle.rd_tree.proofs.Validity.{split_valid}
use Rattle.rd_tree.proofs.tree.Tree.split.Goals.{After-takes_split, then-count-ge-WINDOWS-via-then-count-ge-WINDOWS, then-count-ge-WINDOWS-via-else-count-ge-WINDOWS+then-self}
use Rattle.rd_tree.proofs.tree.Tree.split.Goals as goal

-- the window that was found is among the windows, and has room where it takes the split
taken : (c : goal.After-takes_split)
    → (holds c.args.window (configuration_of c.self.inside).windows ≡ true)
    × (fits (split_at c.args.window c.args.side c.args.size (configuration_of c.self.inside).made (configuration_of c.self.inside).windows) (frame_of (configuration_of c.self.inside)) ≡ c.takes_split.result)
    × (window_at c.args.window (configuration_of c.self.inside).windows (frame_of (configuration_of c.self.inside)) ≡ Some c.in_ok-old.old)
taken c =
    let tree = configuration_of c.self.inside in
    let found = sym (rw (← c.self.view_is) at c.placed.ensures.place) ∙ (c.ok_or.ensures.ok_part ∙ ap result_ok c.in_ok-old.was) in
    (held_by tree c.args.window (Some c.in_ok-old.old) found, split_room tree c.args.window c.args.side c.args.size c.in_ok-old.old c.self.invariant.room found ∙ sym c.takes_split.ensures, found)

pub returns-then-not-takes_split : goal.returns-then-not-takes_split
returns-then-not-takes_split c =
    let t = taken (goal.at.returns-then-not-takes_split c).After-takes_split in
    (refl, rw (← c.self.view_is) (split_small (configuration_of c.self.inside) c.args.window c.args.side c.args.size t.0 (t.1 ∙ c.if-not-takes_split.true)))

pub returns-then-count-ge-WINDOWS : goal.returns-then-count-ge-WINDOWS
returns-then-count-ge-WINDOWS c =
    let tree = configuration_of c.self.inside in
    let t = taken (goal.at.returns-then-count-ge-WINDOWS c).After-takes_split in
    let full : is_full tree ≡ true =
    elim c.then-count-ge-WINDOWS.branch [
      | then-count-ge-WINDOWS-via-then-count-ge-WINDOWS w ↦ full_of_windows tree (omega (arith, c.count.ensures, w.if-count-ge-WINDOWS.true))
      | then-count-ge-WINDOWS-via-else-count-ge-WINDOWS+then-self w ↦ full_of_numbers tree (omega (arith, w.if-self.true))
    ] in
    (refl, rw (← c.self.view_is) (split_many tree c.args.window c.args.side c.args.size t.0 (t.1 ∙ c.if-not-takes_split.false) full))

pub invariant_of-self : goal.invariant_of-self
invariant_of-self c =
    let tree = configuration_of c.self.inside in
    let t = taken (goal.at.invariant_of-self c).After-takes_split in
    let full = not_full tree (omega (arith, c.count.ensures, c.if-count-ge-WINDOWS.false)) (omega (arith, c.if-self.false, c.self.invariant.made)) in
    let done = c.replace.ensures ∙ split_replaced tree c.args.window c.args.side c.args.size tree.made c.in_ok-old.old _ t.2 c.in_ok-halves.ensures in
    rw (done, add-one) (split_valid tree c.args.window c.args.side c.args.size c.self.invariant t.0 (t.1 ∙ c.if-not-takes_split.false) full)

pub returns : goal.returns
returns c =
    let tree = configuration_of c.self.inside in
    let t = taken (goal.at.returns c).After-takes_split in
    let full = not_full tree (omega (arith, c.count.ensures, c.if-count-ge-WINDOWS.false)) (omega (arith, c.if-self.false, c.self.invariant.made)) in
    let done = c.replace.ensures ∙ split_replaced tree c.args.window c.args.side c.args.size tree.made c.in_ok-old.old _ t.2 c.in_ok-halves.ensures in
    rw (← c.self.view_is, done, add-one) (split_done tree c.args.window c.args.side c.args.size t.0 (t.1 ∙ c.if-not-takes_split.false) full, refl)

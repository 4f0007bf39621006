use Rattle.std.proofs.Common.{◌≡◌, List, Option, map, sym, subst, rules}
use Rattle.rd_overlays.specs.declared.overlay.Overlay.{Overlay}
use Rattle.rd_overlays.specs.declared.bounds.Bounds.{Bounds}
use Rattle.rd_overlays.specs.Moves.{AllFollow, slot_moved, bounds_moved}
use Rattle.rd_overlays.specs.Bounds.{IsIndex}
use Rattle.rd_overlays.proofs.Bounding.{moved-index}
use Rattle.rd_overlays.proofs.store.Store.follow.Goals as goal

pub invariant_of-self : goal.invariant_of-self
invariant_of-self c =
    let view = c.self.view_is in
    let slots = c.self.inside.slots in
    let order = c.self.inside.index.order in
    let same : c.args.self.now ≡ slots = cc in
    let follow = subst (AllFollow c.args.edit) same c.requires.follow in
    let moved = moved-index c.args.edit slots order c.self.inside.index.bounds c.requires.edit follow c.self.invariant in
    let P : List (Option Overlay) → Type 0 = λ xs. IsIndex xs order c.change_each-2.new.self in
    let Q : List Bounds → Type 0 = λ xs. IsIndex (map (slot_moved c.args.edit) slots) order xs in
    subst P (sym (c.change_each.ensures (slot_moved c.args.edit) (λ x y told. search rules)))
    (subst Q (sym (c.change_each-2.ensures (bounds_moved c.args.edit) (λ x y told. search rules))) moved)

use Rattle.std.proofs.Common.{◌∷◌, [], List, Option, Some, sym, subst}
use Rattle.rd_overlays.specs.declared.overlay.Overlay.{Overlay}
use Rattle.rd_overlays.specs.Bounds.{IsIndex}
use Rattle.rd_overlays.proofs.Bounding.{longer-index}
use Rattle.rd_overlays.proofs.store.Store.push.Goals as goal

pub invariant_of-self-2 : goal.invariant_of-self-2
invariant_of-self-2 c =
    let order = c.self.inside.index.order in
    let bounds = c.self.inside.index.bounds in
    let P : List (Option Overlay) → Type 0 = λ xs. IsIndex xs order bounds in
    subst P (sym c.in_ok-push.ensures.ok) (longer-index c.self.inside.slots (Some c.args.overlay ∷ []) order bounds c.self.invariant)

-- How the overlays of a buffer, and bounds of their edges, move with an edit of the text.
use Rattle.std.specs.Prelude.{◌≡◌, ℕ, ◌≤◌, List, Option, Some, slice_get, ⊤}
use Rattle.std.specs.Option.{option_map}
use Rattle.rd_base.specs.declared.limits.TheConstants.{LAST_POSITION}
use Rattle.rd_overlays.specs.declared.overlay.Overlay.{Overlay}
use Rattle.rd_overlays.specs.declared.bounds.Bounds.{Bounds}
use Rattle.rd_overlays.specs.declared.moves.Edit.{Edit}
use Rattle.rd_overlays.specs.declared.moves.Edit.TheVariants.{Insertion, Deletion}
use Rattle.rd_overlays.specs.Overlays.{grown, shrunk, SlotFits}
use Rattle.rd_overlays.specs.Bounds.{bounds_grown, bounds_shrunk}

abbrev pub overlay_moved : Edit → Overlay → Overlay
overlay_moved (Insertion pos n) = grown pos n
overlay_moved (Deletion from to) = shrunk from to

abbrev pub slot_moved : Edit → Option Overlay → Option Overlay
slot_moved edit slot = option_map (overlay_moved edit) slot

abbrev pub bounds_moved : Edit → Bounds → Bounds
bounds_moved (Insertion pos n) = bounds_grown pos n
bounds_moved (Deletion from to) = bounds_shrunk from to

-- an insertion at a position, or a deletion that does not end before it begins
abbrev pub IsEdit : Edit → Type 0
IsEdit (Insertion pos n) = pos ≤ LAST_POSITION
IsEdit (Deletion from to) = from ≤ to

-- what an insertion moves can move on
abbrev pub SlotFollows : Edit → Option Overlay → Type 0
SlotFollows (Insertion pos n) slot = SlotFits pos n slot
SlotFollows (Deletion from to) slot = ⊤

abbrev pub AllFollow : Edit → List (Option Overlay) → Type 0
AllFollow edit slots = (number : ℕ) (slot : Option Overlay) → slice_get slots number ≡ Some slot → SlotFollows edit slot

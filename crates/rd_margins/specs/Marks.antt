-- The margin strings of a buffer's overlays, and which of them a position shows.
use Rattle.std.specs.Prelude.{ℕ, List, Option, None, Some}
use Rattle.std.specs.FinMap.{FinMap, get, insert, remove}
use Rattle.std.specs.Ordering.{nat_cmp}
use Rattle.rd_overlays.specs.declared.overlay.Overlay.{Overlay}
use Rattle.rd_overlays.specs.Overlays.{covering}
use Rattle.rd_overlays.specs.Values.{last_given}

-- the numbers of margin strings by the numbers of overlays
abbrev pub MarkValues : Type 0
MarkValues = FinMap nat_cmp ℕ

-- the margin strings after an overlay was given one, or lost its own
abbrev pub marked : MarkValues → ℕ → Option ℕ → MarkValues
marked marks overlay (Some string) = insert marks overlay string
marked marks overlay None = remove marks overlay

-- the margin string at a position: of the overlays that cover the position and have one, that of the greatest by priority and
-- number. The end of the accessible text is a position like any other here; an empty overlay covers no position
abbrev pub margin_string : MarkValues → List (Option Overlay) → ℕ → Option ℕ
margin_string marks overlays pos = last_given (get marks) (covering pos overlays)

-- Ranges of text that is shown alike.
use Rattle.std.specs.Prelude.{◌≡◌, ◌⊎◌, ℕ, ◌+◌, ◌<◌, ◌≤◌, Bool, []}
use Rattle.rd_base.specs.Lists.{is_between}
use Rattle.rd_objects.specs.Things.{ObjectLists}
use Rattle.rd_props.specs.Buffers.{BufferValue}
use Rattle.rd_props.specs.Stops.{IsNextStop}
use Rattle.rd_props.specs.Strings.{strings_at}
use Rattle.rd_items.specs.Readings.{showing_at}
use Rattle.rd_items.specs.declared.alike_range.AlikeRange.{AlikeRange}

-- the positions of a range are shown alike, and no string stands before any but the first; those before the end of the accessible
-- text stand in one without it
pub record IsAlikeRange (s : BufferValue) (objects : ObjectLists) (range : AlikeRange) : Type 0 where
  pub within : range.from < s.text.end → range.until ≤ s.text.end
  pub alike : (p : ℕ) → range.from ≤ p → p < range.until → showing_at s objects p ≡ range.showing
  pub bare : (p : ℕ) → range.from < p → p < range.until → strings_at s p ≡ []

-- where a range from a position ends: at the next stop, and behind the end of the accessible text
abbrev pub IsStopBehind : BufferValue → ℕ → ℕ → Type 0
IsStopBehind s p stop = IsNextStop s p stop ⊎ ((p ≡ s.text.end) × (stop ≡ p + 1))

-- a position of a range
abbrev pub holds : AlikeRange → ℕ → Bool
holds range p = is_between range.from range.until p

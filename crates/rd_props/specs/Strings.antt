-- The strings of overlays at a position.
use Rattle.std.specs.Prelude.{ℕ, zero, suc, ◌+◌, ◌==◌, Bool, if◌then◌else◌, List, [], ◌∷◌, ◌++◌, length, reverse, Option, None, Some}
use Rattle.std.specs.Option.{option_to_list}
use Rattle.rd_overlays.specs.declared.overlay.Overlay.{Overlay}
use Rattle.rd_overlays.specs.declared.overlay.Kind.TheVariants.{Before, After}
use Rattle.rd_overlays.specs.Overlays.{overlay_at, starting, ending}
use Rattle.rd_props.specs.Buffers.{BufferValue}
use Rattle.rd_props.specs.declared.strings.StringPlace.{StringPlace}
use Rattle.rd_props.specs.declared.strings.StringPlace.TheVariants.{Closing, Between, Opening}
use Rattle.rd_props.specs.Values.{value_of}

-- an overlay that covers nothing
abbrev pub is_empty : Overlay → Bool
is_empty overlay = overlay.from == overlay.to

abbrev pub before_string : Overlay → List ℕ
before_string overlay = option_to_list (value_of Before (Some overlay))

abbrev pub after_string : Overlay → List ℕ
after_string overlay = option_to_list (value_of After (Some overlay))

-- what an overlay puts behind the text that it covers, what it puts where it covers nothing, and what it puts before the text
-- that it covers
abbrev pub strings_put : StringPlace → Overlay → List ℕ
strings_put Closing overlay = if is_empty overlay then [] else after_string overlay
strings_put Between overlay = if is_empty overlay then before_string overlay ++ after_string overlay else []
strings_put Opening overlay = if is_empty overlay then [] else before_string overlay

abbrev pub strings_put_in : StringPlace → Option Overlay → List ℕ
strings_put_in place None = []
strings_put_in place (Some overlay) = strings_put place overlay

-- what these overlays put, one after the other
abbrev pub strings_of : StringPlace → List (Option Overlay) → List ℕ → List ℕ
strings_of place slots [] = []
strings_of place slots (number ∷ numbers) = strings_put_in place (overlay_at slots number) ++ strings_of place slots numbers

-- the strings at a position: the after-strings of overlays that end there, from the last by priority and number to the first,
-- then both strings of those that are empty there, then the before-strings of those that start there
abbrev pub strings_at : BufferValue → ℕ → List ℕ
strings_at s pos =
    strings_of Closing s.overlays (reverse (ending pos s.overlays))
    ++ strings_of Between s.overlays (starting pos s.overlays)
    ++ strings_of Opening s.overlays (starting pos s.overlays)

-- how many strings stand at a position and those behind it, so many in all
abbrev pub strings_within : BufferValue → ℕ → ℕ → ℕ
strings_within s pos zero = 0
strings_within s pos (suc n) = length (strings_at s pos) + strings_within s (suc pos) n

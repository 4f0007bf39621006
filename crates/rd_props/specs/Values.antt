-- Effective values: an overlay's before the text property's.
use Rattle.std.specs.Prelude.{ℕ, nat_lt, Bool, true, false, if◌then◌else◌, List, get_or, Option, None, Some}
use Rattle.std.specs.Option.{option_or}
use Rattle.rd_overlays.specs.declared.overlay.Overlay.{Overlay}
use Rattle.rd_overlays.specs.declared.overlay.Kind.{Kind}
use Rattle.rd_overlays.specs.declared.overlay.Kind.TheVariants.{Face, Display, Invisible, LinePrefix, WrapPrefix, Before, After}
use Rattle.rd_overlays.specs.Overlays.{overlay_at, place_of, covering}
use Rattle.rd_overlays.specs.Values.{last_given}
use Rattle.rd_props.specs.Buffers.{BufferValue, property}

-- the kinds of which one value is effective: a face is merged of all, and of the strings all stand
abbrev pub is_single : Kind → Bool
is_single Face = false
is_single Display = true
is_single Invisible = true
is_single LinePrefix = true
is_single WrapPrefix = true
is_single Before = false
is_single After = false

-- the value of a kind that an overlay has
abbrev pub value_of : Kind → Option Overlay → Option ℕ
value_of kind None = None
value_of kind (Some overlay) = get_or overlay.values (place_of kind) None

-- the value of a kind that the overlay of a number has
abbrev pub overlay_value : List (Option Overlay) → Kind → ℕ → Option ℕ
overlay_value slots kind number = value_of kind (overlay_at slots number)

-- the effective value of a kind at a position: that of the covering overlay which has one and comes last by priority and
-- number, else that of the text property, and none at the end of the accessible text
abbrev pub effective : BufferValue → ℕ → Kind → Option ℕ
effective s pos kind =
    if nat_lt pos s.text.end
    then option_or (last_given (overlay_value s.overlays kind) (covering pos s.overlays)) (property s kind pos)
    else None

-- What edits make of a buffer. Settings are not seen at a position, so they may be any.
use Rattle.std.specs.Prelude.{◌≡◌, ℕ, ◌≤◌, ◌==◌, if◌then◌else◌, List, length, map, Option, Some}
use Rattle.rd_text.specs.Texts.{inserted, deleted}
use Rattle.rd_spans.specs.Values.{values_put, values_opened, values_closed}
use Rattle.rd_overlays.specs.declared.overlay.Overlay.{Overlay}
use Rattle.rd_overlays.specs.declared.overlay.Kind.{Kind}
use Rattle.rd_overlays.specs.Overlays.{overlay_at, place_of, slot_grown, slot_shrunk}
use Rattle.rd_props.specs.Buffers.{BufferValue}

-- the values of text properties by the place of their kind and by position, after so many positions without a value were opened
abbrev pub opened : (ℕ → ℕ → Option ℕ) → ℕ → ℕ → ℕ → ℕ → Option ℕ
opened values place n kind p = values_opened (values kind) place n p

-- the values of each kind after the positions from one to another, that one not included, were taken away
abbrev pub closed : (ℕ → ℕ → Option ℕ) → ℕ → ℕ → ℕ → ℕ → Option ℕ
closed values from to kind p = values_closed (values kind) from to p

-- the values of each kind after those of one kind were given a value from one position up to another
abbrev pub put_on : (ℕ → ℕ → Option ℕ) → Kind → ℕ → ℕ → Option ℕ → ℕ → ℕ → Option ℕ
put_on values chosen from to value kind p = if kind == place_of chosen then values_put (values kind) from to value p else values kind p

-- a buffer with characters put in: they have no properties, and what stands behind them moves
abbrev pub with_more : BufferValue → ℕ → List ℕ → BufferValue
with_more s place chars = record s {
  text = inserted s.text place chars;
  properties = opened s.properties place (length chars);
  overlays = map (slot_grown place (length chars)) s.overlays;
}

-- a buffer without the characters from one position to another, that one not included, and without their properties
abbrev pub with_less : BufferValue → ℕ → ℕ → BufferValue
with_less s from to = record s {
  text = deleted s.text from to;
  properties = closed s.properties from to;
  overlays = map (slot_shrunk from to) s.overlays;
}

-- no overlay starts behind its end
abbrev pub AreOrdered : List (Option Overlay) → Type 0
AreOrdered slots = (number : ℕ) (overlay : Overlay) → overlay_at slots number ≡ Some overlay → overlay.from ≤ overlay.to

-- a buffer has the text, the properties and the overlays of another
pub record HasParts (s parts : BufferValue) : Type 0 where
  pub text : s.text ≡ parts.text
  pub properties : (kind p : ℕ) → s.properties kind p ≡ parts.properties kind p
  pub overlays : s.overlays ≡ parts.overlays

-- characters were put into a buffer at a place
abbrev pub IsInsertion : BufferValue → BufferValue → ℕ → List ℕ → Type 0
IsInsertion old new place chars = HasParts new (with_more old place chars)

-- the characters from one position to another, that one not included, were taken away
abbrev pub IsDeletion : BufferValue → BufferValue → ℕ → ℕ → Type 0
IsDeletion old new from to = HasParts new (with_less old from to)

-- a text property was given a value from one position up to another, or lost it there
abbrev pub IsPut : BufferValue → BufferValue → Kind → ℕ → ℕ → Option ℕ → Type 0
IsPut old new kind from to value = HasParts new (record old { properties = put_on old.properties kind from to value })

-- the overlays alone became others
abbrev pub HasOverlays : BufferValue → BufferValue → List (Option Overlay) → Type 0
HasOverlays old new slots = HasParts new (record old { overlays = slots })

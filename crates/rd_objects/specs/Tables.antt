-- Display tables.
use Rattle.std.specs.Prelude.{◌≡◌, ℕ, nat_le, nat_lt, ◌==◌, Bool, not, ◌&&◌, ◌||◌, IsTrue, List, [], length, reverse, All, Option, None, Some}
use Rattle.std.specs.List.{find, list_all}
use Rattle.std.specs.Option.{option_map}
use Rattle.rd_base.specs.declared.limits.TheConstants.{ENTRY_GLYPHS, GLYPH_MARKS}
use Rattle.rd_base.specs.Chars.{is_scalar}
use Rattle.rd_base.specs.declared.cell.Glyph.{Glyph}
use Rattle.rd_objects.specs.declared.run.Slot.{Slot}
use Rattle.rd_objects.specs.declared.run.Slot.TheVariants.{Truncation, Continuation, Escape, Control, Border}
use Rattle.rd_objects.specs.declared.table.TableEntry.{TableEntry}
use Rattle.rd_objects.specs.Widths.{columns}

-- a table, as contracts see it: its entries in the order in which they were put, and what its slots hold
pub record TableValue : Type 0 where
  pub entries : List TableEntry
  pub truncation : Option Glyph
  pub continuation : Option Glyph
  pub escape : Option Glyph
  pub control : Option Glyph
  pub border : Option Glyph
  pub ellipsis : Option (List Glyph)

abbrev pub empty_table : TableValue
empty_table = record { entries = []; truncation = None; continuation = None; escape = None; control = None; border = None; ellipsis = None }

-- a code that no glyph character has: one below 32, or from 127 to 159
abbrev pub is_control : ℕ → Bool
is_control code = nat_lt code 32 || (nat_le 127 code && nat_le code 159)

-- a glyph character: a scalar value that is no control, without marks in its six places, in its own columns, which are 1 to 3
abbrev pub is_glyph_character : Glyph → Bool
is_glyph_character g =
    is_scalar g.base && not (is_control g.base) && (columns g.base == g.width) && nat_le 1 g.width && nat_le g.width 3
    && (g.count == 0) && (length g.marks == GLYPH_MARKS) && list_all (λ mark. mark == 0) g.marks

-- whether a scalar value is no glyph character: it is a control, or has no columns
abbrev pub has_no_glyph : ℕ → Bool
has_no_glyph code = is_control code || (columns code == 0)

-- at most 16 glyph characters
abbrev pub is_glyph_text : List Glyph → Bool
is_glyph_text text = nat_le (length text) ENTRY_GLYPHS && list_all is_glyph_character text

-- one glyph character of one column
abbrev pub is_slot_glyph : Glyph → Bool
is_slot_glyph g = is_glyph_character g && (g.width == 1)

-- what the entry that was put last for a code shows
abbrev pub entry_glyphs : List TableEntry → ℕ → Option (List Glyph)
entry_glyphs entries code = option_map (λ e. e.text) (find (λ e. e.code == code) (reverse entries))

abbrev pub slot_of : Slot → TableValue → Option Glyph
slot_of Truncation table = table.truncation
slot_of Continuation table = table.continuation
slot_of Escape table = table.escape
slot_of Control table = table.control
slot_of Border table = table.border

abbrev pub with_slot : Slot → Option Glyph → TableValue → TableValue
with_slot Truncation glyph table = record table { truncation = glyph }
with_slot Continuation glyph table = record table { continuation = glyph }
with_slot Escape glyph table = record table { escape = glyph }
with_slot Control glyph table = record table { control = glyph }
with_slot Border glyph table = record table { border = glyph }

abbrev pub HoldsGlyph : (Glyph → Bool) → Option Glyph → Type 0
HoldsGlyph test slot = (g : Glyph) → slot ≡ Some g → IsTrue (test g)

-- what a table always keeps
pub record IsTable (table : TableValue) : Type 0 where
  pub entries : All (λ e. IsTrue (is_glyph_text e.text)) table.entries
  pub truncation : HoldsGlyph is_slot_glyph table.truncation
  pub continuation : HoldsGlyph is_slot_glyph table.continuation
  pub escape : HoldsGlyph is_slot_glyph table.escape
  pub control : HoldsGlyph is_slot_glyph table.control
  pub border : HoldsGlyph is_slot_glyph table.border
  pub ellipsis : (text : List Glyph) → table.ellipsis ≡ Some text → IsTrue (is_glyph_text text)

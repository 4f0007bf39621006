-- How a character is shown: its elements.
use Rattle.std.specs.Prelude.{◌≡◌, ℕ, ◌+◌, ◌-◌, ◌*◌, ◌/◌, ◌%◌, ◌≤◌, nat_le, nat_lt, ◌==◌, Bool, true, false, ◌||◌, ◌&&◌, if◌then◌else◌, List, [], ◌∷◌, length, map, replicate, All, Option, None, Some, IfSome, unwrap_or}
use Rattle.rd_base.specs.Faces.{Attributes}
use Rattle.rd_base.specs.Settings.{SettingValues}
use Rattle.rd_base.specs.Classes.{is_initiator, x9_is_removed}
use Rattle.rd_base.specs.Cells.{single}
use Rattle.rd_base.specs.declared.class.Class.{Class}
use Rattle.rd_base.specs.declared.class.Class.TheVariants.{PDI}
use Rattle.rd_base.specs.declared.cell.Glyph.{Glyph}
use Rattle.rd_base.specs.declared.element.Element.{Element}
use Rattle.rd_base.specs.declared.element.Extent.{Extent}
use Rattle.rd_base.specs.declared.element.Extent.TheVariants.{Fixed, Tab, Column}
use Rattle.rd_base.specs.Elements.{IsSound, AreSound, columns_at_most}
use Rattle.rd_base.specs.Glyphs.{AreMeasured}
use Rattle.rd_base.specs.declared.limits.TheConstants.{CODE_POINTS, ENTRY_GLYPHS, TAB_COLUMNS}
use Rattle.rd_base.specs.declared.element.Look.{Look}
use Rattle.rd_base.specs.declared.element.Look.TheVariants as look
use Rattle.rd_base.specs.declared.element.Origin.{Origin}
use Rattle.rd_ucd.specs.declared.spans.Span.{Span}
use Rattle.rd_ucd.specs.declared.spans.Pair.{Pair}
use Rattle.rd_ucd.specs.Lookup.{class_of, mirror_in}
use Rattle.rd_objects.specs.declared.run.Slot.{Slot}
use Rattle.rd_objects.specs.declared.run.Slot.TheVariants.{Escape, Control}
use Rattle.rd_objects.specs.Tables.{TableValue, IsTable, entry_glyphs, slot_of}
use Rattle.rd_objects.specs.Widths.{columns}
use Rattle.rd_glyphs.specs.declared.shown.Shown.{Shown}
use Rattle.rd_glyphs.specs.declared.shown.Shown.TheVariants.{Caret, Octal, Space, Mark, Itself}

-- what the elements of a character depend on
pub record PartValues : Type 0 where
  pub table : Option TableValue
  pub settings : SettingValues
  pub classes : List Span
  pub mirrors : List Pair

-- a control character
abbrev pub is_control : ℕ → Bool
is_control code = nat_lt code 32 || (code == 127)

abbrev pub is_pop : Class → Bool
is_pop PDI = true
is_pop c = false

-- what only steers the order: BN, embeddings, overrides, isolates and their ends, and the directional characters U+061C, U+200E and U+200F
abbrev pub is_formatting : Class → ℕ → Bool
is_formatting class code = x9_is_removed class || is_initiator class || is_pop class || (code == 1564) || (code == 8206) || (code == 8207)

-- a control character's code with bit 64 turned, so that 1 shows as A and 127 as a question mark
abbrev pub caret : ℕ → ℕ
caret code = if code == 127 then 63 else code + 64

-- how a character is shown that no table shows and that is no tab
abbrev pub shown_as : Bool → Class → ℕ → Shown
shown_as ctl_arrow class code =
    if is_control code then (if ctl_arrow then Caret (caret code) else Octal code)
    else if nat_le CODE_POINTS code then Octal (code - CODE_POINTS)
    else if nat_le 128 code && nat_le code 159 then Octal code
    else if is_formatting class code then Space
    else if columns code == 0 then Mark code
    else Itself code (columns code)

-- a listed mirror of the same width in place of the character
abbrev pub mirror_code : ℕ → ℕ → Option ℕ → ℕ
mirror_code code width None = code
mirror_code code width (Some other) = if columns other == width then other else code

-- a character that is shown itself has its mirror at an odd level
abbrev pub mirrored : List Pair → Bool → Shown → Shown
mirrored pairs odd (Itself code width) = Itself (if odd then mirror_code code width (mirror_in pairs code) else code) width
mirrored pairs odd s = s

-- a glyph of one column
abbrev pub narrow : ℕ → Look
narrow code = look.Glyph (single code 1)

-- the lowest octal digit of a number
abbrev pub digit : ℕ → Look
digit n = narrow (48 + n % 8)

-- a mark on a blank
abbrev pub on_blank : ℕ → Glyph
on_blank code = record { base = 32; marks = code ∷ replicate 5 0; count = 1; width = 1 }

-- what is put for a character, with these glyphs for escapes and for controls
abbrev pub looks_of : Glyph → Glyph → Shown → List Look
looks_of escape control (Caret letter) = look.Glyph control ∷ narrow letter ∷ []
looks_of escape control (Octal byte) = look.Glyph escape ∷ digit (byte / 64) ∷ digit (byte / 8) ∷ digit byte ∷ []
looks_of escape control Space = look.Blank ∷ []
looks_of escape control (Mark code) = look.Glyph (on_blank code) ∷ []
looks_of escape control (Itself code width) = look.Glyph (single code width) ∷ []

abbrev pub look_columns : Look → ℕ
look_columns (look.Glyph g) = g.width
look_columns look.Blank = 1
look_columns other = 0

abbrev pub element_of : Attributes → Origin → Look → Element
element_of face origin l = record { extent = Fixed (look_columns l); look = l; face = face; origin = origin }

abbrev pub tab_of : ℕ → Attributes → Origin → Element
tab_of stop face origin = record { extent = Tab stop; look = look.Blank; face = face; origin = origin }

-- the elements of a table's glyphs
abbrev pub glyph_elements : Attributes → Origin → List Glyph → List Element
glyph_elements face origin text = map (λ g. element_of face origin (look.Glyph g)) text

-- what a table puts for a code
abbrev pub glyphs_for : Option TableValue → ℕ → Option (List Glyph)
glyphs_for None code = None
glyphs_for (Some table) code = entry_glyphs table.entries code

-- the glyph of a slot, and a glyph of one column where there is none
abbrev pub slot_or : Slot → Option TableValue → ℕ → Glyph
slot_or slot None code = single code 1
slot_or slot (Some table) code = unwrap_or (slot_of slot table) (single code 1)

-- how a character is shown that no table shows and that is no tab
abbrev pub own_shown : PartValues → ℕ → Bool → Shown
own_shown parts ch odd = mirrored parts.mirrors odd (shown_as parts.settings.ctl_arrow (class_of parts.classes ch) ch)

-- the looks of a character that no table shows and that is no tab: the slots are a backslash and a circumflex where the table
-- has none
abbrev pub own_looks : PartValues → ℕ → Bool → List Look
own_looks parts ch odd = looks_of (slot_or Escape parts.table 92) (slot_or Control parts.table 94) (own_shown parts ch odd)

-- the elements of a character whose entry in the table is given
abbrev pub elements_by : Option (List Glyph) → PartValues → ℕ → Bool → Attributes → Origin → List Element
elements_by (Some text) parts ch odd face origin = glyph_elements face origin text
elements_by None parts ch odd face origin =
    if ch == 9 then tab_of parts.settings.tab_width face origin ∷ [] else map (element_of face origin) (own_looks parts ch odd)

-- the elements of a character, at an odd level or not
abbrev pub elements_of : PartValues → ℕ → Bool → Attributes → Origin → List Element
elements_of parts ch odd face origin = elements_by (glyphs_for parts.table ch) parts ch odd face origin

-- a look of 1 to 3 columns
abbrev pub TakesColumns : Look → Type 0
TakesColumns l = (1 ≤ look_columns l) × (look_columns l ≤ 3)

-- a character that is shown itself takes 1 to 3 columns
abbrev pub ShowsColumns : Shown → Type 0
ShowsColumns (Itself code width) = (1 ≤ width) × (width ≤ 3)
ShowsColumns s = Unit {0}

-- an extent of 1 to 3 columns, or that of a tab
abbrev pub IsShort : Extent → Type 0
IsShort (Fixed n) = (1 ≤ n) × (n ≤ 3)
IsShort (Tab t) = (1 ≤ t) × (t ≤ TAB_COLUMNS)
IsShort (Column n) = ⊥

-- what an element of a character always is
abbrev pub IsShortElement : Element → Type 0
IsShortElement e = IsSound e × IsShort e.extent

-- what the elements of a character depend on is sound: the table holds glyph characters, and a tab has 1 to 32 columns
pub record AreSoundParts (parts : PartValues) : Type 0 where
  pub table : IfSome parts.table (λ table. IsTable table)
  pub tab : (1 ≤ parts.settings.tab_width) × (parts.settings.tab_width ≤ TAB_COLUMNS)

-- an element of this face and this origin
abbrev pub HasOrigin : Attributes → Origin → Element → Type 0
HasOrigin face origin e = (e.face ≡ face) × (e.origin ≡ origin)

-- what the elements of a character are, and those of a table's glyphs: sound and measured, of 1 to 3 columns or a tab, with this face
-- and this origin, at most 16, and of at most 48 columns together
pub record AreOfCharacter (face : Attributes) (origin : Origin) (es : List Element) : Type 0 where
  pub sound : AreSound es
  pub measured : AreMeasured es
  pub short : All (λ e. IsShort e.extent) es
  pub own : All (HasOrigin face origin) es
  pub count : length es ≤ ENTRY_GLYPHS
  pub columns : columns_at_most es ≤ 3 * ENTRY_GLYPHS

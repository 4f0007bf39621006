-- What an item or a part of a string shows, and strings: as elements, and by the same definitions as the steps of a walk.
use Rattle.std.specs.Prelude.{ℕ, if◌then◌else◌, Bool, true, false, List, [], ◌∷◌, replicate, slice_get, Option, None, Some, unwrap_or, ◌≡◌, All}
use Rattle.std.specs.List.{flat_map}
use Rattle.rd_base.specs.Cells.{HasColours, single}
use Rattle.rd_base.specs.Faces.{Attributes, plain}
use Rattle.rd_base.specs.declared.cell.Glyph.{Glyph}
use Rattle.rd_base.specs.declared.element.Element.{Element}
use Rattle.rd_base.specs.declared.element.Extent.TheVariants.{Fixed, Column}
use Rattle.rd_base.specs.declared.element.Look.{Look}
use Rattle.rd_base.specs.declared.element.Look.TheVariants as look
use Rattle.rd_base.specs.declared.element.Origin.{Origin}
use Rattle.rd_base.specs.Elements.{is_line_end, IsSound}
use Rattle.rd_base.specs.Glyphs.{IsMeasuredLook}
use Rattle.rd_objects.specs.Tables.{TableValue}
use Rattle.rd_objects.specs.Texts.{TextValue}
use Rattle.rd_objects.specs.declared.run.Spec.{Spec}
use Rattle.rd_objects.specs.declared.run.Spec.TheVariants.{Text, Width, Align}
use Rattle.rd_glyphs.specs.Characters.{element_of, elements_of, glyph_elements}
use Rattle.rd_items.specs.Pieces.{Scene}
use Rattle.rd_items.specs.declared.item.ItemKind.{ItemKind}
use Rattle.rd_items.specs.declared.item.ItemKind.TheVariants as kind
use Rattle.rd_stack.specs.Strings.{string_parts}
use Rattle.rd_stack.specs.declared.part.Shown.{Shown}

-- the space of a spec: blanks in so many columns, or up to a column
abbrev pub space_elements : Spec → Attributes → Origin → List Element
space_elements (Width n) face origin = record { extent = Fixed n; look = look.Blank; face = face; origin = origin } ∷ []
space_elements (Align n) face origin = record { extent = Column n; look = look.Blank; face = face; origin = origin } ∷ []
space_elements (Text n) face origin = []

-- the glyphs of an ellipsis: those of the table, and three dots where it has none
abbrev pub ellipsis_glyphs : Option TableValue → List Glyph
ellipsis_glyphs None = replicate 3 (single 46 1)
ellipsis_glyphs (Some table) = unwrap_or table.ellipsis (replicate 3 (single 46 1))

-- a way to put what an item or a part of a string shows, by the look of an ender and by what is put for a string: its elements
-- (`kind_elements`), or the steps of a walk over them (`kind_steps` of Steps)
abbrev pub Putting : Type 0 → Type 0
Putting X = Look → (Option TextValue → List X) → Scene → ItemKind → Bool → Attributes → Origin → List X

-- the elements of what an item or a part of a string shows
abbrev pub kind_elements : Putting Element
kind_elements end string s (kind.Char c) odd face origin = elements_of s.parts c odd face origin
kind_elements end string s (kind.Marked g) odd face origin = element_of face origin (look.Glyph g) ∷ []
kind_elements end string s (kind.Text n) odd face origin = string (slice_get s.objects.strings n)
kind_elements end string s (kind.Space spec) odd face origin = space_elements spec face origin
kind_elements end string s kind.Ellipsis odd face origin = glyph_elements face origin (ellipsis_glyphs s.parts.table)
kind_elements end string s kind.Ender odd face origin = element_of face origin end ∷ []

-- a part of a string; what is put over its face for a string that it names is given
abbrev pub put_part : {X : Type 0} → Putting X → (Attributes → Option TextValue → List X) → Scene → Origin → Shown → List X
put_part put named s origin x = put look.RowEnd (named x.face) s x.kind x.odd x.face origin

-- a string over a face, in a line of this base; a flag says whether its own display runs are used. What is put for a string that one of
-- these runs names, over the face there, is given. None, as of a number that names no string, puts nothing
abbrev pub put_string : {X : Type 0} → Putting X → (Attributes → Option TextValue → List X) → Scene → ℕ → Bool → Origin → Attributes → Option TextValue → List X
put_string put named s base replaced origin under None = []
put_string put named s base replaced origin under (Some text) = flat_map (put_part put named s origin) (string_parts s base replaced text under)

-- what is put for a string that a display run names: in an overlay's string (true) that display string, and in a display string (false)
-- nothing, since its own runs are not used
abbrev pub put_named : {X : Type 0} → Putting X → Scene → ℕ → Bool → Origin → Attributes → Option TextValue → List X
put_named put s base overlay origin face text = if overlay then put_string put (λ over other. []) s base false origin face text else []

-- an overlay's string (true): its display runs are used, and a string that one names is put; or a display string (false): they are not
abbrev pub put_text : {X : Type 0} → Putting X → Scene → ℕ → Bool → Origin → Attributes → Option TextValue → List X
put_text put s base overlay origin = put_string put (put_named put s base overlay origin) s base overlay origin

-- the elements of a display string over a face, in a line of this base, its own display runs not used; and of a part of it
abbrev pub display_elements : Scene → ℕ → Origin → Attributes → Option TextValue → List Element
display_elements s base = put_text kind_elements s base false

abbrev pub display_part_elements : Scene → Origin → Shown → List Element
display_part_elements = put_part kind_elements (λ face text. [])

abbrev pub is_row_end : Look → Bool
is_row_end look.RowEnd = true
is_row_end l = false

-- elements before the first end of a row
abbrev pub before_row_end : List Element → List Element
before_row_end [] = []
before_row_end (e ∷ es) = if is_row_end e.look then [] else e ∷ before_row_end es

-- what is shown before a line is no part of its items
abbrev pub outside : Origin
outside = record { item = 4294967295; from = 0; to = 0 }

-- a prefix: a display string over the plain face, up to its first newline
abbrev pub prefix : Scene → ℕ → ℕ → List Element
prefix s base number = before_row_end (display_elements s base outside plain (slice_get s.objects.strings number))

-- what each element of a line is
pub record IsRight (e : Element) : Type 0 where
  pub sound : IsSound e
  pub measured : IsMeasuredLook e.look

abbrev pub AreRight : List Element → Type 0
AreRight es = All IsRight es

-- elements of which none ends the line
abbrev pub AreOpen : List Element → Type 0
AreOpen es = All (λ e. is_line_end e.look ≡ false) es

-- what each element of a prefix is
pub record IsInside (e : Element) : Type 0 where
  pub sound : IsSound e
  pub measured : IsMeasuredLook e.look
  pub inside : is_line_end e.look ≡ false

abbrev pub AreInside : List Element → Type 0
AreInside es = All IsInside es

-- elements that end no row
abbrev pub AreOfOneRow : List Element → Type 0
AreOfOneRow es = All (λ e. is_row_end e.look ≡ false) es

-- elements whose faces have their colours in range
abbrev pub AreColoured : List Element → Type 0
AreColoured es = All (λ e. HasColours e.face) es

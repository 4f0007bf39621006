-- Buffers and strings on which the definitions are worked out.
use Rattle.std.specs.Prelude.{ℕ, false, true, List, [], ◌∷◌, Option, Some}
use Rattle.rd_base.specs.Faces.{Attributes, plain}
use Rattle.rd_base.specs.Cells.{single}
use Rattle.rd_base.specs.Settings.{opening}
use Rattle.rd_base.specs.declared.class.Class.TheVariants.{R, WS, ON}
use Rattle.rd_base.specs.declared.element.Element.{Element}
use Rattle.rd_base.specs.declared.element.Extent.{Extent}
use Rattle.rd_base.specs.declared.element.Look.{Look}
use Rattle.rd_base.specs.declared.element.Look.TheVariants as look
use Rattle.rd_base.specs.declared.settings.Invisible.{Invisible}
use Rattle.rd_ucd.specs.declared.spans.Span.{Span}
use Rattle.rd_ucd.specs.declared.spans.BracketEntry.{BracketEntry}
use Rattle.rd_ucd.specs.Data.{Data}
use Rattle.rd_overlays.specs.declared.overlay.Overlay.{Overlay}
use Rattle.rd_overlays.specs.declared.overlay.Kind.TheVariants.{Before}
use Rattle.rd_overlays.specs.Overlays.{given}
use Rattle.rd_objects.specs.declared.run.Spec.TheVariants.{Text, Align}
use Rattle.rd_objects.specs.declared.run.RunKind.TheVariants as run
use Rattle.rd_objects.specs.Texts.{text_of}
use Rattle.rd_objects.specs.Things.{ObjectLists, nothing_made}
use Rattle.rd_glyphs.specs.Characters.{element_of}
use Rattle.rd_props.specs.Buffers.{BufferValue}
use Rattle.rd_props.specs.Examples.{on_green, on_the_second, red}
use Rattle.rd_props.specs.Examples as props
use Rattle.rd_items.specs.Examples.{bare}
use Rattle.rd_items.specs.Readings.{reading}
use Rattle.rd_items.specs.Pieces.{Scene, scene_in}
use Rattle.rd_levels.specs.Examples.{round}
use Rattle.rd_stack.specs.Shown.{outside}
use Rattle.rd_stack.specs.Lines.{line_elements}

-- an element of a look in the plain face, of the item of a number that covers these offsets
abbrev pub plain_look : Look → ℕ → ℕ → ℕ → Element
plain_look l item from to = element_of plain (record { item = item; from = from; to = to }) l

-- an element of a character of one column
abbrev pub letter : ℕ → ℕ → ℕ → ℕ → Element
letter c item from to = plain_look (look.Glyph (single c 1)) item from to

-- a blank stretch in the plain face, of the item of a number that covers these offsets
abbrev pub stretch : Extent → ℕ → ℕ → ℕ → Element
stretch extent item from to = record { extent = extent; look = look.Blank; face = plain; origin = record { item = item; from = from; to = to } }

-- a text with properties and overlays
abbrev pub buffer : List ℕ → List (List (Option ℕ)) → List (Option Overlay) → Invisible → BufferValue
buffer chars properties overlays invisible = props.buffer chars properties overlays (record opening { invisible = invisible })

-- the strings A, B, C, D, E and F
abbrev pub six_strings : ObjectLists
six_strings = record nothing_made { strings = bare (65 ∷ []) ∷ bare (66 ∷ []) ∷ bare (67 ∷ []) ∷ bare (68 ∷ []) ∷ bare (69 ∷ []) ∷ bare (70 ∷ []) ∷ [] }

-- the string PQ, newline, R, in which the string zz stands for Q
abbrev pub nested_strings : ObjectLists
nested_strings = record nothing_made {
  strings =
      text_of (80 ∷ 81 ∷ 10 ∷ 82 ∷ []) (record { from = 1; to = 2; kind = run.Display; value = 0 } ∷ []) []
      ∷ bare (122 ∷ 122 ∷ [])
      ∷ [];
  specs = Text 1 ∷ Text 0 ∷ Align 8 ∷ [];
}

-- an overlay on the second character with that string before it
abbrev pub string_before : List (Option Overlay)
string_before = given (on_the_second false) 0 Before (Some 0)

-- a string on green, whose newline is replaced by another string, in bold; and a red face
abbrev pub coloured_strings : ObjectLists
coloured_strings = record nothing_made {
  strings =
      text_of (80 ∷ 10 ∷ []) (record { from = 0; to = 2; kind = run.Face; value = 1 } ∷ record { from = 1; to = 2; kind = run.Display; value = 0 } ∷ []) (red ∷ on_green ∷ [])
      ∷ text_of (122 ∷ []) (record { from = 0; to = 1; kind = run.Face; value = 2 } ∷ []) (red ∷ on_green ∷ record plain { bold = true } ∷ [])
      ∷ [];
  specs = Text 1 ∷ [];
  faces = red ∷ [];
}

-- a space, brackets that mirror each other, and three letters that are read from the right
abbrev pub some_classes : List Span
some_classes =
    record { first = 32; last = 32; class = WS } ∷ record { first = 40; last = 41; class = ON } ∷ record { first = 114; last = 116; class = R } ∷ []

-- round brackets, which mirror each other and, where they are paired, close each other
abbrev pub files : List BracketEntry → Data
files brackets = record { classes = some_classes; mirrors = record { code = 40; mirror = 41 } ∷ []; brackets = brackets }

abbrev pub scene : BufferValue → ObjectLists → Scene
scene s objects = scene_in s.settings objects (files [])

-- the line of the block that starts at a position of a buffer, with a base level
abbrev pub line_at : BufferValue → ObjectLists → ℕ → ℕ → List Element
line_at s objects base start = line_elements (scene s objects) base (reading s objects start)

-- the line of the block that starts at a position of a buffer, with a base level, where round brackets are paired
abbrev pub paired_line_at : BufferValue → ObjectLists → ℕ → ℕ → List Element
paired_line_at s objects base start = line_elements (scene_in s.settings objects (files round)) base (reading s objects start)

-- an element of a character of one column in a face
abbrev pub coloured : Attributes → ℕ → ℕ → ℕ → ℕ → Element
coloured face c item from to = element_of face (record { item = item; from = from; to = to }) (look.Glyph (single c 1))

-- an element of a character of a prefix
abbrev pub outside_letter : ℕ → Element
outside_letter c = element_of plain outside (look.Glyph (single c 1))

-- the prefix of an arrow and a space, with a second row
abbrev pub arrow : ObjectLists
arrow = record nothing_made { strings = bare (62 ∷ 32 ∷ 10 ∷ 120 ∷ []) ∷ [] }

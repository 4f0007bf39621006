-- Buffers on which the definitions are worked out.
use Rattle.std.specs.Prelude.{ℕ, ◌+◌, true, false, List, [], ◌∷◌, Option, Some}
use Rattle.rd_base.specs.Faces.{plain}
use Rattle.rd_base.specs.Settings.{opening}
use Rattle.rd_base.specs.declared.class.Class.TheVariants.{L, B, ON, NSM}
use Rattle.rd_base.specs.declared.settings.Invisible.TheVariants.{Listed}
use Rattle.rd_base.specs.declared.settings.Invisible.{Invisible}
use Rattle.rd_base.specs.Cells.{single}
use Rattle.rd_ucd.specs.Data.{Data}
use Rattle.rd_overlays.specs.declared.overlay.Overlay.{Overlay}
use Rattle.rd_overlays.specs.declared.overlay.Kind.TheVariants.{Before, After}
use Rattle.rd_overlays.specs.Overlays.{given}
use Rattle.rd_objects.specs.declared.run.Spec.TheVariants.{Text, Width}
use Rattle.rd_objects.specs.Texts.{TextValue, text_of}
use Rattle.rd_objects.specs.Things.{ObjectLists, nothing_made}
use Rattle.rd_glyphs.specs.Marks.{marks_joined}
use Rattle.rd_glyphs.specs.declared.mark_role.MarkRole.TheVariants.{Base, Mark}
use Rattle.rd_props.specs.Buffers.{BufferValue}
use Rattle.rd_props.specs.Examples.{buffer, on_the_second, put_once, three_characters}
use Rattle.rd_items.specs.Readings.{reading}
use Rattle.rd_items.specs.Pieces.{scene_in, char_by}
use Rattle.rd_items.specs.Items.{piece_joins, covering, items_of}
use Rattle.rd_items.specs.declared.item.Item.{Item}
use Rattle.rd_items.specs.declared.item.ItemKind.TheVariants as kind
use Rattle.rd_items.specs.declared.piece.Piece.{Piece}

-- no data files
abbrev pub no_data : Data
no_data = record { classes = []; mirrors = []; brackets = [] }

-- the items of the block that starts at a position of a buffer, with these objects and no data files
abbrev pub items_at : BufferValue → ObjectLists → ℕ → List Item
items_at s objects start = items_of (scene_in s.settings objects no_data) (reading s objects start)

-- one space of no columns
abbrev pub no_columns : ObjectLists
no_columns = record nothing_made { specs = Width 0 ∷ [] }

-- a string without runs
abbrev pub bare : List ℕ → TextValue
bare chars = text_of chars [] []

-- the string AB, one that is empty, and display specs of both
abbrev pub two_strings : ObjectLists
two_strings = record nothing_made {
  strings = bare (65 ∷ 66 ∷ []) ∷ bare [] ∷ [];
  specs = Text 0 ∷ Text 1 ∷ [];
}

-- a text with overlays and no properties
abbrev pub a_text : List ℕ → List (Option Overlay) → BufferValue
a_text chars overlays = buffer chars [] overlays opening

-- two characters with overlays
abbrev pub two_characters : List (Option Overlay) → BufferValue
two_characters overlays = a_text (120 ∷ 121 ∷ []) overlays

-- an overlay on the second character with a string before it and one behind it
abbrev pub around_the_second : List (Option Overlay)
around_the_second = given (given (on_the_second false) 0 Before (Some 0)) 0 After (Some 1)

-- three characters of which the second and the third are hidden with an ellipsis
abbrev pub with_ellipsis : BufferValue
with_ellipsis =
    let s = three_characters [] [] (put_once 2 4 7) [] in
    record s { settings = record opening { invisible = Listed ((7, true) ∷ []) } }

-- two lines of one character, of which the newline between them has the atom 7
abbrev pub folded : Invisible → BufferValue
folded invisible = buffer (97 ∷ 10 ∷ 98 ∷ []) ([] ∷ [] ∷ put_once 2 3 7 ∷ []) [] (record opening { invisible = invisible })

-- an overlay's string before the position at an offset
abbrev pub string : ℕ → ℕ → Item
string k number = record { class = ON; kind = kind.Text number; face = plain; overlay = true; from = k; to = k }

-- a character at an offset
abbrev pub letter : ℕ → ℕ → Item
letter k c = record { class = L; kind = kind.Char c; face = plain; overlay = false; from = k; to = k + 1 }

-- an e of one column, and a grave accent behind it
abbrev pub an_e : Piece
an_e = char_by (Base (single 101 1)) L plain 101 0

abbrev pub a_grave : Piece
a_grave = char_by (Mark 768) NSM plain 768 1

-- the items of pieces, once marks have joined
abbrev pub items_of_pieces : List Piece → List Item
items_of_pieces xs = covering 0 (marks_joined piece_joins xs)

-- the ender, which covers the offsets from one to another, that one not included
abbrev pub ender : ℕ → ℕ → Item
ender from to = record { class = B; kind = kind.Ender; face = plain; overlay = false; from = from; to = to }

-- The items of what is read of a block. Places are offsets in it.
use Rattle.std.specs.Prelude.{ℕ, Bool, true, false, not, if◌then◌else◌, List, [], ◌∷◌, ◌++◌, slice_get, Option, None, Some, All}
use Rattle.rd_objects.specs.declared.run.Spec.TheVariants.{Text}
use Rattle.rd_glyphs.specs.Characters.{glyphs_for}
use Rattle.rd_glyphs.specs.MarkRoles.{is_empty_entry}
use Rattle.rd_glyphs.specs.Marks.{Joins, marks_joined}
use Rattle.rd_props.specs.Seen.{Seen}
use Rattle.rd_items.specs.Pieces.{Scene, string_gives, ellipsis_gives, pieces_from, IsMeasuredKind}
use Rattle.rd_items.specs.declared.item.Item.{Item}
use Rattle.rd_items.specs.declared.item.ItemKind.{ItemKind}
use Rattle.rd_items.specs.declared.item.ItemKind.TheVariants as kind
use Rattle.rd_items.specs.declared.piece.Piece.{Piece}

-- how pieces join marks: one that a mark joined stands up to the mark's end
abbrev pub piece_joins : Joins Piece
piece_joins = record {
  base = λ x. x.base;
  mark = λ x. x.mark;
  grown = λ held glyph next. record held { kind = Some (kind.Marked glyph); base = Some glyph; to = next.to };
}

-- the item of a piece that covers the offsets up to its end from the first that no item covers yet, or else none
abbrev pub item_of : ℕ → Piece → ItemKind → Item
item_of since x kind = record {
  class = x.class;
  kind = kind;
  face = x.face;
  overlay = x.overlay;
  from = if x.covers then since else x.at;
  to = if x.covers then x.to else x.at;
}

abbrev pub items_by : Option ItemKind → ℕ → Piece → List Item
items_by None since x = []
items_by (Some kind) since x = item_of since x kind ∷ []

abbrev pub covered_to : ℕ → Piece → ℕ
covered_to since x = if x.covers then x.to else since

-- the items of pieces: one that covers hands nothing on, and what the others would cover goes to the next that does
abbrev pub covering : ℕ → List Piece → List Item
covering since [] = []
covering since (x ∷ xs) = items_by x.kind since x ++ covering (covered_to since x) xs

-- the items of what is read of a block
abbrev pub items_of : Scene → List Seen → List Item
items_of scene es = covering 0 (marks_joined piece_joins (pieces_from scene 0 0 es))

-- whether what an item shows gives an element
abbrev pub kind_gives : Scene → ItemKind → Bool
kind_gives s (kind.Char c) = not (is_empty_entry (glyphs_for s.parts.table c))
kind_gives s (kind.Marked g) = true
kind_gives s (kind.Text n) = string_gives s.parts.table (slice_get s.objects.strings n)
kind_gives s (kind.Space (Text n)) = false
kind_gives s (kind.Space spec) = true
kind_gives s kind.Ellipsis = ellipsis_gives s.parts.table
kind_gives s kind.Ender = true

-- the code of what is no bracket
abbrev pub unlisted : ℕ
unlisted = 4294967295

-- the code by which an item may be a bracket: a character's own, with marks its base, and no other has one
abbrev pub bracket_code : ItemKind → ℕ
bracket_code (kind.Char c) = c
bracket_code (kind.Marked g) = g.base
bracket_code k = unlisted

-- the glyphs of items are measured
abbrev pub AreMeasuredItems : List Item → Type 0
AreMeasuredItems items = All (λ item. IsMeasuredKind item.kind) items

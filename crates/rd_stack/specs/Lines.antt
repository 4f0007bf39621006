-- The items of a line, as elements and as steps, and the elements of the line.
use Rattle.std.specs.Prelude.{ℕ, Bool, List, [], map, slice_get, Option, None, Some, All, IsTrue}
use Rattle.std.specs.List.{flat_map}
use Rattle.rd_base.specs.Faces.{Attributes}
use Rattle.rd_base.specs.Chars.{is_code}
use Rattle.rd_base.specs.declared.class.Class.{Class}
use Rattle.rd_base.specs.declared.element.Element.{Element}
use Rattle.rd_base.specs.declared.element.Look.TheVariants as look
use Rattle.rd_base.specs.declared.element.Origin.{Origin}
use Rattle.rd_objects.specs.declared.run.Spec.{Spec}
use Rattle.rd_props.specs.Seen.{Seen}
use Rattle.rd_items.specs.Pieces.{Scene}
use Rattle.rd_items.specs.Items.{items_of, bracket_code}
use Rattle.rd_items.specs.declared.item.Item.{Item}
use Rattle.rd_items.specs.declared.item.ItemKind.{ItemKind}
use Rattle.rd_items.specs.declared.item.ItemKind.TheVariants as kind
use Rattle.rd_stack.specs.Shown.{Putting, kind_elements, put_text}
use Rattle.rd_levels.specs.Turns.{turns_of}
use Rattle.rd_levels.specs.declared.turn.Turn.{Turn}

-- what an item shows, in this face, at an odd level or not; for a string a flag says whether it is an overlay's
abbrev pub put_kind : {X : Type 0} → Putting X → Scene → ℕ → ItemKind → Bool → Bool → Attributes → Origin → List X
put_kind put s base k overlay odd face origin = put look.LineEnd (put_text put s base overlay origin face) s k odd face origin

-- an item's number, and the offsets of its range from the block's start
abbrev pub origin_of : ℕ → Item → Origin
origin_of k item = record { item = k; from = item.from; to = item.to }

-- the item of a turn, with the turn's number; where there is none, nothing
abbrev pub put_turn : {X : Type 0} → Putting X → Scene → ℕ → Turn → Option Item → List X
put_turn put s base turn None = []
put_turn put s base turn (Some item) = put_kind put s base item.kind item.overlay turn.odd item.face (origin_of turn.index item)

-- what is put for a turn, by the items of a block; where the turn's item is none of these, nothing
abbrev pub put_item : {X : Type 0} → Putting X → Scene → ℕ → List Item → Turn → List X
put_item put s base items turn = put_turn put s base turn (slice_get items turn.index)

abbrev pub item_class : Item → Class
item_class item = item.class

abbrev pub item_code : Item → ℕ
item_code item = bracket_code item.kind

-- items in visual order, in a line of this base
abbrev pub item_turns : Scene → ℕ → List Item → List Turn
item_turns s base items =
    turns_of s.brackets s.parts.settings.reorder base (map item_class items) (map item_code items)

abbrev pub line_of_items : Scene → ℕ → List Item → List Element
line_of_items s base items = flat_map (put_item kind_elements s base items) (item_turns s base items)

-- the line of a block, by what is read of it: its items in visual order, each as its elements
abbrev pub line_elements : Scene → ℕ → List Seen → List Element
line_elements s base seen = line_of_items s base (items_of s seen)

-- the character that an item shows is one of these, and the spec of its space one of those
abbrev pub IsKind : (ℕ → Type 0) → (Spec → Type 0) → ItemKind → Type 0
IsKind C S (kind.Char c) = C c
IsKind C S (kind.Space spec) = S spec
IsKind C S k = Unit {0}

-- a character that an item shows has a code
abbrev pub IsCodedKind : ItemKind → Type 0
IsCodedKind k = IsKind (λ c. IsTrue (is_code c)) (λ spec. Unit {0}) k

abbrev pub AreCodedItems : List Item → Type 0
AreCodedItems items = All (λ item. IsCodedKind item.kind) items

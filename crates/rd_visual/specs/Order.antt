-- The ranges of a block's items in order of position, and how ranges end.
use Rattle.std.specs.Prelude.{◌≡◌, ℕ, ◌+◌, ◌<◌, ◌≤◌, true, List, [], ◌∷◌, ◌++◌, All, Some}
use Rattle.std.specs.List.{flat_map}
use Rattle.rd_ucd.specs.Data.{Data}
use Rattle.rd_objects.specs.Things.{ObjectLists}
use Rattle.rd_props.specs.Buffers.{BufferValue}
use Rattle.rd_items.specs.Covers.{is_ender_kind}
use Rattle.rd_items.specs.Items.{items_of}
use Rattle.rd_items.specs.Pieces.{scene_in}
use Rattle.rd_items.specs.Readings.{reading}
use Rattle.rd_items.specs.declared.item.Item.{Item}
use Rattle.rd_matrix.specs.declared.block.Block.{Block}
use Rattle.rd_visual.specs.Motion.{range_by}
use Rattle.rd_visual.specs.declared.range.Range.{Range}

-- the items of a block, in the order in which its positions are read
abbrev pub block_items : BufferValue → ObjectLists → Data → Block → List Item
block_items s objects files b = items_of (scene_in s.settings objects files) (reading s objects b.start)

-- the ranges of items that cover a position, in the items' order
abbrev pub ranges_in_order : ℕ → List Item → List Range
ranges_in_order start items = flat_map (λ x. range_by start (Some x)) items

-- the ranges of a block's items that cover a position, in order of position
abbrev pub ordered_ranges : BufferValue → ObjectLists → Data → Block → List Range
ordered_ranges s objects files b = ranges_in_order b.start (block_items s objects files b)

-- ranges that have a position each and stand one behind the other, from a position to another
abbrev pub StandBetween : ℕ → ℕ → List Range → Type 0
StandBetween from to [] = from ≡ to
StandBetween from to (r ∷ rs) = (r.from ≡ from) × (r.from < r.to) × StandBetween r.to to rs

abbrev pub range_of : ℕ → Item → Range
range_of start x = record { from = start + x.from; to = start + x.to }

-- The last of these ranges is that of the ender, which is the last of the items of a block that starts at a position. It ends with the
-- block, and each other range ends before it.
pub record EndsWithEnder (start end : ℕ) (items : List Item) (ranges : List Range) : Type 0 where
  pub others : List Item
  pub ender : Item
  pub listed : items ≡ others ++ ender ∷ []
  pub is : is_ender_kind ender.kind ≡ true
  pub front : List Range
  pub whole : ranges ≡ front ++ range_of start ender ∷ []
  pub last : start + ender.to ≡ end
  pub before : All (λ r. r.to ≤ start + ender.from) front

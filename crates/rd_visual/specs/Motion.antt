-- Motion in visual order: the item behind or before the one that covers a position.
use Rattle.std.specs.Prelude.{ℕ, ◌+◌, nat_lt, Bool, ◌==◌, if◌then◌else◌, List, [], ◌∷◌, reverse, slice_get, Option, None, Some}
use Rattle.std.specs.List.{flat_map}
use Rattle.rd_base.specs.Lists.{is_between}
use Rattle.rd_ucd.specs.Data.{Data}
use Rattle.rd_objects.specs.Things.{ObjectLists}
use Rattle.rd_props.specs.Buffers.{BufferValue, files_of, meaning}
use Rattle.rd_props.specs.Seen.{Seen}
use Rattle.rd_props.specs.declared.state.View.{View}
use Rattle.rd_items.specs.Items.{items_of}
use Rattle.rd_items.specs.Pieces.{Scene, scene_in}
use Rattle.rd_items.specs.Readings.{reading}
use Rattle.rd_items.specs.declared.item.Item.{Item}
use Rattle.rd_levels.specs.declared.turn.Turn.{Turn}
use Rattle.rd_stack.specs.Lines.{item_turns}
use Rattle.rd_matrix.specs.declared.block.Block.{Block}
use Rattle.rd_blocks.specs.Bases.{blocks_in}
use Rattle.rd_visual.specs.declared.range.Range.{Range}

-- the range of an item in the block that starts at a position; it has none where it covers no position
abbrev pub range_by : ℕ → Option Item → List Range
range_by start None = []
range_by start (Some x) = if nat_lt x.from x.to then record { from = start + x.from; to = start + x.to } ∷ [] else []

abbrev pub ranges_in_turn : ℕ → List Item → List Turn → List Range
ranges_in_turn start items turns = flat_map (λ t. range_by start (slice_get items t.index)) turns

-- the ranges of the items of a block that cover a position, in visual order from the reading edge
abbrev pub ranges_of : Scene → ℕ → ℕ → List Seen → List Range
ranges_of scene start base es = ranges_in_turn start (items_of scene es) (item_turns scene base (items_of scene es))

abbrev pub block_ranges : BufferValue → ObjectLists → Data → Block → List Range
block_ranges s objects files b = ranges_of (scene_in s.settings objects files) b.start b.base (reading s objects b.start)

-- the ranges of all blocks of a buffer, in order
abbrev pub all_ranges : BufferValue → ObjectLists → Data → List Range
all_ranges s objects files = flat_map (block_ranges s objects files) (blocks_in files.classes s)

abbrev pub holds : ℕ → Range → Bool
holds pos r = is_between r.from r.to pos

-- the least position of the item that covers a position
abbrev pub least : ℕ → List Range → Option ℕ
least pos [] = None
least pos (r ∷ rs) = if holds pos r then Some r.from else least pos rs

-- the least position of the item right behind the one that covers a position
abbrev pub behind : ℕ → List Range → Option ℕ
behind pos [] = None
behind pos (r ∷ []) = None
behind pos (r ∷ next ∷ rs) = if holds pos r then Some next.from else behind pos (next ∷ rs)

-- the least position of the item right before the one that covers a position
abbrev pub before : ℕ → List Range → Option ℕ
before pos rs = behind pos (reverse rs)

-- the least position of the first of these items
abbrev pub first : List Range → Option ℕ
first [] = None
first (r ∷ rs) = Some r.from

abbrev pub forward : BufferValue → ObjectLists → Data → ℕ → Option ℕ
forward s objects files pos = behind pos (all_ranges s objects files)

abbrev pub backward : BufferValue → ObjectLists → Data → ℕ → Option ℕ
backward s objects files pos = before pos (all_ranges s objects files)

-- the base level of the block that holds a position
abbrev pub base_of : List Block → ℕ → ℕ
base_of [] pos = 0
base_of (b ∷ bs) pos = if nat_lt pos b.end then b.base else base_of bs pos

abbrev pub base_in : BufferValue → Data → ℕ → ℕ
base_in s files pos = base_of (blocks_in files.classes s) pos

-- right is forward in a block that is read from the left edge, and backward in one that is read from the right edge; left is the
-- other
abbrev pub right_of : BufferValue → ObjectLists → Data → ℕ → Option ℕ
right_of s objects files pos = if base_in s files pos == 0 then forward s objects files pos else backward s objects files pos

abbrev pub left_of : BufferValue → ObjectLists → Data → ℕ → Option ℕ
left_of s objects files pos = if base_in s files pos == 0 then backward s objects files pos else forward s objects files pos

abbrev pub view_ranges : View → Block → List Range
view_ranges view b = block_ranges (meaning view.state.now) view.objects.now (files_of view) b

abbrev pub view_blocks : View → List Block
view_blocks view = blocks_in view.classes.now (meaning view.state.now)

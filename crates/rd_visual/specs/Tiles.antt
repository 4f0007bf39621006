-- The blocks of a text, and the items that tile each of them.
use Rattle.std.specs.Prelude.{◌≡◌, ℕ, ◌+◌, ◌<◌, ◌≤◌, length, count_by}
use Rattle.rd_ucd.specs.Data.{Data}
use Rattle.rd_objects.specs.Things.{ObjectLists}
use Rattle.rd_text.specs.Texts.{IsAccessible}
use Rattle.rd_props.specs.Buffers.{BufferValue}
use Rattle.rd_items.specs.Blocks.{AreListed, IsBlock}
use Rattle.rd_items.specs.Covers.{CoverBlock}
use Rattle.rd_items.specs.Pieces.{scene_in}
use Rattle.rd_items.specs.Readings.{reading}
use Rattle.rd_matrix.specs.Blocks.{IsAmong}
use Rattle.rd_matrix.specs.declared.block.Block.{Block}
use Rattle.rd_blocks.specs.Bases.{blocks_in}
use Rattle.rd_visual.specs.Motion.{all_ranges, block_ranges, holds}
use Rattle.rd_visual.specs.Order.{block_items}

-- the items of a block cover it as `CoverBlock` says
pub record IsTiled (s : BufferValue) (objects : ObjectLists) (files : Data) (b : Block) : Type 0 where
  pub size : b.start + length (reading s objects b.start) ≡ b.end
  pub items : CoverBlock (scene_in s.settings objects files) 0 (length (reading s objects b.start)) (block_items s objects files b)

-- the blocks of a text stand one behind the other from its begin to its end, and items tile each
pub record AreTiled (s : BufferValue) : Type 0 where
  pub listed : AreListed s
  pub tiled : (objects : ObjectLists) (files : Data) (b : Block) → IsBlock s b.start b.end → IsTiled s objects files b

-- one item covers each accessible position, and the accessible end, and it is one of the block that holds it
pub record CoverOnce (s : BufferValue) (objects : ObjectLists) (files : Data) : Type 0 where
  pub every : (pos : ℕ) → IsAccessible s.text pos → count_by (holds pos) (all_ranges s objects files) ≡ 1
  pub block : (b : Block) (pos : ℕ) → IsAmong (blocks_in files.classes s) b → b.start ≤ pos → pos < b.end → count_by (holds pos) (block_ranges s objects files b) ≡ 1

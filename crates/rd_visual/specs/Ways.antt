-- A step in visual order, by its way.
use Rattle.std.specs.Prelude.{ℕ, ◌+◌, ◌==◌, if◌then◌else◌, List, reverse, slice_get, Option}
use Rattle.rd_ucd.specs.Data.{Data}
use Rattle.rd_objects.specs.Things.{ObjectLists}
use Rattle.rd_props.specs.Buffers.{BufferValue}
use Rattle.rd_matrix.specs.Blocks.{block_before}
use Rattle.rd_matrix.specs.declared.block.Block.{Block}
use Rattle.rd_visual.specs.Motion.{all_ranges, behind, first, left_of, right_of}
use Rattle.rd_visual.specs.declared.range.Range.{Range}
use Rattle.rd_visual.specs.declared.way.Way.{Way}
use Rattle.rd_visual.specs.declared.way.Way.TheVariants.{Forward, Backward}

abbrev pub opposite : Way → Way
opposite Forward = Backward
opposite Backward = Forward

-- the way in a block of a base level, where it is this one in a block that is read from the left edge
abbrev pub way_in : Way → ℕ → Way
way_in way base = if base == 0 then way else opposite way

-- ranges as they come on the way
abbrev pub along : Way → List Range → List Range
along Forward rs = rs
along Backward rs = reverse rs

-- the least position of the item to which a step leads from the one that covers a position
abbrev pub beside : Way → ℕ → List Range → Option ℕ
beside way pos rs = behind pos (along way rs)

-- the least position of the item that is the first on the way
abbrev pub entered : Way → List Range → Option ℕ
entered way rs = first (along way rs)

-- the block to which a step leads from the one at a place
abbrev pub block_beside : Way → List Block → ℕ → Option Block
block_beside Forward bs k = slice_get bs (k + 1)
block_beside Backward bs k = block_before bs k

-- a step among the items of all blocks
abbrev pub stepped : Way → BufferValue → ObjectLists → Data → ℕ → Option ℕ
stepped way s objects files pos = beside way pos (all_ranges s objects files)

-- the step to a side, that to the right where it leads forward in a block that is read from the left edge
abbrev pub sideways : Way → BufferValue → ObjectLists → Data → ℕ → Option ℕ
sideways Forward s objects files pos = right_of s objects files pos
sideways Backward s objects files pos = left_of s objects files pos

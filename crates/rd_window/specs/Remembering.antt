-- Rows that are remembered until they are asked for again. The crate's public contract does not name them.
use Rattle.std.specs.Prelude.{◌≡◌, ◌^◌, ◌<◌, ◌==◌, ◌&&◌, Bool, length}
use Rattle.rd_matrix.specs.Sources.{IsSource, SourceValues}
use Rattle.rd_matrix.specs.declared.block.Block.{Block}
use Rattle.rd_rows.specs.Copies.{shown_rows}
use Rattle.rd_rows.specs.Shapes.{ShapeValues, is_same_shape}
use Rattle.rd_window.specs.declared.remembered.LaidBlock.{LaidBlock}

-- whether two blocks are the same
abbrev pub is_same_block : Block → Block → Bool
is_same_block a b = (a.start == b.start) && (a.end == b.end) && (a.base == b.base)

-- whether rows are those of a block at a shape
abbrev pub is_of : Block → ShapeValues → LaidBlock → Bool
is_of b shape laid = is_same_block laid.block b && is_same_shape laid.shape shape

-- the rows of a block of a source, which is known to be one
pub record IsLaid (m : SourceValues) (laid : LaidBlock) : Type 0 where
  pub source : IsSource m
  pub rows : shown_rows laid.rows.items ≡ m.rows_of laid.block laid.shape
  pub few : length laid.rows.items < 2 ^ 32

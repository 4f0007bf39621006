-- Sources of blocks and of their rows.
use Rattle.std.specs.Prelude.{◌≡◌, ℕ, ◌+◌, ◌-◌, ◌<◌, ◌≤◌, Bool, false, IsTrue, List, [], ◌∷◌, count_by, All}
use Rattle.std.specs.List.{list_any}
use Rattle.rd_base.specs.Lists.{total}
use Rattle.rd_matrix.specs.Blocks.{AreBlocks, IsAmong}
use Rattle.rd_matrix.specs.Columns.{covers}
use Rattle.rd_matrix.specs.Entries.{EntryMeaning, all_rows}
use Rattle.rd_matrix.specs.declared.block.Block.{Block}
pub use Rattle.rd_rows.specs.Laws.{ends_last, begins_of}
use Rattle.rd_rows.specs.Rows.{RowMeaning}
use Rattle.rd_rows.specs.Shapes.{ShapeValues, IsShape}
use Rattle.rd_rows.specs.declared.begin.Begin.{Begin}

-- what a source is: its blocks in order, the rows of a block at a shape, and by how much the making of these may raise the steps, in
-- this source and in the one that it stands on
pub record SourceValues : Type 0 where
  pub blocks : List Block
  pub rows_of : Block → ShapeValues → List RowMeaning
  pub cost_of : Block → ShapeValues → ℕ
  pub cost_beneath : Block → ShapeValues → ℕ

-- a source that stands on none, whose cost beneath is its own
abbrev pub source_by_itself : List Block → (Block → ShapeValues → List RowMeaning) → (Block → ShapeValues → ℕ) → SourceValues
source_by_itself blocks rows cost = record { blocks = blocks; rows_of = rows; cost_of = cost; cost_beneath = cost }

-- the rows of all of its blocks at a shape
abbrev pub rows_at : SourceValues → ShapeValues → List EntryMeaning
rows_at m shape = all_rows (λ b. m.rows_of b shape) m.blocks

-- the costs of blocks together
abbrev pub costs_of : (Block → ℕ) → List Block → ℕ
costs_of cost bs = total cost bs

-- an item's range lies in the block from one position up to another
abbrev pub IsInBlock : ℕ → ℕ → Begin → Type 0
IsInBlock start end b = (b.from ≤ b.to) × (start + b.to ≤ end)

-- the rows of a block from one position up to another: at least one, of which the last and no other ends the block; and the items
-- that begin in them lie in the block, and exactly one of them covers each of its positions
pub record AreRowsOf (start end : ℕ) (rows : List RowMeaning) : Type 0 where
  pub ends : IsTrue (ends_last rows)
  pub inside : All (IsInBlock start end) (begins_of rows)
  pub once : (point : ℕ) → start ≤ point → point < end → count_by (covers start point) (begins_of rows) ≡ 1

-- what holds of every source
pub record IsSource (m : SourceValues) : Type 0 where
  pub blocks : AreBlocks m.blocks
  pub rows : (b : Block) (shape : ShapeValues) → IsAmong m.blocks b → IsShape shape → AreRowsOf b.start b.end (m.rows_of b shape)

-- whether an item that passes a test begins in the last of these rows
abbrev pub begins_last : (Begin → Bool) → List RowMeaning → Bool
begins_last test [] = false
begins_last test (r ∷ []) = list_any test r.begins
begins_last test (r ∷ s ∷ rs) = begins_last test (s ∷ rs)

-- the item of each block's last position begins in the block's last row; not every source has this
abbrev pub EndersBeginLast : SourceValues → Type 0
EndersBeginLast m =
    (b : Block) (shape : ShapeValues) → IsAmong m.blocks b → IsShape shape → IsTrue (begins_last (covers b.start (b.end - 1)) (m.rows_of b shape))

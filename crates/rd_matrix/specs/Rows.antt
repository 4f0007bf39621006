-- Blocks that have a row of a kind.
use Rattle.std.specs.Prelude.{ℕ, ◌+◌, Bool, if◌then◌else◌, List, [], ◌∷◌, length}
use Rattle.std.specs.List.{list_any, range_with_len}
use Rattle.rd_matrix.specs.declared.block.Block.{Block}
use Rattle.rd_rows.specs.Rows.{RowMeaning}

-- the blocks that have a row with a number of a kind, where the first of their rows has a number
abbrev pub blocks_with : (ℕ → Bool) → (Block → List RowMeaning) → ℕ → List Block → List Block
blocks_with kind rows first [] = []
blocks_with kind rows first (b ∷ bs) =
    let behind = blocks_with kind rows (first + length (rows b)) bs in
    if list_any kind (range_with_len first (length (rows b))) then b ∷ behind else behind

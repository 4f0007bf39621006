-- The rows in view from an anchor on, what they cost, and how often they were copied.
use Rattle.std.specs.Prelude.{◌≡◌, ℕ, true, List, Some, option_map, slice_get}
use Rattle.rd_base.specs.Lists.{is_between}
use Rattle.rd_base.specs.declared.settings.Anchor.{Anchor}
use Rattle.rd_matrix.specs.Blocks.{IsAmong}
use Rattle.rd_matrix.specs.Entries.{EntryMeaning}
use Rattle.rd_matrix.specs.Rows.{blocks_with}
use Rattle.rd_matrix.specs.Sources.{SourceValues, costs_of}
use Rattle.rd_matrix.specs.declared.block.Block.{Block}
use Rattle.rd_matrix.specs.declared.matrix.Entry.{Entry}
use Rattle.rd_reuse.specs.Keeping.{entry_under, fresh_cost, is_kept}
use Rattle.rd_reuse.specs.declared.change.Change.{Change}
use Rattle.rd_rows.specs.Copies.{copied}
use Rattle.rd_rows.specs.Shapes.{ShapeValues}

-- the block and the number of a row
abbrev pub anchor_of : EntryMeaning → Anchor
anchor_of e = record { pos = e.start; row = e.number }

-- an anchor names the row at a place
abbrev pub Names : Anchor → List EntryMeaning → ℕ → Type 0
Names anchor rows place = option_map anchor_of (slice_get rows place) ≡ Some anchor

-- what the blocks cost together that have a row in view, which has the rows from one place up to another, and do not keep their older
-- rows
abbrev pub fresh_costs : SourceValues → List Entry → Change → ShapeValues → ℕ → ℕ → ℕ
fresh_costs m old c shape from to = costs_of (fresh_cost m old c shape) (blocks_with (is_between from to) (λ b. m.rows_of b shape) 0 m.blocks)

-- a row of a block that keeps its rows was copied once more than the older row from which it comes
abbrev pub IsCopied : List Entry → Change → List Block → Entry → Type 0
IsCopied old c bs e = (b : Block) (o : Entry) → IsAmong bs b → b.start ≡ e.start → is_kept old c b ≡ true → entry_under old c e.start e.number ≡ Some o
    → e.row.copies ≡ copied o.row.copies

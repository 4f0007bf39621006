-- Which blocks keep the rows that they have in an older layout, and which rows these are.
use Rattle.std.specs.Prelude.{◌≡◌, ℕ, zero, suc, ◌+◌, nat_le, Bool, true, not, ◌==◌, ◌&&◌, ◌||◌, if◌then◌else◌, List, [], ◌∷◌, length, map, Option, None, Some, find, pos, ◌-ℤ◌}
use Rattle.std.specs.List.{list_all}
use Rattle.std.specs.Ordering.{int_eq}
use Rattle.rd_matrix.specs.Blocks.{IsAmong}
use Rattle.rd_matrix.specs.Sources.{SourceValues}
use Rattle.rd_matrix.specs.declared.block.Block.{Block}
use Rattle.rd_matrix.specs.declared.matrix.Entry.{Entry}
use Rattle.rd_reuse.specs.declared.change.Change.{Change}
use Rattle.rd_rows.specs.Copies.{RowValues, copied, shown_rows}
use Rattle.rd_rows.specs.Laws.{ends_last}
use Rattle.rd_rows.specs.Rows.{RowMeaning}
use Rattle.rd_rows.specs.Shapes.{ShapeValues, is_same_shape}

-- whether all that a block covers, its ender too, is below the head, or the block starts at the tail or later
abbrev pub is_outside : Change → Block → Bool
is_outside c b = nat_le b.end c.head || nat_le c.tail b.start

-- whether a block that starts at a position started at another one before the change: at this one, or moved by what was added
-- where it starts at the tail or later
abbrev pub started_at : Change → ℕ → ℕ → Bool
started_at c start before = if nat_le c.tail start then int_eq (pos start -ℤ pos before) c.added else before == start

-- whether an older row has a number in the block that starts at a position now
abbrev pub is_under : Change → ℕ → ℕ → Entry → Bool
is_under c start number e = started_at c start e.start && (e.number == number)

-- the first of the older rows that has a number in this block
abbrev pub entry_under : List Entry → Change → ℕ → ℕ → Option Entry
entry_under old c start number = find (is_under c start number) old

-- a row and those behind it, up to the first that ends its block
abbrev pub up_to_end : Option Entry → List RowValues → List RowValues
up_to_end None rows = []
up_to_end (Some e) rows = e.row ∷ (if e.row.shown.ends_block then [] else rows)

-- the older rows of a block from a number on, at most so many
abbrev pub taken_from : ℕ → List Entry → Change → ℕ → ℕ → List RowValues
taken_from zero old c start number = []
taken_from (suc n) old c start number = up_to_end (entry_under old c start number) (taken_from n old c start (number + 1))

-- the older rows of the block that starts at a position now: one for each number from 0 on, up to the first that ends the block or
-- to a number that none has
abbrev pub taken : List Entry → Change → ℕ → List RowValues
taken old c start = taken_from (length old) old c start 0

-- rows copied once more
abbrev pub copied_rows : List RowValues → List RowValues
copied_rows rows = map (λ r. record { shown = r.shown; copies = copied r.copies }) rows

-- whether a row is read as those of a block of a base level are, from the right edge where it is 1
abbrev pub has_base : ℕ → RowMeaning → Bool
has_base base row = if base == 1 then row.reversed else not row.reversed

-- whether rows are all of the rows of a block of a base level
abbrev pub are_whole : ℕ → List RowMeaning → Bool
are_whole base rows = ends_last rows && list_all (has_base base) rows

-- whether a block keeps its older rows: what it covers did not change, all of its rows are there, and its base level is theirs
abbrev pub is_kept : List Entry → Change → Block → Bool
is_kept old c b = is_outside c b && are_whole b.base (shown_rows (taken old c b.start))

-- the older rows of each block of a source that keeps them are the source's at a shape
abbrev pub AreRight : SourceValues → List Entry → Change → ShapeValues → Type 0
AreRight m old c shape = (b : Block) → IsAmong m.blocks b → is_kept old c b ≡ true → shown_rows (taken old c b.start) ≡ m.rows_of b shape

-- what the rows of a block cost where those that it keeps cost nothing
abbrev pub fresh_cost : SourceValues → List Entry → Change → ShapeValues → Block → ℕ
fresh_cost m old c shape b = if is_kept old c b then 0 else m.cost_of b shape

-- a source whose blocks keep their older rows at the shape that these have
abbrev pub kept_source : SourceValues → List Entry → Change → ShapeValues → SourceValues
kept_source m old c shape = record m {
  cost_of = λ b asked. if is_same_shape asked shape then fresh_cost m old c shape b else m.cost_of b asked;
  cost_beneath = m.cost_of;
}

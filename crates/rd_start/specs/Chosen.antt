-- The start and the point that are chosen for a window, from all rows of its text.
use Rattle.std.specs.Prelude.{ℕ, ◌+◌, ◌-◌, min, max, nat_lt, Bool, ◌==◌, if◌then◌else◌, List, [], ◌∷◌, length, take, drop, slice_get, Option, None, Some}
use Rattle.std.specs.List.{flat_map, list_any, reduce, position_or_len}
use Rattle.std.specs.Option.{unwrap_or}
use Rattle.rd_base.specs.declared.settings.Anchor.{Anchor}
use Rattle.rd_matrix.specs.Columns.{covers}
use Rattle.rd_matrix.specs.Entries.{EntryMeaning}
use Rattle.rd_matrix.specs.Sources.{SourceValues, rows_at}
use Rattle.rd_matrix.specs.declared.block.Block.{Block}
use Rattle.rd_rows.specs.Rows.{RowMeaning}
use Rattle.rd_rows.specs.Shapes.{ShapeValues}
use Rattle.rd_rows.specs.declared.begin.Begin.{Begin}
use Rattle.rd_start.specs.Starts.{Places, is_in_view, start_of}
use Rattle.rd_start.specs.declared.wanted.Chosen.{Chosen}
use Rattle.rd_start.specs.declared.wanted.Wanted.{Wanted}

-- whether an item that covers a position begins in a row
abbrev pub begins_item : ℕ → EntryMeaning → Bool
begins_item point e = list_any (covers e.start point) e.row.begins

-- the first row in which an item that covers a position begins, and the count of rows where there is none
abbrev pub row_of : ℕ → List EntryMeaning → ℕ
row_of point rows = position_or_len (begins_item point) rows

-- the number of an anchor's row in the block that starts at a position: the row that it names, held to the block's last one, and
-- the first where the anchor is not that block's start
abbrev pub row_in_block : Anchor → ℕ → List RowMeaning → ℕ
row_in_block anchor start rows = if anchor.pos == start then min anchor.row (length rows - 1) else 0

-- an anchor's row among the rows of blocks: that of the block that holds the anchor's position
abbrev pub anchor_row : (Block → List RowMeaning) → Anchor → List Block → ℕ
anchor_row rows anchor [] = 0
anchor_row rows anchor (b ∷ bs) =
    if nat_lt anchor.pos b.end
    then row_in_block anchor b.start (rows b)
    else length (rows b) + anchor_row rows anchor bs

-- the rows of a window's anchor and of its point among all rows of a source
abbrev pub places_of : SourceValues → ShapeValues → Wanted → Places
places_of m shape w = record {
  old = anchor_row (λ b. m.rows_of b shape) w.anchor m.blocks;
  point = row_of w.point (rows_at m shape);
  count = length (rows_at m shape);
}

-- the block and the number of a row, which name a start
abbrev pub anchor_from : Option EntryMeaning → Anchor
anchor_from None = record { pos = 0; row = 0 }
anchor_from (Some e) = record { pos = e.start; row = e.number }

abbrev pub anchor_at : List EntryMeaning → ℕ → Anchor
anchor_at rows row = anchor_from (slice_get rows row)

-- the least position that an item covers, in a block that starts at a position, and none where it covers no position
abbrev pub first_covered : ℕ → Begin → List ℕ
first_covered start b = if nat_lt b.from b.to then (start + b.from) ∷ [] else []

-- the least positions that the items cover which begin in a row, and in rows
abbrev pub positions_of : EntryMeaning → List ℕ
positions_of e = flat_map (first_covered e.start) e.row.begins

abbrev pub first_positions : List EntryMeaning → List ℕ
first_positions rows = flat_map positions_of rows

-- point in a window whose start is forced: where its row is out of view it moves to the first item in order of position that
-- begins in view and covers a position, or to the last one where its row is below the view; where there is none it stays
abbrev pub forced_point : Wanted → ℕ → ℕ → List EntryMeaning → ℕ
forced_point w start row view =
    if is_in_view w.height start row
    then w.point
    else if nat_lt row start
    then unwrap_or (reduce min (first_positions view)) w.point
    else unwrap_or (reduce max (first_positions view)) w.point

-- point in a window that starts with a row; it moves where the start is forced
abbrev pub point_from : Wanted → Places → ℕ → List EntryMeaning → ℕ
point_from w at start rows = if w.forced then forced_point w start at.point (take w.height (drop start rows)) else w.point

-- the start and the point that are chosen for a window
abbrev pub chosen_of : SourceValues → ShapeValues → Wanted → Chosen
chosen_of m shape w =
    let at = places_of m shape w in
    let rows = rows_at m shape in
    record { anchor = anchor_at rows (start_of w at); point = point_from w at (start_of w at) rows }

-- The last layout of a window, and how much of it can be kept.
use Rattle.std.specs.Prelude.{◌≡◌, ℕ, ◌+◌, ◌*◌, Bool, true, false, not, ◌==◌, ◌&&◌, if◌then◌else◌, List, [], take, drop, All, Option, None, Some}
use Rattle.rd_base.specs.declared.settings.Anchor.{Anchor}
use Rattle.rd_matrix.specs.Blocks.{end_from, first_start}
use Rattle.rd_matrix.specs.Entries.{shown_entries}
use Rattle.rd_matrix.specs.Sources.{EndersBeginLast, IsSource, SourceValues, rows_at}
use Rattle.rd_matrix.specs.declared.matrix.Entry.{Entry}
use Rattle.rd_reuse.specs.Changes.{all, is_none, none}
use Rattle.rd_reuse.specs.Keeping.{kept_source}
use Rattle.rd_reuse.specs.Views.{IsCopied}
use Rattle.rd_reuse.specs.declared.change.Change.{Change}
use Rattle.rd_rows.specs.Shapes.{ShapeValues, is_same_shape}
use Rattle.rd_start.specs.Chosen.{anchor_row, places_of}
use Rattle.rd_start.specs.Near.{near_costs}
use Rattle.rd_start.specs.Starts.{suits}
use Rattle.rd_start.specs.declared.wanted.Wanted.{Wanted}
use Rattle.rd_window.specs.Views.{has_first_row, has_last_row, rows_in_view, shows_at, starts_at}
use Rattle.rd_window.specs.declared.layout.Layout.{Layout}
use Rattle.rd_window.specs.declared.layout.TextEnds.{TextEnds}

-- the rows of a last layout that can be kept at a shape: none where it has another one
abbrev pub older_rows : Option Layout → ShapeValues → List Entry
older_rows None shape = []
older_rows (Some l) shape = if is_same_shape l.shape shape then l.matrix else []

-- what changed since a last layout
abbrev pub change_since : Option Layout → Change
change_since None = all
change_since (Some l) = l.change

-- the source of a window's rows, where a block costs nothing that keeps the rows of the last layout
abbrev pub kept_by : Option Layout → SourceValues → ShapeValues → SourceValues
kept_by last m shape = kept_source m (older_rows last shape) (change_since last) shape

-- whether a layout is still that of a window: nothing changed since, its start was not set by command, and it has the layout's shape,
-- height and ways of scrolling
abbrev pub is_current : Layout → ShapeValues → Wanted → Bool
is_current l shape w =
    is_none l.change && not w.forced && is_same_shape l.shape shape && (l.height == w.height) && (l.margin == w.margin)
    && (l.conservatively == w.conservatively)

-- whether a window's last layout is still right, and its start suits point: then the cursor alone moves
abbrev pub rests : Option Layout → SourceValues → ShapeValues → Wanted → Bool
rests None m shape w = false
rests (Some l) m shape w = is_current l shape w && suits w (places_of m shape w) (places_of m shape w).old

-- The most steps that the layout of a window takes: none where the cursor alone moves, and else three times the costs of the blocks that
-- have a row near it, where a block costs nothing that keeps the rows of the last layout. The choice of the start takes up to two of the
-- three, and the rows in view take the third.
abbrev pub allowance : Option Layout → SourceValues → ShapeValues → Wanted → ℕ
allowance last m shape w = if rests last m shape w then 0 else 3 * near_costs (kept_by last m shape) shape w

-- What a last layout shows of a source is still what a window shows of it from the row of an anchor on: its rows are those in view from
-- there.
pub record Stands (m : SourceValues) (anchor : Anchor) (l : Layout) : Type 0 where
  pub rows : shown_entries l.matrix ≡ take l.height (drop (anchor_row (λ b. m.rows_of b l.shape) anchor m.blocks) (rows_at m l.shape))

-- a source of the blocks of a text with these ends: the first starts where the text begins, and the last holds its end. Beyond what holds
-- of every source, the item of each block's last position begins in the block's last row.
pub record IsSourceOf (ends : TextEnds) (m : SourceValues) : Type 0 where
  pub source : IsSource m
  pub begin : ends.begin ≡ first_start m.blocks
  pub end : ends.end + 1 ≡ end_from 0 m.blocks
  pub last : EndersBeginLast m

-- a layout of a text with these ends tells by its rows whether a window shows the first row of the text and the last one
pub record TellsEnds (ends : TextEnds) (m : SourceValues) (shape : ShapeValues) (w : Wanted) (l : Layout) : Type 0 where
  pub top : starts_at ends.begin (shown_entries l.matrix) ≡ has_first_row m shape w
  pub bottom : shows_at ends.end (shown_entries l.matrix) ≡ has_last_row m shape w

-- a window's last layout stands where nothing changed since it was made, and its start was not set by command since
abbrev pub StandsUnchanged : Option Layout → SourceValues → Bool → Anchor → Type 0
StandsUnchanged None m forced anchor = Unit {0}
StandsUnchanged (Some l) m forced anchor = is_none l.change ≡ true → forced ≡ false → Stands m anchor l

-- the layout that a window has after it was laid out: the new one, and the last one where there is no new one
abbrev pub layout_after : Option Layout → Option Layout → Option Layout
layout_after last None = last
layout_after last (Some new) = Some new

-- the layout of a window that was just laid out with these rows, by this shape and what it wanted: nothing has changed since
abbrev pub made_layout : List Entry → ShapeValues → Wanted → Layout
made_layout matrix shape w = record {
  matrix = matrix;
  shape = shape;
  height = w.height;
  margin = w.margin;
  conservatively = w.conservatively;
  change = none;
}

-- a window's new layout: its rows in view, and how they were laid out. Where the cursor alone moves the rows stay, their copies too,
-- and else each row of a block that keeps its rows was copied once more
pub record IsLaidOut (last : Option Layout) (m : SourceValues) (shape : ShapeValues) (w : Wanted) (new : Layout) : Type 0 where
  pub rows : shown_entries new.matrix ≡ rows_in_view m shape w
  pub is : new ≡ made_layout new.matrix shape w
  pub stays : rests last m shape w ≡ true → new.matrix ≡ older_rows last shape
  pub copies : rests last m shape w ≡ false → All (IsCopied (older_rows last shape) (change_since last) m.blocks) new.matrix

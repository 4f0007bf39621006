-- What a window shows of a source of blocks, as the rules give it from nothing.
use Rattle.std.specs.Prelude.{ℕ, ◌+◌, nat_le, Bool, false, ◌==◌, ◌&&◌, is_some, List, [], ◌∷◌, length, take, drop}
use Rattle.rd_base.specs.declared.settings.Anchor.{Anchor}
use Rattle.rd_matrix.specs.Cursors.{cursor_in}
use Rattle.rd_matrix.specs.Entries.{EntryMeaning}
use Rattle.rd_matrix.specs.Sources.{SourceValues, rows_at}
use Rattle.rd_rows.specs.Shapes.{ShapeValues}
use Rattle.rd_start.specs.Chosen.{chosen_of, places_of}
use Rattle.rd_start.specs.Starts.{start_of}
use Rattle.rd_start.specs.declared.wanted.Wanted.{Wanted}

-- the number of the row at which a window starts, among all rows of its text
abbrev pub start_row : SourceValues → ShapeValues → Wanted → ℕ
start_row m shape w = start_of w (places_of m shape w)

-- the rows in view: those from the start on, as many as the window has rows for, or as there are
abbrev pub rows_in_view : SourceValues → ShapeValues → Wanted → List EntryMeaning
rows_in_view m shape w = take w.height (drop (start_row m shape w) (rows_at m shape))

-- whether the view starts with the first row of the text
abbrev pub has_first_row : SourceValues → ShapeValues → Wanted → Bool
has_first_row m shape w = start_row m shape w == 0

-- whether the view holds the last row of the text
abbrev pub has_last_row : SourceValues → ShapeValues → Wanted → Bool
has_last_row m shape w = nat_le (length (rows_at m shape)) (start_row m shape w + w.height)

-- whether rows begin with row 0 of the block that starts at a position
abbrev pub starts_at : ℕ → List EntryMeaning → Bool
starts_at begin [] = false
starts_at begin (e ∷ es) = (e.start == begin) && (e.number == 0)

-- whether the item that covers a position begins in one of these rows
abbrev pub shows_at : ℕ → List EntryMeaning → Bool
shows_at pos es = is_some (cursor_in pos es)

-- what a window shows: the start and the point that were chosen for it, the rows in view, and whether these have the first row and
-- the last one of the text
pub record WindowView : Type 0 where
  pub anchor : Anchor
  pub point : ℕ
  pub rows : List EntryMeaning
  pub top : Bool
  pub bottom : Bool

abbrev pub view_of : SourceValues → ShapeValues → Wanted → WindowView
view_of m shape w = record {
  anchor = (chosen_of m shape w).anchor;
  point = (chosen_of m shape w).point;
  rows = rows_in_view m shape w;
  top = has_first_row m shape w;
  bottom = has_last_row m shape w;
}

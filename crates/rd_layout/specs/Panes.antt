-- What a window shows in its rectangle: its rows behind their margins, its border, and its mode line.
use Rattle.std.specs.Prelude.{ℕ, ◌-◌, ◌+◌, ◌==◌, ◌&&◌, Bool, not, Option, None, Some, Result, Ok, Err, List, [], length, map, slice_get}
use Rattle.std.specs.Option.{option_and_then}
use Rattle.std.specs.Str.{chars}
use Rattle.rd_base.specs.declared.cell.Cell.{Cell}
use Rattle.rd_base.specs.declared.cell.Glyph.{Glyph}
use Rattle.rd_ucd.specs.Data.{Data}
use Rattle.rd_objects.specs.Tables.{TableValue}
use Rattle.rd_objects.specs.Texts.{TextValue}
use Rattle.rd_objects.specs.Things.{ObjectLists}
use Rattle.rd_items.specs.Pieces.{table_in}
use Rattle.rd_frame.specs.Held.{glyph_row}
use Rattle.rd_frame.specs.Panes.{PaneValues, border_cell}
use Rattle.rd_margins.specs.Cells.{row_margin}
use Rattle.rd_margins.specs.Marks.{margin_string}
use Rattle.rd_margins.specs.declared.rows.Widths.{Widths}
use Rattle.rd_matrix.specs.Entries.{EntryMeaning}
use Rattle.rd_modeline.specs.Formats.{pieces_of}
use Rattle.rd_modeline.specs.Lines.{line_cells}
use Rattle.rd_modeline.specs.Values.{FactValues}
use Rattle.rd_modeline.specs.declared.piece.Piece.{Piece}
use Rattle.rd_state.specs.States.{BufferValue, ContentValue, StateValue}
use Rattle.rd_state.specs.Windows.{shown_content}
use Rattle.rd_state.specs.declared.window.WindowState.{WindowState}
use Rattle.rd_text.specs.Texts as text
use Rattle.rd_tree.specs.declared.placed.Placed.{Placed}
use Rattle.rd_window.specs.Views.{WindowView}
use Rattle.rd_layout.specs.Windows.{shown_buffer}

-- ---- margins

abbrev pub widths_of : WindowState → Widths
widths_of w = record { numbers = w.numbers; strings = w.strings }

abbrev pub text_of : Option TextValue → List ℕ
text_of None = []
text_of (Some string) = string.chars

-- the margin string that is shown beside the block that starts at a position; there is nothing where there is none
abbrev pub margin_text : ObjectLists → ContentValue → ℕ → List ℕ
margin_text objects c start = text_of (option_and_then (λ n. slice_get objects.strings n) (margin_string c.marks c.overlays start))

-- the margins beside a row: the line of its block's first position, and the margin string there
abbrev pub margin_of : Data → ObjectLists → ContentValue → Widths → EntryMeaning → List Cell
margin_of files objects c widths e =
    row_margin files.classes widths e.number (text.line_of c.text e.start) (margin_text objects c e.start)

-- ---- the border

abbrev pub border_in : Option TableValue → Option Glyph
border_in None = None
border_in (Some table) = table.border

-- the border slot of the display table of a buffer
abbrev pub border_slot : ObjectLists → ContentValue → Option Glyph
border_slot objects c = border_in (table_in objects c.settings.table)

-- ---- the mode line

-- whether all of a text is accessible
abbrev pub is_whole : text.TextValue → Bool
is_whole t = (t.begin == 1) && (t.end == length t.text + 1)

-- what a mode line can show of a buffer and of the view of it, which was chosen before
abbrev pub line_facts : BufferValue → WindowView → FactValues
line_facts b v = record {
  name = chars b.name;
  line = text.line_of b.content.text v.point;
  top = v.top;
  bottom = v.bottom;
  above = v.anchor.pos - b.content.text.begin;
  total = b.content.text.end - b.content.text.begin;
  modified = b.content.settings.modified;
  read_only = b.content.settings.read_only;
  narrowed = not (is_whole b.content.text);
}

-- the cells of a mode line of these pieces; a format that a window has is good
abbrev pub cells_of_pieces : Data → FactValues → ℕ → Result (List Piece) ℕ → List Cell
cells_of_pieces files facts width (Ok pieces) = line_cells files.classes facts width pieces
cells_of_pieces files facts width (Err place) = []

-- the cells of a mode line, where a window has a format for it
abbrev pub mode_line : Data → FactValues → ℕ → Option (List ℕ) → List Cell
mode_line files facts width None = []
mode_line files facts width (Some format) = cells_of_pieces files facts width (pieces_of format)

-- ---- all of a window

-- what a window of so many columns shows in its rectangle of a buffer that holds this and has these facts, where this is its view
abbrev pub pane_with : Data → ObjectLists → ContentValue → FactValues → WindowState → ℕ → WindowView → PaneValues
pane_with files objects content facts w width v = record {
  rows = map (glyph_row (margin_of files objects content (widths_of w))) v.rows;
  border = border_cell (border_slot objects content);
  mode_line = mode_line files facts width w.format;
}

-- what a window shows in its rectangle, where this is its view
abbrev pub pane_of : Data → StateValue → WindowState → Placed → WindowView → PaneValues
pane_of files s w place v = pane_with files s.objects (shown_content s w) (line_facts (shown_buffer s w) v) w place.rect.width v

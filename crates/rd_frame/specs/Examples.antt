-- Frames that the worked examples speak of.
use Rattle.std.specs.Prelude.{ℕ, ◌==◌, if◌then◌else◌, false, List, [], ◌∷◌, map, codes, None, Some, true}
use Rattle.rd_base.specs.Faces.{plain}
use Rattle.rd_base.specs.declared.cell.Cell.{Cell}
use Rattle.rd_term.specs.Terminals.{cell_of, plain_row}
use Rattle.rd_tree.specs.Windows.{Window, Split}
use Rattle.rd_tree.specs.declared.side.Side.TheVariants.{Below, Right}
use Rattle.rd_frame.specs.Panes.{GlyphRow, PaneValues, border_cell}
use Rattle.rd_frame.specs.Frames.{FrameValues}

-- a row that shows a text of ASCII in the face of mode lines
abbrev pub inverted : List ℕ → List Cell
inverted text = map (λ code. cell_of code (record plain { inverse = true })) text

-- a glyph row of two texts
abbrev pub glyphs : List ℕ → List ℕ → GlyphRow
glyphs margin text = record { margin = plain_row margin; text = plain_row text }

-- three lines of a text in a window, with a mode line
abbrev pub three_line_pane : List ℕ → List ℕ → List ℕ → PaneValues
three_line_pane first second third = record {
  rows = glyphs [] first ∷ glyphs [] second ∷ glyphs [] third ∷ [];
  border = border_cell None;
  mode_line = inverted (codes "main 3 27%  ");
}

-- two windows side by side on a frame of 24 columns and 5 rows: the left one has a border
abbrev pub beside_each_other : FrameValues
beside_each_other = record {
  tree = record { windows = Split Right 12 (Window 0 true 0) (Window 1 true 0); width = 24; height = 4; made = 2 };
  panes = λ window.
      if window.number == 0
      then three_line_pane (codes "3          ") (codes "4          ") (codes "5          ")
      else three_line_pane (codes "3           ") (codes "4           ") (codes "5           ");
  echo = plain_row (codes "                        ");
  selected = 0;
  cursor = Some (0, 0);
}

-- a row behind its margins, in a window whose mode line is of dashes where it shows one
abbrev pub one_line : List ℕ → List ℕ → PaneValues
one_line margin text = record { rows = glyphs margin text ∷ []; border = border_cell None; mode_line = inverted (codes "--------------") }

-- a window above another, which is selected, has a margin string and shows no cursor
abbrev pub above_another : FrameValues
above_another = record {
  tree = record { windows = Split Below 2 (Window 0 true 0) (Window 1 false 3); width = 14; height = 4; made = 2 };
  panes = λ window. if window.number == 0 then one_line [] (codes "top           ") else one_line (codes ">> ") (codes "ab         ");
  echo = plain_row (codes "saved         ");
  selected = 1;
  cursor = None;
}

-- two lines behind their numbers, in a window of 16 columns and 3 rows
abbrev pub two_numbers : PaneValues
two_numbers = record {
  rows = glyphs (codes "  1 ") (codes "a           ") ∷ glyphs (codes "  2 ") (codes "b           ") ∷ [];
  border = border_cell None;
  mode_line = [];
}

abbrev pub numbered_lines : FrameValues
numbered_lines = record {
  tree = record { windows = Window 0 false 4; width = 16; height = 3; made = 1 };
  panes = λ window. two_numbers;
  echo = plain_row (codes "                ");
  selected = 0;
  cursor = Some (0, 0);
}

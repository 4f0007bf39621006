-- Sessions on which the definitions are worked out.
use Rattle.std.specs.Prelude.{ℕ, ◌+◌, ◌-◌, true, false, Option, None, Some, Result, Ok, Err, List, [], ◌∷◌, ◌++◌, length, slice_get, codes}
use Rattle.std.specs.FinMap as map
use Rattle.rd_base.specs.Faces.{plain}
use Rattle.rd_base.specs.Glyphs.{blanks}
use Rattle.rd_base.specs.Settings as settings
use Rattle.rd_base.specs.declared.cell.Cell.{Cell}
use Rattle.rd_blocks.specs.Examples.{files}
use Rattle.rd_matrix.specs.declared.matrix.Entry.{Entry}
use Rattle.rd_props.specs.Buffers.{no_values}
use Rattle.rd_props.specs.Examples.{whole_text}
use Rattle.rd_reuse.specs.Changes.{edit}
use Rattle.rd_rows.specs.Examples.{text, twelve_truncated}
use Rattle.rd_script.specs.declared.op.Op.{Op}
use Rattle.rd_script.specs.declared.op.Op.TheVariants.{Frame, Insert, Split, ModeLine, Redisplay, Margin}
use Rattle.rd_start.specs.Examples.{items_from}
use Rattle.rd_state.specs.Examples.{all_by, then_by}
use Rattle.rd_state.specs.States.{ContentValue, StateValue, main_name, opening, values_on}
use Rattle.rd_state.specs.Windows.{selected_window}
use Rattle.rd_state.specs.declared.refused.Refused.{Refused}
use Rattle.rd_tree.specs.Calls as tree
use Rattle.rd_tree.specs.declared.side.Side.TheVariants.{Right}
use Rattle.rd_window.specs.declared.layout.Layout.{Layout}
use Rattle.rd_layout.specs.Copies.{redisplayed}
use Rattle.rd_layout.specs.Facts.{cursor_since}
use Rattle.rd_layout.specs.Redisplays.{update_of}
use Rattle.rd_layout.specs.Screens.{laid_out}
use Rattle.rd_layout.specs.Sessions.{SessionValue, behind, layout_of, opened, session_step}

-- the session in which an op led to a state, where it was not refused
abbrev pub led : SessionValue → Op → Result StateValue Refused → Result SessionValue Refused
led v op (Err refusal) = Err refusal
led v op (Ok state) = Ok (behind v op state)

abbrev pub taken : SessionValue → Op → Result SessionValue Refused
taken v (Redisplay stop) = Ok (redisplayed v stop)
taken v op = led v op (session_step v op)

abbrev pub then_done : Result SessionValue Refused → Op → Result SessionValue Refused
then_done r op = then_by taken r op

-- the session after ops and redisplays, one after the other, or the first refusal
abbrev pub after_all : Result SessionValue Refused → List Op → Result SessionValue Refused
after_all r ops = all_by taken r ops

-- the session after ops, over data files by which digits have their class, and the letters r and t are read from the right
abbrev pub after : List Op → Result SessionValue Refused
after ops = after_all (Ok (opened files)) ops

-- characters, each in a line of its own
abbrev pub each_in_a_line : List ℕ → List ℕ
each_in_a_line [] = []
each_in_a_line (c ∷ []) = c ∷ []
each_in_a_line (c ∷ d ∷ cs) = c ∷ 10 ∷ each_in_a_line (d ∷ cs)

-- the bytes of the next redisplay, which stops after so many rows, where a number is given
abbrev pub bytes_of : Option ℕ → SessionValue → List ℕ
bytes_of stop v = (update_of v stop).bytes

-- point of the selected window, and where the item that covers it begins in the rows of its last layout
abbrev pub point_and_cursor : SessionValue → ℕ × Option (ℕ × ℕ)
point_and_cursor v =
    let point = (selected_window v.state).point in
    (point, cursor_since (layout_of v.state.selected v.layouts) point)

-- a row of the target screen
abbrev pub row_of : ℕ → SessionValue → Option (List Cell)
row_of row v = slice_get (laid_out v.files v.state).picture.rows row

-- ---- cells of a frame

-- two windows side by side on two letters, each with four columns of line numbers and a mode line, the left one with a border
abbrev pub side_by_side : List Op
side_by_side = Frame 36 5 ∷ Insert main_name 1 (codes "ab") ∷ ModeLine 0 (Some (codes "%b")) ∷ Margin 0 4 0 ∷ Split 0 Right 18 ∷ []

-- ---- a paragraph that turns

-- a session of which the screen is not asked
abbrev pub unscreened : SessionValue → SessionValue
unscreened v = record v { current = None }

-- seven lines, of which the sixth is empty, are shown, and a letter that is read from the right is put before them
abbrev pub turning : List Op
turning =
    Frame 12 8 ∷ Insert main_name 1 (each_in_a_line (codes "abcde") ++ 10 ∷ 10 ∷ codes "f") ∷ Redisplay None
    ∷ Insert main_name 1 (codes "r") ∷ []

-- what a buffer holds that has characters and nothing else, and was edited
abbrev pub edited : List ℕ → ContentValue
edited chars = record {
  text = whole_text chars;
  properties = values_on (whole_text chars) no_values;
  overlays = [];
  settings = record settings.opening { modified = true };
  marks = map.empty;
}

-- the row of a line of a few characters, from the left edge, as it was laid out
abbrev pub line_at : ℕ → List ℕ → Entry
line_at start chars = record {
  start = start;
  number = 0;
  row = record {
    shown = record {
      cells = text chars ++ blanks (12 - length chars) plain;
      begins = items_from 0 (length chars + 1);
      reversed = false;
      ends_block = true;
    };
    copies = 0;
  };
}

-- the layout that shows the seven lines, since which the letter was put before them
abbrev pub seven_lines : Layout
seven_lines = record {
  matrix =
      line_at 1 (codes "a") ∷ line_at 3 (codes "b") ∷ line_at 5 (codes "c") ∷ line_at 7 (codes "d") ∷ line_at 9 (codes "e") ∷ line_at 11 []
      ∷ line_at 12 (codes "f") ∷ [];
  shape = twelve_truncated;
  height = 7;
  margin = 0;
  conservatively = 0;
  change = edit 1 0 1;
}

-- the session in which the letter stands before the lines
abbrev pub turned : SessionValue
turned = record {
  files = files;
  state = record opening {
    buffers = record { name = main_name; content = edited (codes "r" ++ each_in_a_line (codes "abcde") ++ 10 ∷ 10 ∷ codes "f") } ∷ [];
    tree = tree.opening 12 7;
    width = 12;
    height = 8;
  };
  current = None;
  layouts = (0, seven_lines) ∷ [];
}

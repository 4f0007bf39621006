-- One op: the next state, or the first refusal.
use Rattle.std.specs.Prelude.{ℕ, ◌+◌, ◌-◌, nat_lt, nat_le, ◌==◌, true, false, is_some, if◌then◌else◌, ℤ, pos, ◌+ℤ◌, neg_ℤ, Option, None, Some, Result, Ok, Err, List, [], ◌∷◌, ◌++◌, length, map, slice_get, slice_set}
use Rattle.std.specs.Int.{int_min, int_max}
use Rattle.std.specs.Result.{result_err}
use Rattle.rd_base.specs.Chars.{raw_code}
use Rattle.rd_base.specs.declared.limits.TheConstants.{BUFFERS, PENDING_ROWS}
use Rattle.rd_base.specs.declared.settings.Anchor.{Anchor}
use Rattle.rd_modeline.specs.Formats.{pieces_of}
use Rattle.rd_objects.specs.Things.{ObjectLists}
use Rattle.rd_script.specs.declared.op.Op.{Op}
use Rattle.rd_script.specs.declared.op.Op.TheVariants.{Frame, Buffer, Insert, InsertRaw, TypeText, Delete, Narrow, Widen, Put, Overlay as MakeOverlay, OverlayMove, OverlayDrop, OverlayPut, Setting as SetSetting, AddString, AddSpec, AddFace, AddTable, Split, Remove, Select, Show, Point, Start, Scroll, Hscroll, Wrap, ModeLine, Scrolling, Echo, Redisplay, Shift, Go, Hit, Margin, MarginPut}
use Rattle.rd_tree.specs.Calls.{Configuration, split_tree, remove_tree, resize_tree, mode_tree, margins_tree}
use Rattle.rd_tree.specs.Windows.{first_leaf, sibling}
use Rattle.rd_tree.specs.declared.fault.TreeFault.{TreeFault}
use Rattle.rd_tree.specs.declared.fault.TreeFault.TheVariants as tree_faults
use Rattle.rd_tree.specs.declared.side.Side.{Side}
use Rattle.rd_state.specs.declared.moves.Move.{Move}
use Rattle.rd_state.specs.declared.moves.Move.TheVariants.{Inserted, Deleted, Narrowed}
use Rattle.rd_state.specs.declared.refused.Refused.{Refused}
use Rattle.rd_state.specs.declared.refused.Refused.TheVariants.{NoBuffer, NoWindow, OutOfRange, NameTaken, TooManyBuffers, TooManyWindows, TooSmall, LastWindow, BadFormat, Memory}
use Rattle.rd_state.specs.declared.window.WindowState.{WindowState}
use Rattle.rd_state.specs.States.{BufferValue, ContentValue, StateValue, new_buffer, number_of}
use Rattle.rd_state.specs.Windows.{window_of, changed_under, removed_under}
use Rattle.rd_state.specs.Making.{string_making, spec_making, face_making, table_making, table_of}
use Rattle.rd_state.specs.Edits.{is_accessible, insertion, deletion, narrowing, widening, property_putting, overlay_making, overlay_moving, overlay_dropping, overlay_putting, margin_putting, setting_putting}
use Rattle.rd_state.specs.Moves.{moved_in}

-- ---- what an op speaks of

-- what is done with what was found, and a refusal where nothing was
abbrev pub with_found : {A B : Type 0} → Refused → Option A → (A → Result B Refused) → Result B Refused
with_found refusal None f = Err refusal
with_found refusal (Some a) f = f a

-- what is done to the buffer with a name and to its number
abbrev pub in_buffer : StateValue → List ℕ → (ℕ → BufferValue → Result StateValue Refused) → Result StateValue Refused
in_buffer s name f = with_found NoBuffer (slice_get s.buffers (number_of name s.buffers)) (f (number_of name s.buffers))

-- what is done to the window with a number
abbrev pub in_window : StateValue → ℕ → (WindowState → Result StateValue Refused) → Result StateValue Refused
in_window s window f = with_found NoWindow (window_of window s.windows) f

-- what is done to the buffer that a window shows
abbrev pub in_shown : StateValue → WindowState → (BufferValue → Result StateValue Refused) → Result StateValue Refused
in_shown s w f = with_found NoBuffer (slice_get s.buffers w.buffer) f

-- ---- parts of the next state

-- a state in which a buffer holds what an edit made of it
abbrev pub content_replaced : StateValue → ℕ → BufferValue → Result ContentValue Refused → Result StateValue Refused
content_replaced s i b (Err refusal) = Err refusal
content_replaced s i b (Ok content) = Ok (record s { buffers = slice_set s.buffers i (record b { content = content }) })

-- a state in which the positions of all windows that show a buffer moved
abbrev pub moving : ℕ → Move → Result StateValue Refused → Result StateValue Refused
moving i how (Err refusal) = Err refusal
moving i how (Ok s) = Ok (record s { windows = map (moved_in i how) s.windows })

-- a state in which a window became another
abbrev pub changing : ℕ → (WindowState → WindowState) → Result StateValue Refused → Result StateValue Refused
changing number f (Err refusal) = Err refusal
changing number f (Ok s) = Ok (record s { windows = changed_under number f s.windows })

-- a state with other objects
abbrev pub with_objects : StateValue → Result ObjectLists Refused → Result StateValue Refused
with_objects s (Err refusal) = Err refusal
with_objects s (Ok objects) = Ok (record s { objects = objects })

-- what a fault of the tree is for the op
abbrev pub refused_tree : TreeFault → Refused
refused_tree tree_faults.NoWindow = NoWindow
refused_tree tree_faults.TooSmall = TooSmall
refused_tree tree_faults.TooMany = TooManyWindows
refused_tree tree_faults.LastWindow = LastWindow
refused_tree tree_faults.Memory = Memory

-- a state with another tree
abbrev pub on_tree : Result Configuration TreeFault → (Configuration → StateValue) → Result StateValue Refused
on_tree (Err fault) f = Err (refused_tree fault)
on_tree (Ok tree) f = Ok (f tree)

-- ---- buffers

-- a new buffer, at the end
abbrev pub making : StateValue → List ℕ → Result StateValue Refused
making s name = if nat_lt (number_of name s.buffers) (length s.buffers)
    then Err NameTaken
    else (if nat_le BUFFERS (length s.buffers) then Err TooManyBuffers else Ok (record s { buffers = s.buffers ++ new_buffer name ∷ [] }))

-- an edit that moves no position
abbrev pub edited : StateValue → List ℕ → (ContentValue → Result ContentValue Refused) → Result StateValue Refused
edited s name edit = in_buffer s name (λ i b. content_replaced s i b (edit b.content))

-- an edit that moves positions
abbrev pub edited_moving : StateValue → List ℕ → Move → (ContentValue → Result ContentValue Refused) → Result StateValue Refused
edited_moving s name how edit = in_buffer s name (λ i b. moving i how (content_replaced s i b (edit b.content)))

-- a text put in before a position
abbrev pub inserting : StateValue → List ℕ → ℕ → List ℕ → Result StateValue Refused
inserting s name place new = edited_moving s name (Inserted place (length new)) (insertion place new)

-- the characters of raw bytes
abbrev pub raw_text : List ℕ → List ℕ
raw_text bytes = map raw_code bytes

-- a text put in at the point of a window, which is the selected one; its point then stands behind the text
abbrev pub typed : StateValue → List ℕ → WindowState → Result StateValue Refused
typed s new w = in_shown s w (λ b.
    changing s.selected (λ old. record old { point = w.point + length new })
    (moving w.buffer (Inserted w.point (length new)) (content_replaced s w.buffer b (insertion w.point new b.content))))

-- a text put in at the selected window's point
abbrev pub typing : StateValue → List ℕ → Result StateValue Refused
typing s new = in_window s s.selected (typed s new)

-- ---- windows

-- a window in two, of which the new one has all of the old one but what waits to be scrolled
abbrev pub splitting : StateValue → ℕ → Side → ℕ → Result StateValue Refused
splitting s window side size = in_window s window (λ w.
    on_tree (split_tree s.tree window side size)
    (λ tree. record s { tree = tree; windows = s.windows ++ (s.tree.made, record w { forced = false; pending = pos 0 }) ∷ [] }))

-- a state without a window, and with another tree; where the window was the selected one, the first window of its sibling is selected
abbrev pub without_window : ℕ → StateValue → Configuration → StateValue
without_window window s tree = record s {
  tree = tree;
  windows = removed_under window s.windows;
  selected = if s.selected == window then first_leaf (sibling window s.tree.windows) else s.selected;
}

-- a window taken away
abbrev pub removing : StateValue → ℕ → Result StateValue Refused
removing s window = in_window s window (λ w. on_tree (remove_tree s.tree window) (without_window window s))

-- a buffer shown from its accessible beginning
abbrev pub showing : StateValue → ℕ → List ℕ → Result StateValue Refused
showing s window name = in_window s window (λ w. in_buffer s name (λ i b.
    let begin = b.content.text.begin in
    changing window (λ old. record old { buffer = i; point = begin; anchor = record { pos = begin; row = 0 }; forced = false; pending = pos 0 }) (Ok s)))

-- a window that becomes another where a position is accessible in the buffer that it shows
abbrev pub placing : StateValue → ℕ → ℕ → (WindowState → WindowState) → Result StateValue Refused
placing s window place f = in_window s window (λ w. in_shown s w (λ b.
    if is_accessible b.content.text place then changing window f (Ok s) else Err OutOfRange))

-- a window that becomes another, where it lives
abbrev pub setting : StateValue → ℕ → (WindowState → WindowState) → Result StateValue Refused
setting s window f = in_window s window (λ w. changing window f (Ok s))

-- the pending rows: at most 1,000,000,000 up or down
abbrev pub held : ℤ → ℤ
held rows = int_max (neg_ℤ (pos PENDING_ROWS)) (int_min (pos PENDING_ROWS) rows)

-- the place of the first percent sign in a format that begins no code
abbrev pub format_fault : Option (List ℕ) → Option ℕ
format_fault None = None
format_fault (Some format) = result_err (pieces_of format)

abbrev pub unless_bad : Option ℕ → Result StateValue Refused → Result StateValue Refused
unless_bad None done = done
unless_bad (Some column) done = Err (BadFormat column)

-- a window with another format of its mode line, or without a mode line
abbrev pub mode_lining : StateValue → ℕ → Option (List ℕ) → Result StateValue Refused
mode_lining s window format = in_window s window (λ w.
    unless_bad (format_fault format)
    (changing window (λ old. record old { format = format }) (on_tree (mode_tree s.tree window (is_some format)) (λ tree. record s { tree = tree }))))

-- a window with other margins
abbrev pub margining : StateValue → ℕ → ℕ → ℕ → Result StateValue Refused
margining s window numbers strings = in_window s window (λ w.
    changing window (λ old. record old { numbers = numbers; strings = strings })
    (on_tree (margins_tree s.tree window (numbers + strings)) (λ tree. record s { tree = tree })))

-- ---- all ops

-- The next state, or the first refusal of the op's row. The ops that show the frame and those that read what was shown leave the state
-- as it is: they have calls of their own.
unfoldable pub step : StateValue → Op → Result StateValue Refused
step s (Frame width height) = on_tree (resize_tree s.tree width (height - 1)) (λ tree. record s { tree = tree; width = width; height = height })
step s (Buffer name) = making s name
step s (Insert name place text) = inserting s name place text
step s (InsertRaw name place bytes) = inserting s name place (raw_text bytes)
step s (TypeText text) = typing s text
step s (Delete name from to) = edited_moving s name (Deleted from to) (deletion from to)
step s (Narrow name from to) = edited_moving s name (Narrowed from to) (narrowing from to)
step s (Widen name) = edited s name widening
step s (Put name from to kind value) = edited s name (property_putting s.objects from to kind value)
step s (MakeOverlay name from to priority front rear) = edited s name (overlay_making from to priority front rear)
step s (OverlayMove name overlay from to) = edited s name (overlay_moving overlay from to)
step s (OverlayDrop name overlay) = edited s name (overlay_dropping overlay)
step s (OverlayPut name overlay kind value) = edited s name (overlay_putting s.objects overlay kind value)
step s (SetSetting name value) = edited s name (setting_putting s.objects value)
step s (AddString text runs) = with_objects s (string_making s.objects text runs)
step s (AddSpec spec) = with_objects s (spec_making s.objects spec)
step s (AddFace face) = with_objects s (face_making s.objects face)
step s (AddTable entries truncation continuation escape control ellipsis border) =
    with_objects s (table_making s.objects (table_of entries truncation continuation escape control ellipsis border))
step s (Split window side size) = splitting s window side size
step s (Remove window) = removing s window
step s (Select window) = in_window s window (λ w. Ok (record s { selected = window }))
step s (Show window name) = showing s window name
step s (Point window place) = placing s window place (λ old. record old { point = place })
step s (Start window place row) =
    placing s window place (λ old. record old { anchor = record { pos = place; row = row }; forced = true; pending = pos 0 })
step s (Scroll window rows) = setting s window (λ old. record old { forced = true; pending = held (old.pending +ℤ rows) })
step s (Hscroll window columns) = setting s window (λ old. record old { hscroll = columns })
step s (Wrap window mode) = setting s window (λ old. record old { wrap = mode })
step s (ModeLine window format) = mode_lining s window format
step s (Scrolling margin conservatively) = Ok (record s { margin = margin; conservatively = conservatively })
step s (Echo text) = Ok (record s { echo = text })
step s (Redisplay stop) = Ok s
step s (Shift on) = Ok (record s { shifting = on })
step s (Go window right) = Ok s
step s (Hit window row column) = Ok s
step s (Margin window numbers strings) = margining s window numbers strings
step s (MarginPut name overlay string) = edited s name (margin_putting s.objects overlay string)

-- a window with a start and a point that were chosen for it: its start is not set by command any more, and no rows wait
abbrev pub settled_window : Anchor → ℕ → WindowState → WindowState
settled_window anchor point w = record w { anchor = anchor; point = point; forced = false; pending = pos 0 }

-- a window's view and its point as a layout settles them
abbrev pub settled : StateValue → ℕ → Anchor → ℕ → StateValue
settled s window anchor point = record s { windows = changed_under window (settled_window anchor point) s.windows }

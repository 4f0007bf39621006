-- The op that each call asks for, or how it ends before one is applied: first by its own arguments, then because no buffer has the number.
use Rattle.std.specs.Prelude.{ℕ, ℤ, pos, ◌&&◌, nat_le, nat_lt, Bool, true, false, if◌then◌else◌, List, [], Option, None, Some, Result, Ok, Err, option_map, slice_get}
use Rattle.std.specs.Str.{chars, is_utf8}
use Rattle.rd_base.specs.declared.limits.TheConstants.{FRAME_COLUMNS, FRAME_ROWS, HSCROLL_COLUMNS, LEAST_FRAME_COLUMNS, LEAST_FRAME_ROWS, NUMBER_COLUMNS, PRIORITY, SCROLL_CONSERVATIVELY, SCROLL_MARGIN, SCROLL_ROWS, START_ROW, STRING_COLUMNS}
use Rattle.rd_script.specs.Forms.{is_buffer_name, is_plain_text}
use Rattle.rd_script.specs.Numbers.{is_near_zero}
use Rattle.rd_script.specs.declared.op.Op.{Op}
use Rattle.rd_script.specs.declared.op.Op.TheVariants as ops
use Rattle.rd_state.specs.States.{BufferValue}
use Rattle.rd_state.specs.declared.refused.Refused.TheVariants.{NoBuffer}
use Rattle.rd_embed.specs.Choices.{face_of, given, is_value, overlay_kind_of, right_of, setting_of, side_of, text_kind_of, wrap_of}
use Rattle.rd_embed.specs.declared.ending.Ending.{Ending}
use Rattle.rd_embed.specs.declared.ending.Ending.TheVariants.{BadArgument, BadText, Refused}
use Rattle.rd_embed.specs.declared.faces.FaceLook.{FaceLook}

-- ---- what arguments stand for

abbrev pub ranged : Bool → Result Op Ending → Result Op Ending
ranged in_range asked = if in_range then asked else Err BadArgument

-- what is asked for by what a number stands for
abbrev pub chosen : {A : Type 0} → Option A → (A → Result Op Ending) → Result Op Ending
chosen None asked = Err BadArgument
chosen (Some x) asked = asked x

-- what is asked for by the characters that bytes in UTF-8 spell
abbrev pub spelt : List ℕ → (List ℕ → Result Op Ending) → Result Op Ending
spelt bytes asked = if is_utf8 bytes then asked (chars bytes) else Err BadText

-- the name of the buffer with a number
abbrev pub name_of : ℕ → List BufferValue → Option (List ℕ)
name_of number buffers = option_map (λ b. b.name) (slice_get buffers number)

-- what is asked for by the name of a buffer
abbrev pub named : Option (List ℕ) → (List ℕ → Op) → Result Op Ending
named None op = Err (Refused NoBuffer)
named (Some name) op = Ok (op name)

-- ---- ranges of arguments

abbrev pub is_frame : ℕ → ℕ → Bool
is_frame width height = (nat_le LEAST_FRAME_COLUMNS width && nat_le width FRAME_COLUMNS) && (nat_le LEAST_FRAME_ROWS height && nat_le height FRAME_ROWS)

abbrev pub is_place : ℕ → ℕ → Bool
is_place row column = nat_lt row FRAME_ROWS && nat_lt column FRAME_COLUMNS

abbrev pub are_margins : ℕ → ℕ → Bool
are_margins numbers strings = nat_le numbers NUMBER_COLUMNS && nat_le strings STRING_COLUMNS

abbrev pub is_scrolling : ℕ → ℕ → Bool
is_scrolling margin conservatively = nat_le margin SCROLL_MARGIN && nat_le conservatively SCROLL_CONSERVATIVELY

-- ---- the frame and buffers

abbrev pub asked_frame : ℕ → ℕ → Result Op Ending
asked_frame width height = ranged (is_frame width height) (Ok (ops.Frame width height))

abbrev pub asked_buffer : List ℕ → Result Op Ending
asked_buffer name = if is_utf8 name then ranged (is_buffer_name name) (Ok (ops.Buffer name)) else Err BadText

-- ---- texts; the first argument is the session's buffers

abbrev pub asked_insert : List BufferValue → ℕ → ℕ → List ℕ → Result Op Ending
asked_insert buffers buffer position bytes = spelt bytes (λ text. named (name_of buffer buffers) (λ name. ops.Insert name position text))

abbrev pub asked_type : List ℕ → Result Op Ending
asked_type bytes = spelt bytes (λ text. Ok (ops.TypeText text))

abbrev pub asked_delete : List BufferValue → ℕ → ℕ → ℕ → Result Op Ending
asked_delete buffers buffer from to = named (name_of buffer buffers) (λ name. ops.Delete name from to)

abbrev pub asked_narrow : List BufferValue → ℕ → ℕ → ℕ → Result Op Ending
asked_narrow buffers buffer from to = named (name_of buffer buffers) (λ name. ops.Narrow name from to)

abbrev pub asked_widen : List BufferValue → ℕ → Result Op Ending
asked_widen buffers buffer = named (name_of buffer buffers) (λ name. ops.Widen name)

abbrev pub asked_setting : List BufferValue → ℕ → ℕ → ℕ → Result Op Ending
asked_setting buffers buffer setting value =
    chosen (setting_of setting value) (λ said. named (name_of buffer buffers) (λ name. ops.Setting name said))

-- ---- properties and overlays

abbrev pub asked_put : List BufferValue → ℕ → ℕ → ℕ → ℕ → ℕ → Result Op Ending
asked_put buffers buffer from to kind value =
    chosen (text_kind_of kind) (λ said. ranged (is_value said (given value)) (named (name_of buffer buffers) (λ name. ops.Put name from to said (given value))))

abbrev pub asked_overlay : List BufferValue → ℕ → ℕ → ℕ → ℤ → Bool → Bool → Result Op Ending
asked_overlay buffers buffer from to priority front rear =
    ranged (is_near_zero PRIORITY priority) (named (name_of buffer buffers) (λ name. ops.Overlay name from to priority front rear))

abbrev pub asked_overlay_move : List BufferValue → ℕ → ℕ → ℕ → ℕ → Result Op Ending
asked_overlay_move buffers buffer overlay from to = named (name_of buffer buffers) (λ name. ops.OverlayMove name overlay from to)

abbrev pub asked_overlay_put : List BufferValue → ℕ → ℕ → ℕ → ℕ → Result Op Ending
asked_overlay_put buffers buffer overlay kind value =
    chosen (overlay_kind_of kind) (λ said. ranged (is_value said (given value)) (named (name_of buffer buffers) (λ name. ops.OverlayPut name overlay said (given value))))

abbrev pub asked_overlay_drop : List BufferValue → ℕ → ℕ → Result Op Ending
asked_overlay_drop buffers buffer overlay = named (name_of buffer buffers) (λ name. ops.OverlayDrop name overlay)

-- ---- objects

abbrev pub asked_face : FaceLook → Result Op Ending
asked_face look = chosen (face_of look) (λ face. Ok (ops.AddFace face))

abbrev pub asked_string : List ℕ → Result Op Ending
asked_string bytes = spelt bytes (λ text. Ok (ops.AddString text []))

-- ---- windows

abbrev pub asked_split : ℕ → ℕ → ℕ → Result Op Ending
asked_split window side size = chosen (side_of side) (λ said. Ok (ops.Split window said size))

abbrev pub asked_remove : ℕ → Result Op Ending
asked_remove window = Ok (ops.Remove window)

abbrev pub asked_select : ℕ → Result Op Ending
asked_select window = Ok (ops.Select window)

abbrev pub asked_show : List BufferValue → ℕ → ℕ → Result Op Ending
asked_show buffers window buffer = named (name_of buffer buffers) (λ name. ops.Show window name)

abbrev pub asked_point : ℕ → ℕ → Result Op Ending
asked_point window position = Ok (ops.Point window position)

abbrev pub asked_start : ℕ → ℕ → ℕ → Result Op Ending
asked_start window position row = ranged (nat_le row START_ROW) (Ok (ops.Start window position row))

abbrev pub asked_scroll : ℕ → ℤ → Result Op Ending
asked_scroll window rows = ranged (is_near_zero (pos SCROLL_ROWS) rows) (Ok (ops.Scroll window rows))

abbrev pub asked_hscroll : ℕ → ℕ → Result Op Ending
asked_hscroll window columns = ranged (nat_le columns HSCROLL_COLUMNS) (Ok (ops.Hscroll window columns))

abbrev pub asked_wrap : ℕ → ℕ → Result Op Ending
asked_wrap window mode = chosen (wrap_of mode) (λ said. Ok (ops.Wrap window said))

abbrev pub asked_mode_line : ℕ → List ℕ → Result Op Ending
asked_mode_line window format = spelt format (λ text. ranged (is_plain_text text) (Ok (ops.ModeLine window (Some text))))

abbrev pub asked_no_mode_line : ℕ → Result Op Ending
asked_no_mode_line window = Ok (ops.ModeLine window None)

abbrev pub asked_margin : ℕ → ℕ → ℕ → Result Op Ending
asked_margin window numbers strings = ranged (are_margins numbers strings) (Ok (ops.Margin window numbers strings))

abbrev pub asked_scrolling : ℕ → ℕ → Result Op Ending
asked_scrolling margin conservatively = ranged (is_scrolling margin conservatively) (Ok (ops.Scrolling margin conservatively))

abbrev pub asked_echo : List ℕ → Result Op Ending
asked_echo bytes = spelt bytes (λ text. ranged (is_plain_text text) (Ok (ops.Echo text)))

abbrev pub asked_shift : Bool → Result Op Ending
asked_shift on = Ok (ops.Shift on)

abbrev pub asked_go : ℕ → ℕ → Result Op Ending
asked_go window side = chosen (right_of side) (λ right. Ok (ops.Go window right))

abbrev pub asked_hit : ℕ → ℕ → ℕ → Result Op Ending
asked_hit window row column = ranged (is_place row column) (Ok (ops.Hit window row column))

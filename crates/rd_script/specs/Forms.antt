-- What is in form: the characters of names and texts, the ranges of numbers.
use Rattle.std.specs.Prelude.{ℕ, ◌≤◌, ◌<◌, ◌&&◌, ◌==◌, not, Bool, nat_le, IsTrue, All, List, length, true, false, pos, Option, None, Some}
use Rattle.std.specs.List.{list_all}
use Rattle.std.specs.Str.{chars}
use Rattle.rd_base.specs.Chars.{is_scalar}
use Rattle.rd_base.specs.declared.limits.TheConstants.{ATOMS, CODE_POINTS, COLOURS, ENTRY_GLYPHS, FRAME_COLUMNS, FRAME_ROWS, HSCROLL_COLUMNS, INVISIBLE_ATOMS, LEAST_FRAME_COLUMNS, LEAST_FRAME_ROWS, NAME_CHARACTERS, NUMBER_COLUMNS, PLAIN_CHARACTERS, PRIORITY, SCROLL_CONSERVATIVELY, SCROLL_MARGIN, SCROLL_ROWS, SPACE_COLUMNS, START_ROW, STRING_COLUMNS, STRING_RUNS, TAB_COLUMNS, TABLE_ENTRIES}
use Rattle.rd_base.specs.declared.settings.Invisible.{Invisible}
use Rattle.rd_base.specs.declared.settings.Invisible.TheVariants.{Every, Listed}
use Rattle.rd_objects.specs.Tables.{has_no_glyph, is_control}
use Rattle.rd_objects.specs.Widths.{columns}
use Rattle.rd_overlays.specs.declared.overlay.Kind.{Kind}
use Rattle.rd_overlays.specs.declared.overlay.Kind.TheVariants as kinds
use Rattle.rd_script.specs.Numbers.{is_near_zero}
use Rattle.rd_script.specs.declared.object.OpEntry.{OpEntry}
use Rattle.rd_script.specs.declared.object.OpRun.{OpRun}
use Rattle.rd_script.specs.declared.object.OpSpec.{OpSpec}
use Rattle.rd_script.specs.declared.object.OpSpec.TheVariants as specs
use Rattle.rd_script.specs.declared.op.Op.{Op}
use Rattle.rd_script.specs.declared.op.Op.TheVariants.{Frame, Buffer, Insert, InsertRaw, TypeText, Delete, Narrow, Widen, Put, Overlay, OverlayMove, OverlayDrop, OverlayPut, Setting as SetSetting, AddString, AddSpec, AddFace, AddTable, Split, Remove, Select, Show, Point, Start, Scroll, Hscroll, Wrap, ModeLine, Scrolling, Echo, Redisplay, Shift, Go, Hit, Margin, MarginPut}
use Rattle.rd_script.specs.declared.setting.Setting.{Setting}
use Rattle.rd_script.specs.declared.setting.Setting.TheVariants as settings

-- a character that a buffer's name may have: a scalar value that is no control
abbrev pub is_name_character : ℕ → Bool
is_name_character c = is_scalar c && not (is_control c)

-- how many characters a buffer's name may have
abbrev pub is_name_length : ℕ → Bool
is_name_length n = nat_le 1 n && nat_le n NAME_CHARACTERS

-- the bytes of a buffer's name in UTF-8: they spell characters that such a name may have, and as many as it may have
abbrev pub is_buffer_name : List ℕ → Bool
is_buffer_name name = is_name_length (length (chars name)) && list_all is_name_character (chars name)

-- a text of scalar values
abbrev pub is_text : List ℕ → Bool
is_text text = list_all is_scalar text

-- a whole number of 64 bits, as positions and the numbers of windows are
abbrev pub IsWhole : ℕ → Type 0
IsWhole n = n ≤ 18446744073709551615

-- a byte that is no ASCII character
abbrev pub IsRawByte : ℕ → Type 0
IsRawByte b = (128 ≤ b) × (b ≤ 255)

-- a text that a mode line or the echo area can show
abbrev pub is_plain_text : List ℕ → Bool
is_plain_text text = is_text text && nat_le (length text) PLAIN_CHARACTERS

abbrev pub IsFormat : Option (List ℕ) → Type 0
IsFormat None = Unit {0}
IsFormat (Some text) = IsTrue (is_plain_text text)

abbrev pub IsStop : Option ℕ → Type 0
IsStop None = Unit {0}
IsStop (Some n) = n ≤ FRAME_ROWS

-- whether a code is that of a glyph character: a scalar value that is no control and has columns
abbrev pub is_glyph : ℕ → Bool
is_glyph c = is_scalar c && not (has_no_glyph c)

-- whether a text has glyph characters alone, and no more than an entry of a display table may show
abbrev pub is_glyph_text : List ℕ → Bool
is_glyph_text text = nat_le (length text) ENTRY_GLYPHS && list_all is_glyph text

-- whether a character is a glyph character of one column, which a slot of a display table may show
abbrev pub is_slot : ℕ → Bool
is_slot c = is_glyph c && (columns c == 1)

abbrev pub IsNumber : Option ℕ → Type 0
IsNumber None = Unit {0}
IsNumber (Some n) = IsWhole n

-- the kinds of properties that text has; overlays have strings before and after them too
abbrev pub is_text_kind : Kind → Bool
is_text_kind kinds.Before = false
is_text_kind kinds.After = false
is_text_kind kind = true

-- the value of a property: an atom, or the number of a face, of a display spec or of a string
abbrev pub IsPropertyValue : Kind → Option ℕ → Type 0
IsPropertyValue kind None = Unit {0}
IsPropertyValue kinds.Invisible (Some atom) = atom ≤ ATOMS
IsPropertyValue kind (Some number) = IsWhole number

abbrev pub IsInvisible : Invisible → Type 0
IsInvisible Every = Unit {0}
IsInvisible (Listed pairs) = (length pairs ≤ INVISIBLE_ATOMS) × All (λ pair. pair.0 ≤ ATOMS) pairs

abbrev pub IsSettingInForm : Setting → Type 0
IsSettingInForm (settings.TabWidth n) = (1 ≤ n) × (n ≤ TAB_COLUMNS)
IsSettingInForm (settings.CtlArrow flag) = Unit {0}
IsSettingInForm (settings.Direction direction) = Unit {0}
IsSettingInForm (settings.Reorder flag) = Unit {0}
IsSettingInForm (settings.Table number) = IsNumber number
IsSettingInForm (settings.Invisible invisible) = IsInvisible invisible
IsSettingInForm (settings.LinePrefix number) = IsNumber number
IsSettingInForm (settings.WrapPrefix number) = IsNumber number
IsSettingInForm (settings.Modified flag) = Unit {0}
IsSettingInForm (settings.ReadOnly flag) = Unit {0}

abbrev pub IsSpecInForm : OpSpec → Type 0
IsSpecInForm (specs.Text n) = IsWhole n
IsSpecInForm (specs.Width n) = n ≤ SPACE_COLUMNS
IsSpecInForm (specs.Align n) = n ≤ SPACE_COLUMNS

pub record IsRunInForm (run : OpRun) : Type 0 where
  pub from : IsWhole run.from
  pub to : IsWhole run.to
  pub value : IsWhole run.value

pub record IsEntryInForm (entry : OpEntry) : Type 0 where
  pub code : entry.code < CODE_POINTS
  pub text : IsTrue (is_glyph_text entry.text)

abbrev pub IsSlot : Option ℕ → Type 0
IsSlot None = Unit {0}
IsSlot (Some c) = IsTrue (is_slot c)

abbrev pub IsEllipsis : Option (List ℕ) → Type 0
IsEllipsis None = Unit {0}
IsEllipsis (Some text) = IsTrue (is_glyph_text text)

-- each field of an op has the range, kind, length and characters that its row asks for
abbrev pub IsInForm : Op → Type 0
IsInForm (Frame width height) = (LEAST_FRAME_COLUMNS ≤ width) × (width ≤ FRAME_COLUMNS) × (LEAST_FRAME_ROWS ≤ height) × (height ≤ FRAME_ROWS)
IsInForm (Buffer name) = IsTrue (is_buffer_name name)
IsInForm (Insert buffer place text) = IsTrue (is_buffer_name buffer) × IsWhole place × IsTrue (is_text text)
IsInForm (InsertRaw buffer place bytes) = IsTrue (is_buffer_name buffer) × IsWhole place × All IsRawByte bytes
IsInForm (TypeText text) = IsTrue (is_text text)
IsInForm (Delete buffer from to) = IsTrue (is_buffer_name buffer) × IsWhole from × IsWhole to
IsInForm (Narrow buffer from to) = IsTrue (is_buffer_name buffer) × IsWhole from × IsWhole to
IsInForm (Widen buffer) = IsTrue (is_buffer_name buffer)
IsInForm (Put buffer from to kind value) = IsTrue (is_buffer_name buffer) × IsWhole from × IsWhole to × IsTrue (is_text_kind kind) × IsPropertyValue kind value
IsInForm (Overlay buffer from to priority front rear) = IsTrue (is_buffer_name buffer) × IsWhole from × IsWhole to × IsTrue (is_near_zero PRIORITY priority)
IsInForm (OverlayMove buffer overlay from to) = IsTrue (is_buffer_name buffer) × IsWhole overlay × IsWhole from × IsWhole to
IsInForm (OverlayDrop buffer overlay) = IsTrue (is_buffer_name buffer) × IsWhole overlay
IsInForm (OverlayPut buffer overlay kind value) = IsTrue (is_buffer_name buffer) × IsWhole overlay × IsPropertyValue kind value
IsInForm (SetSetting buffer setting) = IsTrue (is_buffer_name buffer) × IsSettingInForm setting
IsInForm (AddString text runs) = IsTrue (is_text text) × (length runs ≤ STRING_RUNS) × All IsRunInForm runs
IsInForm (AddSpec spec) = IsSpecInForm spec
IsInForm (AddFace face) = (face.fg ≤ COLOURS) × (face.bg ≤ COLOURS)
IsInForm (AddTable entries truncation continuation escape control ellipsis border) =
    (length entries ≤ TABLE_ENTRIES) × All IsEntryInForm entries × IsSlot truncation × IsSlot continuation × IsSlot escape × IsSlot control × IsEllipsis ellipsis × IsSlot border
IsInForm (Split window side size) = IsWhole window × IsWhole size
IsInForm (Remove window) = IsWhole window
IsInForm (Select window) = IsWhole window
IsInForm (Show window buffer) = IsWhole window × IsTrue (is_buffer_name buffer)
IsInForm (Point window place) = IsWhole window × IsWhole place
IsInForm (Start window place row) = IsWhole window × IsWhole place × (row ≤ START_ROW)
IsInForm (Scroll window rows) = IsWhole window × IsTrue (is_near_zero (pos SCROLL_ROWS) rows)
IsInForm (Hscroll window by) = IsWhole window × (by ≤ HSCROLL_COLUMNS)
IsInForm (Wrap window mode) = IsWhole window
IsInForm (ModeLine window format) = IsWhole window × IsFormat format
IsInForm (Scrolling margin conservatively) = (margin ≤ SCROLL_MARGIN) × (conservatively ≤ SCROLL_CONSERVATIVELY)
IsInForm (Echo text) = IsTrue (is_plain_text text)
IsInForm (Redisplay stop) = IsStop stop
IsInForm (Shift on) = Unit {0}
IsInForm (Go window right) = IsWhole window
IsInForm (Hit window row column) = IsWhole window × (row < FRAME_ROWS) × (column < FRAME_COLUMNS)
IsInForm (Margin window numbers strings) = IsWhole window × (numbers ≤ NUMBER_COLUMNS) × (strings ≤ STRING_COLUMNS)
IsInForm (MarginPut buffer overlay string) = IsTrue (is_buffer_name buffer) × IsWhole overlay × IsNumber string

-- What is true of each state that a session can reach.
use Rattle.std.specs.Prelude.{◌≡◌, ℕ, ◌+◌, ◌<◌, ◌≤◌, pos, IsTrue, IsSome, IfSome, None, Some, List, length, option_map, slice_get}
use Rattle.std.specs.FinMap.{get}
use Rattle.std.specs.Result.{result_err}
use Rattle.rd_base.specs.declared.limits.TheConstants.{BUFFERS, FRAME_COLUMNS, FRAME_ROWS, HSCROLL_COLUMNS, LEAST_FRAME_COLUMNS, LEAST_FRAME_ROWS, NUMBER_COLUMNS, OVERLAYS, PENDING_ROWS, SCROLL_CONSERVATIVELY, SCROLL_MARGIN, STRING_COLUMNS, TAB_COLUMNS}
use Rattle.rd_text.specs.Texts.{IsText, IsAccessible}
use Rattle.rd_overlays.specs.declared.overlay.Overlay.{Overlay}
use Rattle.rd_overlays.specs.Overlays.{overlay_at}
use Rattle.rd_objects.specs.Sound.{AreCodes, AreObjects, IsClosed}
use Rattle.rd_objects.specs.Things.{ObjectLists}
use Rattle.rd_props.specs.Buffers as props
use Rattle.rd_props.specs.Made.{AreMade}
use Rattle.rd_tree.specs.Calls as tree
use Rattle.rd_modeline.specs.Formats.{pieces_of}
use Rattle.rd_script.specs.Forms.{is_buffer_name, is_plain_text}
use Rattle.rd_script.specs.Numbers.{is_near_zero}
use Rattle.rd_state.specs.declared.window.WindowState.{WindowState}
use Rattle.rd_state.specs.States.{BufferValue, ContentValue, StateValue, seen}
use Rattle.rd_state.specs.Windows.{window_of, AreApart, leaf_at, leaf_of}

-- ---- buffers

-- an overlay lies in a text of so many characters
pub record IsOverlayIn (size : ℕ) (o : Overlay) : Type 0 where
  pub first : 1 ≤ o.from
  pub ordered : o.from ≤ o.to
  pub last : o.to ≤ size + 1

-- a buffer has five text properties and few overlays, and their values and the overlays lie in its text
pub record IsWithin (b : props.BufferValue) : Type 0 where
  pub kinds : (kind p value : ℕ) → b.properties kind p ≡ Some value → kind < 5
  pub first : (kind p value : ℕ) → b.properties kind p ≡ Some value → 1 ≤ p
  pub last : (kind p value : ℕ) → b.properties kind p ≡ Some value → p ≤ length b.text.text
  pub few : length b.overlays ≤ OVERLAYS
  pub overlays : (number : ℕ) (o : Overlay) → overlay_at b.overlays number ≡ Some o → IsOverlayIn (length b.text.text) o

-- a buffer of characters, with its accessible range, properties and overlays in its text, whose tab stops have 1 to 32 columns; each
-- object that it names was made
pub record IsContent (objects : ObjectLists) (c : ContentValue) : Type 0 where
  pub text : IsText c.text
  pub characters : AreCodes c.text.text
  pub within : IsWithin (seen c)
  pub least_tab : 1 ≤ c.settings.tab_width
  pub most_tab : c.settings.tab_width ≤ TAB_COLUMNS
  pub names : AreMade (seen c) objects
  pub marks : (overlay string : ℕ) → get c.marks overlay ≡ Some string → string < length objects.strings

-- no two buffers have one name
abbrev pub AreToldByName : List BufferValue → Type 0
AreToldByName buffers = (j k : ℕ) (a b : BufferValue) → slice_get buffers j ≡ Some a → slice_get buffers k ≡ Some b → a.name ≡ b.name → j ≡ k

-- at most 64 buffers, each with a name that a buffer may have and no other one has, and with sound contents
pub record AreBuffers (objects : ObjectLists) (buffers : List BufferValue) : Type 0 where
  pub few : length buffers ≤ BUFFERS
  pub told : AreToldByName buffers
  pub names : (k : ℕ) (b : BufferValue) → slice_get buffers k ≡ Some b → IsTrue (is_buffer_name b.name)
  pub contents : (k : ℕ) (b : BufferValue) → slice_get buffers k ≡ Some b → IsContent objects b.content

-- ---- windows

-- a format of a mode line that is good
pub record IsGoodFormat (format : List ℕ) : Type 0 where
  pub plain : IsTrue (is_plain_text format)
  pub good : result_err (pieces_of format) ≡ None

-- a window shows a buffer that was made, its point and the beginning of its view are accessible there, and its numbers are in range
pub record IsWindow (buffers : List BufferValue) (w : WindowState) : Type 0 where
  pub made : w.buffer < length buffers
  pub point : (b : BufferValue) → slice_get buffers w.buffer ≡ Some b → IsAccessible b.content.text w.point
  pub anchor : (b : BufferValue) → slice_get buffers w.buffer ≡ Some b → IsAccessible b.content.text w.anchor.pos
  pub pending : IsTrue (is_near_zero (pos PENDING_ROWS) w.pending)
  pub hscroll : w.hscroll ≤ HSCROLL_COLUMNS
  pub format : IfSome w.format IsGoodFormat
  pub numbers : w.numbers ≤ NUMBER_COLUMNS
  pub strings : w.strings ≤ STRING_COLUMNS

-- the windows are the leaves of the tree, with their mode lines and margins, and one of them is selected
pub record AreWindows (buffers : List BufferValue) (c : tree.Configuration) (windows : List (ℕ × WindowState)) (number : ℕ) : Type 0 where
  pub tree : tree.IsValid c
  pub leaves : (n : ℕ) → leaf_at n c.windows ≡ option_map leaf_of (window_of n windows)
  pub apart : AreApart windows
  pub each : (k : ℕ) (e : ℕ × WindowState) → slice_get windows k ≡ Some e → IsWindow buffers e.1
  pub selected : IsSome (window_of number windows)

-- ---- the state

-- a frame of 12 to 400 columns and 2 to 200 rows, of which the tree shares all but the last
pub record IsFrame (c : tree.Configuration) (width height : ℕ) : Type 0 where
  pub wide : LEAST_FRAME_COLUMNS ≤ width
  pub narrow : width ≤ FRAME_COLUMNS
  pub high : LEAST_FRAME_ROWS ≤ height
  pub low : height ≤ FRAME_ROWS
  pub columns : c.width ≡ width
  pub rows : c.height + 1 ≡ height

pub record IsValid (s : StateValue) : Type 0 where
  pub buffers : AreBuffers s.objects s.buffers
  pub objects : AreObjects s.objects
  pub closed : IsClosed s.objects
  pub windows : AreWindows s.buffers s.tree s.windows s.selected
  pub frame : IsFrame s.tree s.width s.height
  pub margin : s.margin ≤ SCROLL_MARGIN
  pub conservatively : s.conservatively ≤ SCROLL_CONSERVATIVELY
  pub echo : IsTrue (is_plain_text s.echo)

-- A state, as contracts see it: the buffers in order of making, the objects, the windows, and what belongs to the whole frame.
use Rattle.std.specs.Prelude.{ℕ, zero, suc, Bool, false, pos, get_or, Option, None, List, [], ◌∷◌, length, map, codes, String, string_bytes}
use Rattle.std.specs.Coded.{Coded, coded_ℕ}
use Rattle.std.specs.FinMap as map
use Rattle.std.specs.List.{position_or_len, range_with_len}
use Rattle.std.specs.Str.{bytes_eq}
use Rattle.std.specs.declared.alloc.Global.{Global}
use Rattle.rd_base.specs.Settings as settings
use Rattle.rd_base.specs.declared.settings.Wrap.TheVariants.{Truncate}
use Rattle.rd_text.specs.Texts.{TextValue, no_text}
use Rattle.rd_overlays.specs.declared.overlay.Overlay.{Overlay}
use Rattle.rd_objects.specs.Things.{ObjectLists, nothing_made}
use Rattle.rd_props.specs.Buffers as props
use Rattle.rd_tree.specs.Calls as tree
use Rattle.rd_margins.specs.Marks.{MarkValues}
use Rattle.rd_state.specs.declared.window.WindowState.{WindowState}

-- ---- the values of text properties as lists

-- the values of the five text properties at the positions of a text of so many characters
abbrev pub table : ℕ → (ℕ → ℕ → Option ℕ) → List (List (Option ℕ))
table size values = map (λ kind. map (values kind) (range_with_len 1 size)) (0 ∷ 1 ∷ 2 ∷ 3 ∷ 4 ∷ [])

-- the values of the five text properties at the positions of a text
abbrev pub values_on : TextValue → (ℕ → ℕ → Option ℕ) → List (List (Option ℕ))
values_on text values = table (length text.text) values

-- the value of a kind at a position; no other position than those of the text has one
abbrev pub value_in : List (List (Option ℕ)) → ℕ → ℕ → Option ℕ
value_in properties kind zero = None
value_in properties kind (suc i) = get_or (get_or properties kind []) i None

-- ---- buffers

-- what a buffer holds: its text with the accessible range; the values of its text properties, for each kind by its place a value or
-- none for each character; its overlays by number; its settings; and the margin strings of its overlays
pub record ContentValue : Type 0 where
  pub text : TextValue
  pub properties : List (List (Option ℕ))
  pub overlays : List (Option Overlay)
  pub settings : settings.SettingValues
  pub marks : MarkValues

-- the code by which margin strings are compared
abbrev pub mark_code : Coded MarkValues
mark_code = map.code coded_ℕ coded_ℕ

-- a buffer under its name, as bytes in UTF-8
pub record BufferValue : Type 0 where
  pub name : List ℕ
  pub content : ContentValue

-- what is looked at of a buffer
abbrev pub seen : ContentValue → props.BufferValue
seen c = record { text = c.text; properties = value_in c.properties; overlays = c.overlays; settings = c.settings }

-- a buffer as it is made
abbrev pub new_content : ContentValue
new_content = record { text = no_text; properties = values_on no_text props.no_values; overlays = []; settings = settings.opening; marks = map.empty }

abbrev pub new_buffer : List ℕ → BufferValue
new_buffer name = record { name = name; content = new_content }

-- the buffers that a map by name holds
abbrev pub buffers_of : List (String Global × ContentValue) → List BufferValue
buffers_of entries = map (λ e. record { name = string_bytes e.0; content = e.1 }) entries

-- the number of the buffer with a name, and the count of buffers where none has it
abbrev pub number_of : List ℕ → List BufferValue → ℕ
number_of name buffers = position_or_len (λ b. bytes_eq name b.name) buffers

-- ---- the state

-- The buffers count from 0 in order of making, and the objects from 0 in each sort. The tree says how the windows share the frame's
-- rows but the last, and each window that lives stands under its number beside it, in order of making.
pub record StateValue : Type 0 where
  pub buffers : List BufferValue
  pub objects : ObjectLists
  pub tree : tree.Configuration
  pub windows : List (ℕ × WindowState)
  pub selected : ℕ
  pub width : ℕ
  pub height : ℕ
  pub margin : ℕ
  pub conservatively : ℕ
  pub echo : List ℕ
  pub shifting : Bool

-- the name of the first buffer
abbrev pub main_name : List ℕ
main_name = codes "main"

abbrev pub opening_window : WindowState
opening_window = record {
  buffer = 0;
  point = 1;
  anchor = record { pos = 1; row = 0 };
  forced = false;
  pending = pos 0;
  hscroll = 0;
  wrap = Truncate;
  format = None;
  numbers = 0;
  strings = 0;
}

-- the state in which a session begins: one empty buffer and no object, shown in one window of a frame of 80 columns and 24 rows
abbrev pub opening : StateValue
opening = record {
  buffers = new_buffer main_name ∷ [];
  objects = nothing_made;
  tree = tree.opening 80 23;
  windows = (0, opening_window) ∷ [];
  selected = 0;
  width = 80;
  height = 24;
  margin = 0;
  conservatively = 0;
  echo = [];
  shifting = false;
}

-- A buffer with its properties, whatever keeps them.
use Rattle.std.specs.Prelude.{ℕ, List, [], get_or, Option, None}
use Rattle.rd_base.specs.Settings.{SettingValues, opening}
use Rattle.rd_text.specs.Texts.{TextValue, no_text}
use Rattle.rd_spans.specs.Values.{value_at}
use Rattle.rd_ucd.specs.Data.{Data}
use Rattle.rd_overlays.specs.declared.overlay.Overlay.{Overlay}
use Rattle.rd_overlays.specs.declared.overlay.Kind.{Kind}
use Rattle.rd_overlays.specs.Overlays.{place_of}
use Rattle.rd_props.specs.declared.state.BufferState.{BufferState}
use Rattle.rd_props.specs.declared.state.View.{View}

-- the text with its accessible range, the values of the text properties by the place of their kind and by position, the overlays
-- by number, and the settings
pub record BufferValue : Type 0 where
  pub text : TextValue
  pub properties : ℕ → ℕ → Option ℕ
  pub overlays : List (Option Overlay)
  pub settings : SettingValues

-- what lists of values, one for each kind, give a position
abbrev pub values_of : List (List (Option ℕ)) → ℕ → ℕ → Option ℕ
values_of spans kind p = value_at (get_or spans kind []) p

-- what the parts of a buffer mean
abbrev pub meaning : BufferState → BufferValue
meaning s = record { text = s.text; properties = values_of s.spans; overlays = s.overlays; settings = s.settings }

-- the Unicode data of what is looked at
abbrev pub files_of : View → Data
files_of view = record { classes = view.classes.now; mirrors = view.mirrors.now; brackets = view.brackets.now }

-- the value of a text property at a position; overlays alone have values of the last two kinds
abbrev pub property : BufferValue → Kind → ℕ → Option ℕ
property s kind p = s.properties (place_of kind) p

-- no position has a value
abbrev pub no_values : ℕ → ℕ → Option ℕ
no_values kind p = None

-- a buffer as it is made
abbrev pub new_buffer : BufferValue
new_buffer = record { text = no_text; properties = no_values; overlays = []; settings = opening }

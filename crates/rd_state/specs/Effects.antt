-- What an accepted op can have changed of what is shown.
use Rattle.std.specs.Prelude.{ℕ, ◌-◌, Option, None, Some, List, length, option_and_then, slice_get}
use Rattle.rd_overlays.specs.declared.overlay.Overlay.{Overlay}
use Rattle.rd_overlays.specs.Overlays.{overlay_at}
use Rattle.rd_script.specs.declared.op.Op.{Op}
use Rattle.rd_script.specs.declared.op.Op.TheVariants.{Insert, InsertRaw, TypeText, Delete, Narrow, Widen, Put, Overlay as MakeOverlay, OverlayMove, OverlayDrop, OverlayPut, Setting as SetSetting, Show}
use Rattle.rd_state.specs.declared.effect.Effect.{Effect}
use Rattle.rd_state.specs.declared.effect.Effect.TheVariants.{Nothing, Edit, Moved, All, Window}
use Rattle.rd_state.specs.States.{StateValue, number_of}
use Rattle.rd_state.specs.Steps.{raw_text}
use Rattle.rd_state.specs.Windows.{selected_window}

-- the overlay with a number in the buffer with a name
abbrev pub overlay_in : StateValue → List ℕ → ℕ → Option Overlay
overlay_in s name number = option_and_then (λ b. overlay_at b.content.overlays number) (slice_get s.buffers (number_of name s.buffers))

-- a text was put in before a position
abbrev pub inserted_effect : ℕ → ℕ → List ℕ → Effect
inserted_effect buffer place text = Edit buffer place 0 (length text)

-- the text from one position up to another may look otherwise
abbrev pub restyled : ℕ → ℕ → ℕ → Effect
restyled buffer from to = Edit buffer from (to - from) (to - from)

-- the text that an overlay covers may look otherwise
abbrev pub covered_effect : ℕ → Option Overlay → Effect
covered_effect buffer None = Nothing
covered_effect buffer (Some o) = restyled buffer o.from o.to

-- what an overlay covered and what it covers may look otherwise, once it was moved to a range
abbrev pub moved_effect : ℕ → ℕ → ℕ → Option Overlay → Effect
moved_effect buffer from to None = Nothing
moved_effect buffer from to (Some o) = Moved buffer (o.from, o.to) (from, to)

unfoldable pub effect_of : StateValue → Op → Effect
effect_of s (Insert name place text) = inserted_effect (number_of name s.buffers) place text
effect_of s (InsertRaw name place bytes) = inserted_effect (number_of name s.buffers) place (raw_text bytes)
effect_of s (TypeText text) = inserted_effect (selected_window s).buffer (selected_window s).point text
effect_of s (Delete name from to) = Edit (number_of name s.buffers) from (to - from) 0
effect_of s (Narrow name from to) = All (number_of name s.buffers)
effect_of s (Widen name) = All (number_of name s.buffers)
effect_of s (Put name from to kind value) = restyled (number_of name s.buffers) from to
effect_of s (MakeOverlay name from to priority front rear) = restyled (number_of name s.buffers) from to
effect_of s (OverlayMove name overlay from to) = moved_effect (number_of name s.buffers) from to (overlay_in s name overlay)
effect_of s (OverlayDrop name overlay) = covered_effect (number_of name s.buffers) (overlay_in s name overlay)
effect_of s (OverlayPut name overlay kind value) = covered_effect (number_of name s.buffers) (overlay_in s name overlay)
effect_of s (SetSetting name value) = All (number_of name s.buffers)
effect_of s (Show window name) = Window window
effect_of s op = Nothing

-- What the code asks and answers of views and formats.
use Rattle.std.specs.Prelude.{◌≡◌, ℕ, Option, None, Some, Result, Ok, Err, slice_get}
use Rattle.rd_text.specs.Texts.{IsAccessible}
use Rattle.rd_state.specs.declared.refused.Refused.{Refused}
use Rattle.rd_state.specs.declared.refused.Refused.TheVariants.{BadFormat}
use Rattle.rd_state.specs.declared.window.WindowState.{WindowState}
use Rattle.rd_state.specs.States.{BufferValue, StateValue}
use Rattle.rd_state.specs.Windows.{window_of}

-- a position is accessible in the buffer that the window with a number shows
abbrev pub IsShownAt : StateValue → ℕ → ℕ → Type 0
IsShownAt s window p = (w : WindowState) (b : BufferValue) → window_of window s.windows ≡ Some w → slice_get s.buffers w.buffer ≡ Some b → IsAccessible b.content.text p

-- what the call that checks a format answers, where this is the place of its first bad code
abbrev pub ChecksFormat : {A : Type 0} → Result A Refused → Option ℕ → Type 0
ChecksFormat (Ok _) fault = fault ≡ None
ChecksFormat (Err e) fault = (place : ℕ) × (e ≡ BadFormat place) × (fault ≡ Some place)

-- The buffer that a window shows has a name.
use Rattle.std.proofs.Common.{◌≡◌, ℕ, Option, Some, List, [], sym, ap, ◌∙◌, unwrap_or}
use Rattle.std.specs.Prelude.{option_map, slice_get}
use Rattle.rd_base.proofs.Lists.{element-at}
use Rattle.rd_state.proofs.Showing.{window-valid}
use Rattle.rd_state.specs.States.{BufferValue, StateValue, new_buffer}
use Rattle.rd_state.specs.Valid.{IsValid}
use Rattle.rd_state.specs.Windows.{window_of}
use Rattle.rd_state.specs.declared.window.WindowState.{WindowState}
use Rattle.rd_layout.specs.Readings.{buffer_shown}
use Rattle.rd_layout.specs.Windows.{shown_buffer}

abbrev name_of : BufferValue → List ℕ
name_of b = b.name

pub shown-name : (s : StateValue) (number : ℕ) (w : WindowState) → IsValid s → window_of number s.windows ≡ Some w → option_map name_of (slice_get s.buffers w.buffer) ≡ buffer_shown number s
shown-name s number w valid lives =
    let there = element-at s.buffers w.buffer (window-valid s number w valid lives).made in
    ap (option_map name_of) there.1
    ∙ sym (ap (option_map (λ (x : WindowState). (shown_buffer s x).name)) lives ∙ ap (λ (o : Option BufferValue). Some (unwrap_or o (new_buffer [])).name) there.1)

-- What a session tells of its buffers.
use Rattle.std.specs.Prelude.{ℕ, Option, List, option_map, slice_get}
use Rattle.rd_state.specs.States.{BufferValue, StateValue, number_of}
use Rattle.rd_state.specs.Windows.{window_of}
use Rattle.rd_text.specs.Texts.{TextValue}
use Rattle.rd_layout.specs.Windows.{shown_buffer}

-- the name of the buffer that the window with a number shows, where it lives
abbrev pub buffer_shown : ℕ → StateValue → Option (List ℕ)
buffer_shown number s = option_map (λ w. (shown_buffer s w).name) (window_of number s.windows)

-- the text of the buffer with a name, where one has it
abbrev pub text_named : List ℕ → List BufferValue → Option TextValue
text_named name buffers = option_map (λ b. b.content.text) (slice_get buffers (number_of name buffers))

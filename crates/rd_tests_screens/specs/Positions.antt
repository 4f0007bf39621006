-- Positions of the buffers of a state.
use Rattle.std.specs.Prelude.{ℕ, ◌≤◌, IfSome, slice_get}
use Rattle.rd_state.specs.States.{StateValue}

-- where there is a buffer with this number, a position is accessible in it; where there is none nothing is asked, as `IsShownAt` of
-- rd_state asks nothing there
abbrev pub HasPosition : StateValue → ℕ → ℕ → Type 0
HasPosition s buffer pos = IfSome (slice_get s.buffers buffer) (λ b. (b.content.text.begin ≤ pos) × (pos ≤ b.content.text.end))

-- What the calls of windows that were laid out answer.
use Rattle.std.specs.Prelude.{◌≡◌, ◌≢◌, ℕ, Result, Ok, Err}
use Rattle.rd_script.specs.declared.op.Op.TheVariants.{Point}
use Rattle.rd_state.specs.States.{StateValue}
use Rattle.rd_state.specs.Steps.{step}
use Rattle.rd_state.specs.declared.refused.Refused.{Refused}
use Rattle.rd_state.specs.declared.refused.Refused.TheVariants.{Memory}

-- What a call answers that looks for the position to which an op moves the point of a window, where this is said of the op: that it is
-- the op that moves point there. A refusal is the one that was said, or want of memory.
abbrev pub Points : Result ℕ Refused → ℕ → StateValue → Result StateValue Refused → Type 0
Points (Ok place) window s said = said ≡ step s (Point window place)
Points (Err refused) window s said = refused ≢ Memory → said ≡ Err refused

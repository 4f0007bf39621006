-- What holds of each op that is no redisplay.
use Rattle.std.proofs.Common.{◌≡◌, ◌∙◌, false, None, Some, Ok, sym}
use Rattle.rd_script.specs.declared.op.Op.{Op}
use Rattle.rd_script.specs.declared.op.Op.TheVariants as ops
use Rattle.rd_state.specs.States.{StateValue}
use Rattle.rd_layout.specs.Sessions.{IsStep, SessionValue, is_frame, session_step}
use Rattle.rd_layout.proofs.Known.{as-step}
use Rattle.rd_layout.proofs.Standing.{moved}
use Rattle.rd_run.specs.Runs.{AreOfOneSize, asked}

-- an op that asks for no redisplay is a step
pub step-of : (op : Op) → asked op ≡ None → IsStep op
step-of (ops.Redisplay stop) e = absurd (let k : Some stop ≡ None = e in cc)
step-of op e = tt

-- an op that sets no frame leaves its size
pub keeps-size : (v : SessionValue) (op : Op) (t : StateValue) → session_step v op ≡ Ok t → is_frame op ≡ false → AreOfOneSize v.state t
keeps-size v op t e other = let o = as-step v op t e in (moved v.state t o.0 o.1).size (sym o.2 ∙ other)

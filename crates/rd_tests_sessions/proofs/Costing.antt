-- What ops and redisplays lead to, one after the other, and what a redisplay may cost behind them.
use Rattle.std.proofs.Common.{◌≡◌, ℕ, ◌+◌, ◌≤◌, None, List, [], OnOk, Result, Ok, Err, refl, sym, ap, ◌∙◌, subst}
use Rattle.rd_layout.specs.Copies.{redisplayed, without_copies}
use Rattle.rd_layout.specs.Examples.{after, after_all, led, then_done}
use Rattle.rd_layout.specs.Redisplays.{allowed}
use Rattle.rd_layout.specs.Sessions.{Applied, IsStep, SessionValue, behind, session_step}
use Rattle.rd_script.specs.declared.op.Op.{Op}
use Rattle.rd_script.specs.declared.op.Op.TheVariants.{Redisplay}
use Rattle.rd_state.specs.Examples.{told}
use Rattle.rd_state.specs.States.{StateValue}
use Rattle.rd_state.specs.declared.refused.Refused.{Refused}

-- how often rows were copied changes nothing of what an op leads to
abbrev pub StepLaw : Type 0
StepLaw = (v : SessionValue) (op : Op) → session_step (without_copies v) op ≡ session_step v op

abbrev pub BehindLaw : Type 0
BehindLaw = (v : SessionValue) (op : Op) (state : StateValue) → without_copies (behind v op state) ≡ behind (without_copies v) op state

step-done : (op : Op) (v : SessionValue) → IsStep op → then_done (Ok v) op ≡ led v op (session_step v op)
step-done (Redisplay stop) v step = absurd step
step-done op v step = refl

-- an op that was applied, where it was not refused
pub op-done : StepLaw → BehindLaw → (result : Result Unit Refused) (op : Op) (old new : SessionValue) → IsStep op → Applied result op old new
    → OnOk result (then_done (Ok (without_copies old)) op ≡ Ok (without_copies new))
op-done steps behinds (Ok u) op old new step done =
    step-done op (without_copies old) step ∙ ap (led (without_copies old) op) (steps old op ∙ done.1) ∙ ap (λ (v : SessionValue). Ok v) (sym (behinds old op done.0))
    ∙ ap (λ (v : SessionValue). Ok (without_copies v)) (sym done.2)
op-done steps behinds (Err refused) op old new step done = tt

-- ops from the opening on, one more redisplay, and one more op
pub then-made : (v w : SessionValue) (ops : List Op) → after [] ≡ Ok v → after_all (Ok v) ops ≡ Ok w → after ops ≡ Ok w
then-made v w ops opens makes = ap (λ (r : Result SessionValue Refused). after_all r ops) opens ∙ makes

pub then-shown : (r : Result SessionValue Refused) (v w : SessionValue) → r ≡ Ok v → w ≡ redisplayed v None → then_done r (Redisplay None) ≡ Ok w
then-shown r v w reached shows =
    ap (λ (x : Result SessionValue Refused). then_done x (Redisplay None)) reached ∙ ap (λ (x : SessionValue). Ok x) (sym shows)

pub then-applied : (r : Result SessionValue Refused) (v w : SessionValue) (op : Op) → r ≡ Ok v → then_done (Ok v) op ≡ Ok w → then_done r op ≡ Ok w
then-applied r v w op reached leads = ap (λ (x : Result SessionValue Refused). then_done x op) reached ∙ leads

abbrev value_of : Result ℕ Refused → ℕ
value_of (Ok n) = n
value_of (Err refusal) = 0

-- a count that rose by what a redisplay may cost, where that was computed
pub rise-of : (r : Result SessionValue Refused) (v : SessionValue) (n old new : ℕ) → r ≡ Ok v → told allowed r ≡ Ok n → new ≤ old + allowed v → new ≤ old + n
rise-of r v n old new reached costs rises =
    subst (λ (m : ℕ). new ≤ old + m) (ap value_of (sym (ap (told allowed) reached) ∙ costs)) rises

-- a count that rose by what the second redisplay may cost, behind ops from the opening on, with one op more between the two
pub rise-behind : (ops : List Op) (op : Op) (v w x y : SessionValue) (n old new : ℕ) → after [] ≡ Ok v → after_all (Ok v) ops ≡ Ok w → x ≡ redisplayed w None → then_done (Ok x) op ≡ Ok y
    → told allowed (then_done (then_done (after ops) (Redisplay None)) op) ≡ Ok n → new ≤ old + allowed y → new ≤ old + n
rise-behind ops op v w x y n old new opens makes shows leads costs rises =
    let made : after ops ≡ Ok w = then-made v w ops opens makes in
    let shown : then_done (after ops) (Redisplay None) ≡ Ok x = then-shown (after ops) w x made shows in
    rise-of (then_done (then_done (after ops) (Redisplay None)) op) y n old new (then-applied (then_done (after ops) (Redisplay None)) x y op shown leads) costs rises

-- Where ops and redisplays lead, over a screen.
use Rattle.std.proofs.Common.{◌≡◌, ℕ, true, false, if◌then◌else◌, Option, None, Ok, List, sym, ap, refl, subst, ◌∙◌}
use Rattle.rd_script.specs.Forms.{IsInForm}
use Rattle.rd_script.specs.declared.op.Op.{Op}
use Rattle.rd_script.specs.declared.op.Op.TheVariants as ops
use Rattle.rd_state.specs.States.{StateValue}
use Rattle.rd_term.specs.Pictures.{Picture}
use Rattle.rd_layout.specs.Laws.{LeadLaw}
use Rattle.rd_layout.specs.Redisplays.{Redisplayed}
use Rattle.rd_layout.specs.Sessions.{Applied, IsStep, SessionValue, behind, is_frame, session_step}
use Rattle.rd_layout.specs.Since.{IsSession}
use Rattle.rd_layout.specs.declared.outcome.Outcome.{Outcome}
use Rattle.rd_layout.specs.declared.outcome.Outcome.TheVariants.{Shown, Stopped, NoMemory, WriteFault}
use Rattle.rd_layout.proofs.Known.{forgotten-session}
use Rattle.rd_session.specs.Screens.{with_screen}

-- ---- ops: none reads the screen

step-same : (v : SessionValue) (c : Option Picture) (op : Op) → session_step (with_screen v c) op ≡ session_step v op
step-same v c (ops.Go window right) = refl
step-same v c (ops.Hit window row column) = refl
step-same v c op = refl

-- an op that led to a state leads there over a screen, of which it leaves what it leaves
applied-over : (v w : SessionValue) (c d : Option Picture) (op : Op) → d ≡ (if is_frame op then None else c) → Applied (Ok tt) op v w → Applied (Ok tt) op (with_screen v c) (with_screen w d)
applied-over v w c d op shows h =
    (h.0, step-same v c op ∙ h.1, ap (λ (x : SessionValue). with_screen x d) h.2 ∙ ap (λ (screen : Option Picture). with_screen (behind v op h.0) screen) shows)

pub applied-leads : ((v : SessionValue) (op : Op) (state : StateValue) → IsSession v → IsInForm op → IsStep op → session_step v op ≡ Ok state → IsSession (behind v op state))
    → (v w : SessionValue) (c d : Option Picture) (op : Op) → d ≡ (if is_frame op then None else c) → Applied (Ok tt) op v w → IsSession (with_screen v c) → IsInForm op → IsStep op → IsSession (with_screen w d)
applied-leads law v w c d op shows h session form step =
    let over = applied-over v w c d op shows h in
    subst IsSession (sym over.2) (law (with_screen v c) op over.0 session form step over.1)

-- ---- redisplays

-- a redisplay leads from a session to a session
pub redisplay-leads : LeadLaw → (o : Outcome) (stop : Option ℕ) (old new : SessionValue) (before after : Option (List ℕ)) → IsSession old → Redisplayed o stop old new before after → IsSession new
redisplay-leads law (Shown rows) stop old new before after session h = law rows true stop old new before after session h
redisplay-leads law (Stopped rows) stop old new before after session h = law rows false stop old new before after session h
redisplay-leads law NoMemory stop old new before after session h = subst IsSession (sym h.0) (forgotten-session old session)
redisplay-leads law WriteFault stop old new before after session h = subst IsSession (sym h.0) (forgotten-session old session)

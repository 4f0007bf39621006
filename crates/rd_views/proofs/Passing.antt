-- What an op of the state makes of a session.
use Rattle.std.proofs.Common.{◌≡◌, Option, None, sym, ap, refl, ◌∙◌}
use Rattle.rd_base.proofs.Choices.{either}
use Rattle.rd_script.specs.declared.op.Op.{Op}
use Rattle.rd_script.specs.declared.op.Op.TheVariants as ops
use Rattle.rd_state.specs.Answers.{IsApplied}
use Rattle.rd_state.specs.Effects.{effect_of}
use Rattle.rd_state.specs.Steps.{step}
use Rattle.rd_state.specs.declared.effect.Effect.{Effect}
use Rattle.rd_term.specs.Pictures.{Picture}
use Rattle.rd_layout.specs.Changes.{layouts_after}
use Rattle.rd_layout.specs.Sessions.{IsStep, SessionValue, behind, is_frame, session_step}

pub is-step : (op : Op) → IsApplied op → IsStep op
is-step (ops.Redisplay stop) h = absurd h
is-step op h = tt

pub step-is : (v : SessionValue) (op : Op) → IsApplied op → session_step v op ≡ step v.state op
step-is v (ops.Go window right) h = absurd h
step-is v (ops.Hit window row column) h = absurd h
step-is v op h = refl

-- a session of which no screen is known is the one behind an op, where its state is and its last layouts are
pub is-behind : (old new : SessionValue) (op : Op) (effect : Effect) → old.current ≡ None → new.current ≡ None → new.files ≡ old.files → effect ≡ effect_of old.state op
    → new.layouts ≡ layouts_after effect new.state old.layouts → new ≡ behind old op new.state
is-behind old new op effect before after files told layouts =
    let current = after ∙ either (λ (o : Option Picture). None ≡ o) (is_frame op) None old.current refl (sym before) in
    let noted = layouts ∙ ap (λ (e : Effect). layouts_after e new.state old.layouts) told in
    λ i. record { files = files i; state = new.state; current = current i; layouts = noted i }

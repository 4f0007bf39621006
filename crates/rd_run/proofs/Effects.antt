-- What the effect of a line can be, by the kind of the line.
use Rattle.std.proofs.Common.{◌≡◌, Bool, true, false, if◌then◌else◌, ℕ, List, Option, None, Some, Result, Ok, Err, refl}
use Rattle.rd_base.proofs.Choices.{either}
use Rattle.rd_script.proofs.InForm.{reading-in_form}
use Rattle.rd_script.specs.Forms.{IsInForm}
use Rattle.rd_script.specs.Reading.{reading}
use Rattle.rd_script.specs.declared.fault.OpFault.{OpFault}
use Rattle.rd_script.specs.declared.op.Op.{Op}
use Rattle.rd_state.specs.States.{StateValue}
use Rattle.rd_state.specs.declared.refused.Refused.{Refused}
use Rattle.rd_layout.specs.Sessions.{IsStep, session_step}
use Rattle.rd_layout.specs.declared.outcome.Outcome.TheVariants.{Shown, Stopped}
use Rattle.rd_run.specs.Runs.{Effect, Input, Standing, asked, effect, effect_by, effect_of_reading, input_of, is_blank, is_sent, is_shown, quiet, redisplayed, refused, stepped, unshown}
use Rattle.rd_run.specs.declared.status.ScriptFault.TheVariants as faults
use Rattle.rd_run.proofs.Ops.{step-of}

-- what holds of the effect of each kind of line: of a blank line, of one that is no op, of ops that are refused and that are accepted, and
-- of redisplays that find no memory and that find it
pub record OfKinds (place : Standing) (t : Input) (P : Effect → Type 0) : Type 0 where
  pub blank : P (quiet place)
  pub unread : (fault : OpFault) → reading t.line ≡ Err fault → P (refused place (faults.Op fault))
  pub refusal : (op : Op) (cause : Refused) → session_step place.session op ≡ Err cause → P (refused place (faults.Refused cause))
  pub accepted : (op : Op) (state : StateValue) → IsInForm op → IsStep op → session_step place.session op ≡ Ok state → P (stepped place op (Ok state))
  pub starved : P (unshown place)
  pub fed : (stop : Option ℕ) → P (redisplayed place stop)

stepped-is : (place : Standing) (t : Input) (P : Effect → Type 0) → OfKinds place t P → (op : Op) (r : Result StateValue Refused) → session_step place.session op ≡ r → IsInForm op → IsStep op
    → P (stepped place op r)
stepped-is place t P h op (Err cause) e form step = h.refusal op cause e
stepped-is place t P h op (Ok state) e form step = h.accepted op state form step e

op-is : (place : Standing) (t : Input) (P : Effect → Type 0) → OfKinds place t P → (o : Option (Option ℕ)) (starved : Bool) (op : Op) → asked op ≡ o → IsInForm op → P (effect_by o starved place op)
op-is place t P h None starved op e form = stepped-is place t P h op (session_step place.session op) refl form (step-of op e)
op-is place t P h (Some stop) starved op e form = either P starved (unshown place) (redisplayed place stop) h.starved (h.fed stop)

reading-is : (place : Standing) (t : Input) (P : Effect → Type 0) → OfKinds place t P → (r : Result Op OpFault) → reading t.line ≡ r → P (effect_of_reading t.starved place r)
reading-is place t P h (Err fault) e = h.unread fault e
reading-is place t P h (Ok op) e = op-is place t P h (asked op) t.starved op refl (reading-in_form t.line op e)

-- what holds of the effects of each kind holds of the effect of each line
pub effect-is : (place : Standing) (t : Input) (P : Effect → Type 0) → OfKinds place t P → P (effect place t)
unfolding effect
effect-is place t P h =
    either P (is_blank t.line) (quiet place) (effect_of_reading t.starved place (reading t.line)) h.blank (reading-is place t P h (reading t.line) refl)

-- The effects of one line, which finds memory or doesn't: what holds of each effect and itself, and of the effects of each redisplay, holds
-- of these.
pub effects-pair : (place : Standing) (line : List ℕ) (s r : Bool) (P : Effect → Effect → Type 0) → ((e : Effect) → P e e)
    → ((op : Op) (stop : Option ℕ) → P (effect_by (Some stop) s place op) (effect_by (Some stop) r place op)) → P (effect place (input_of line s)) (effect place (input_of line r))
unfolding effect
effects-pair place line s r P same shown = by (is_blank line) (reading line) where
  asks : (o : Option (Option ℕ)) (op : Op) → P (effect_by o s place op) (effect_by o r place op)
  asks None op = same _
  asks (Some stop) op = shown op stop

  by : (blank : Bool) (x : Result Op OpFault) → P (if blank then quiet place else effect_of_reading s place x) (if blank then quiet place else effect_of_reading r place x)
  by true x = same _
  by false (Err fault) = same _
  by false (Ok op) = asks (asked op) op

-- the update of a redisplay that is shown is done
pub shown-done : (done : Bool) (rows : ℕ) → is_shown (Some (if done then Shown rows else Stopped rows)) ≡ true → done ≡ true
shown-done true rows h = refl
shown-done false rows h = absurd (let k : false ≡ true = h in cc)

-- a redisplay that is shown or stopped is one that was sent
pub is-sent : (done : Bool) (rows : ℕ) → is_sent (Some (if done then Shown rows else Stopped rows)) ≡ true
is-sent true rows = refl
is-sent false rows = refl

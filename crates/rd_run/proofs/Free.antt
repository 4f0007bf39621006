-- No status but its own has want of memory in it.
use Rattle.std.proofs.Common.{◌≡◌, ◌≢◌, ℕ, inl, inr, List, [], ◌∷◌, Option, None, Some, is_some, Result, Err, ap, ◌∙◌}
use Rattle.rd_base.proofs.Choices.{IsFreeOf, either}
use Rattle.rd_files.specs.declared.fault.BadFile.{BadFile}
use Rattle.rd_files.specs.declared.fault.DataFile.{DataFile}
use Rattle.rd_files.specs.declared.fault.DataKind.{DataKind}
use Rattle.rd_files.specs.declared.fault.DataKind.TheVariants as kinds
use Rattle.rd_script.proofs.Free.{reading-free}
use Rattle.rd_script.specs.Reading.{reading}
use Rattle.rd_script.specs.declared.fault.OpFault.{OpFault}
use Rattle.rd_script.specs.declared.fault.OpFault.TheVariants as op_faults
use Rattle.rd_script.specs.declared.op.Op.{Op}
use Rattle.rd_state.specs.States.{StateValue}
use Rattle.rd_state.specs.declared.refused.Refused.{Refused as Refusal}
use Rattle.rd_state.specs.declared.refused.Refused.TheVariants as refusals
use Rattle.rd_layout.specs.Sessions.{session_step}
use Rattle.rd_ucd.specs.declared.fault.UcdFault.TheVariants as ucd
use Rattle.rd_run.specs.Ends.{Comes, ComesIn, Drawn, IsOver}
use Rattle.rd_run.specs.Given.{Given, IsBadData}
use Rattle.rd_run.specs.Runs.{Input, Mode, Standing, World, after, effect, opened, run, run_line}
use Rattle.rd_run.specs.Statuses.{TellsNoMemory}
use Rattle.rd_run.specs.declared.status.ScriptFault.{ScriptFault}
use Rattle.rd_run.specs.declared.status.ScriptFault.TheVariants.{Op as NoOp, Refused, TooLong, TooMany}
use Rattle.rd_run.specs.declared.status.Status.{Status}
use Rattle.rd_run.specs.declared.status.Status.TheVariants.{BadData, BadScript}
use Rattle.rd_run.proofs.FreeFiles.{data-free}
use Rattle.rd_run.proofs.FreeSteps.{session-free}
use Rattle.rd_run.proofs.Effects.{effect-is}

-- ---- runs

-- a line is neither no op nor refused for want of memory
abbrev pub IsFreeFault : Option ScriptFault → Type 0
IsFreeFault fault = (fault ≢ Some (NoOp op_faults.Memory)) × (fault ≢ Some (Refused refusals.Memory))

none-free : IsFreeFault None
none-free = (λ e. cc, λ e. cc)

unread-free : (r : Result Op OpFault) (fault : OpFault) → r ≡ Err fault → r ≢ Err op_faults.Memory → IsFreeFault (Some (NoOp fault))
unread-free r fault is h = (λ e. h (cc), λ e. cc)

refused-free : (r : Result StateValue Refusal) (cause : Refusal) → r ≡ Err cause → IsFreeOf refusals.Memory r → IsFreeFault (Some (Refused cause))
refused-free r cause is h = (λ e. cc, λ e. h (cc))

effect-free : (now : Standing) (t : Input) → IsFreeFault (effect now t).fault
effect-free now t = effect-is now t (λ e. IsFreeFault e.fault) (record {
  blank = none-free;
  unread = λ fault is. unread-free (reading t.line) fault is (reading-free t.line);
  refusal = λ op cause is. refused-free (session_step now.session op) cause is (session-free now.session op);
  accepted = λ op state form step is. none-free;
  starved = none-free;
  fed = λ stop. none-free;
})

run-free : (w : World) (ts : List Input) → IsFreeFault w.fault → IsFreeFault (run w ts).fault
run-free w [] h = h
run-free w (t ∷ ts) h =
    run-free (run_line w t) ts (either (λ (v : World). IsFreeFault v.fault) (is_some w.fault) w (after w (effect w.now t)) h (effect-free w.now t))

-- ---- statuses

bad_data-free : (given : Given) (file : DataFile) (number : ℕ) (kind : DataKind) → IsBadData given file number kind → kind ≢ kinds.Bad ucd.Memory
bad_data-free given file number kind bad e =
    let fault : BadFile = record { file = file; line = number; kind = kind } in
    data-free bad.files.0 bad.files.1 bad.files.2 fault bad.files.6 e

over-free : (fault : ScriptFault) (inputs : List Input) (bytes : List ℕ) → IsOver fault inputs bytes → (fault ≢ NoOp op_faults.Memory) × (fault ≢ Refused refusals.Memory)
over-free TooLong inputs bytes over = (λ e. cc, λ e. cc)
over-free TooMany inputs bytes over = (λ e. cc, λ e. cc)
over-free fault inputs bytes over = absurd over

in-free : (mode : Mode) (status : Status) (inputs : List Input) (bytes : List ℕ) (source : Drawn) → ComesIn mode status inputs bytes source → TellsNoMemory status
in-free mode (BadData file number kind) inputs bytes source c = absurd c
in-free mode (BadScript number fault) inputs bytes source (inl bad) =
    let free = run-free (opened mode) inputs none-free in
    (λ e. free.0 (bad.ended ∙ ap (λ f. Some f) e), λ e. free.1 (bad.ended ∙ ap (λ f. Some f) e))
in-free mode (BadScript number fault) inputs bytes source (inr past) = over-free fault inputs bytes past.over
in-free mode status inputs bytes source c = tt

pub comes-free : (given : Given) (mode : Option Mode) (status : Status) (inputs : List Input) (bytes : List ℕ) (source : Drawn) → Comes given mode status inputs bytes source → TellsNoMemory status
comes-free given None (BadData file number kind) inputs bytes source c = bad_data-free given file number kind c.0
comes-free given None (BadScript number fault) inputs bytes source c = absurd c
comes-free given None status inputs bytes source c = tt
comes-free given (Some mode) status inputs bytes source c = in-free mode status inputs bytes source c.1

-- What the calls of an embedded session do.
use Rattle.std.specs.Prelude.{◌≡◌, ℕ, ◌⊎◌, nat_lt, if◌then◌else◌, List, drop, length, Option, None, Some, Result, Ok, Err, IsTrue}
use Rattle.rd_base.specs.declared.limits.TheConstants.{LINE_BYTES}
use Rattle.rd_layout.specs.Redisplays.{Redisplayed}
use Rattle.rd_layout.specs.Sessions.{Applied}
use Rattle.rd_layout.specs.declared.outcome.Outcome.{Outcome}
use Rattle.rd_layout.specs.declared.outcome.Outcome.TheVariants as outcomes
use Rattle.rd_run.specs.Runs.{asked, is_blank}
use Rattle.rd_script.specs.Reading.{reading}
use Rattle.rd_script.specs.declared.fault.OpFault.{OpFault}
use Rattle.rd_script.specs.declared.op.Op.{Op}
use Rattle.rd_state.specs.Answers.{takes_memory}
use Rattle.rd_state.specs.declared.refused.Refused.{Refused}
use Rattle.rd_state.specs.declared.refused.Refused.TheVariants as refusals
use Rattle.rd_embed.specs.Endings.{ending_of, ending_of_fault, status_of}
use Rattle.rd_embed.specs.Fills.{Fills}
use Rattle.rd_embed.specs.declared.embedded.Embedded.{Embedded}
use Rattle.rd_embed.specs.declared.ending.Ending.{Ending}
use Rattle.rd_embed.specs.declared.ending.Ending.TheVariants.{Done, Stopped, NoMemory, TooLong}
use Rattle.rd_embed.specs.declared.shown.Shown.{Shown}
use Rattle.rd_embed.specs.declared.status.Status.{Status}

-- ---- ops

-- What a call does that applies an op. A refusal is the first that the op meets, or want of memory, which only an op that takes some meets;
-- it leaves the session as it was. What is pending stays.
pub record Performs (status : Status) (op : Op) (old new : Embedded) : Type 0 where
  pub answer : Result Unit Refused
  pub told : status ≡ status_of (ending_of answer)
  pub applied : Applied answer op old.session new.session
  pub free : answer ≡ Err refusals.Memory → IsTrue (takes_memory op)
  pub ending : new.ending ≡ ending_of answer
  pub pending : new.pending ≡ old.pending

-- a session of which a call ended so; all else is as it was
abbrev pub ended : Ending → Embedded → Embedded
ended ending e = record e { ending = ending }

-- a call ended so, and no op was applied
pub record Ends (status : Status) (ending : Ending) (old new : Embedded) : Type 0 where
  pub told : status ≡ status_of ending
  pub same : new ≡ ended ending old

-- what a call does that asks for an op, or that ends before one is applied
abbrev pub Does : Status → Result Op Ending → Embedded → Embedded → Type 0
Does status (Ok op) old new = Performs status op old new
Does status (Err ending) old new = Ends status ending old new

-- the same of a call that takes memory before an op is applied: it may also end for want of it
abbrev pub Asks : Status → Result Op Ending → Embedded → Embedded → Type 0
Asks status asked old new = Ends status NoMemory old new ⊎ Does status asked old new

-- a call that ends so before an op is applied asked for none, unless memory was wanting
abbrev pub IsStop : Ending → Result Op Ending → Type 0
IsStop NoMemory asked = Unit {0}
IsStop ending asked = asked ≡ Err ending

-- ---- the redisplay

-- how a redisplay ended
abbrev pub ending_of_outcome : Outcome → Ending
ending_of_outcome (outcomes.Shown rows) = Done
ending_of_outcome (outcomes.Stopped rows) = Stopped
ending_of_outcome outcomes.NoMemory = NoMemory
ending_of_outcome outcomes.WriteFault = NoMemory

-- how many rows a redisplay sent
abbrev pub rows_of : Outcome → ℕ
rows_of (outcomes.Shown rows) = rows
rows_of (outcomes.Stopped rows) = rows
rows_of outcomes.NoMemory = 0
rows_of outcomes.WriteFault = 0

-- What a redisplay does. Its bytes stand behind those that were pending: all of them, or after want of memory a front.
pub record Shows (shown : Shown) (stop : Option ℕ) (old new : Embedded) : Type 0 where
  pub outcome : Outcome
  pub told : shown.status ≡ status_of (ending_of_outcome outcome)
  pub count : shown.rows ≡ rows_of outcome
  pub redisplayed : Redisplayed outcome stop old.session new.session (Some old.pending.bytes) (Some new.pending.bytes)
  pub ending : new.ending ≡ ending_of_outcome outcome

-- ---- lines

abbrev pub asked_by : Result Op OpFault → Result (Option Op) Ending
asked_by (Ok op) = Ok (Some op)
asked_by (Err fault) = Err (ending_of_fault fault)

-- what a line asks for: an op, or nothing where it is blank; or how it ends that is none
abbrev pub asked_line : List ℕ → Result (Option Op) Ending
asked_line line = if nat_lt LINE_BYTES (length line) then Err TooLong else (if is_blank line then Ok None else asked_by (reading line))

-- what an op of a line does, which is a redisplay with this stop where there is one
abbrev pub OpDoes : Option (Option ℕ) → Shown → Op → Embedded → Embedded → Type 0
OpDoes None shown op old new = Performs shown.status op old new × (shown.rows ≡ 0)
OpDoes (Some stop) shown op old new = Shows shown stop old new

-- what a line does that asks for this
abbrev pub DoesAsked : Shown → Result (Option Op) Ending → Embedded → Embedded → Type 0
DoesAsked shown (Ok None) old new = Ends shown.status Done old new × (shown.rows ≡ 0)
DoesAsked shown (Ok (Some op)) old new = OpDoes (asked op) shown op old new
DoesAsked shown (Err ending) old new = Ends shown.status ending old new × (shown.rows ≡ 0)

-- the same, or want of memory
abbrev pub LineDoes : Shown → Result (Option Op) Ending → Embedded → Embedded → Type 0
LineDoes shown asked old new = (Ends shown.status NoMemory old new × (shown.rows ≡ 0)) ⊎ DoesAsked shown asked old new

-- a line that ends so asked for no op, unless memory was wanting
abbrev pub IsLineStop : Ending → Result (Option Op) Ending → Type 0
IsLineStop NoMemory asked = Unit {0}
IsLineStop ending asked = asked ≡ Err ending

-- ---- the pending bytes

-- the first pending bytes were moved to the front of a buffer
pub record Fetches (count : ℕ) (before after : List ℕ) (old new : Embedded) : Type 0 where
  pub filled : Fills count old.pending.bytes before after
  pub left : new ≡ record old { pending = record old.pending { bytes = drop count old.pending.bytes } }

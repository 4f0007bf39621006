-- The run over the lines of a script.
use Rattle.std.specs.Prelude.{◌≡◌, ℕ, ◌+◌, ◌==◌, ◌||◌, Bool, true, false, if◌then◌else◌, is_some, List, [], ◌∷◌, ◌++◌, Option, None, Some, Result, Ok, Err, fold}
use Rattle.std.specs.List.{list_all}
use Rattle.rd_ucd.specs.Data.{Data}
use Rattle.rd_term.specs.Pictures.{Picture}
use Rattle.rd_term.specs.Terminals.{Tty, known, unknown, feed_bytes, Shows}
use Rattle.rd_dump.specs.Dumps.{dump_text}
use Rattle.rd_dump.specs.declared.dump.WindowFacts.{WindowFacts}
use Rattle.rd_script.specs.Reading.{reading}
use Rattle.rd_script.specs.declared.fault.OpFault.{OpFault}
use Rattle.rd_script.specs.declared.op.Op.{Op}
use Rattle.rd_script.specs.declared.op.Op.TheVariants.{Redisplay}
use Rattle.rd_state.specs.States.{StateValue}
use Rattle.rd_state.specs.declared.refused.Refused.{Refused}
use Rattle.rd_layout.specs.Copies.{redisplayed as redisplayed_session}
use Rattle.rd_layout.specs.Facts.{facts_of}
use Rattle.rd_layout.specs.Redisplays.{allowed, update_of, outcome_of}
use Rattle.rd_layout.specs.Screens.{laid_out}
use Rattle.rd_layout.specs.Sessions.{SessionValue, behind, is_frame, opened as opened_session, session_step}
use Rattle.rd_layout.specs.Since.{IsSession}
use Rattle.rd_layout.specs.declared.outcome.Outcome.{Outcome}
use Rattle.rd_layout.specs.declared.outcome.Outcome.TheVariants.{Shown, Stopped, NoMemory}
use Rattle.rd_run.specs.Reports.{shown_line, stopped_line, no_memory_line}
use Rattle.rd_run.specs.declared.status.ScriptFault.{ScriptFault}
use Rattle.rd_run.specs.declared.status.ScriptFault.TheVariants as faults

-- a line of the script, and whether its redisplay found no memory
pub record Input : Type 0 where
  pub line : List ℕ
  pub starved : Bool

abbrev pub input_of : List ℕ → Bool → Input
input_of line starved = record { line = line; starved = starved }

-- what a run begins with: the Unicode data, whether dumps are asked for, and the number of a generated script where it stands in place
-- of the one that is read
pub record Mode : Type 0 where
  pub files : Data
  pub dumps : Bool
  pub generated : Option ℕ

-- What the next line meets: the mode; the session, whose last layouts are taken as never copied; and how many lines were run and
-- redisplays shown.
pub record Standing : Type 0 where
  pub mode : Mode
  pub session : SessionValue
  pub lines : ℕ
  pub shown : ℕ

-- What one line does: where the run stands behind it, the bytes that it sends to the screen, what it writes to the report, whether a new
-- terminal begins, how its redisplay ended where it is one, how many elements this may place, and the fault of a line that is refused.
pub record Effect : Type 0 where
  pub now : Standing
  pub sent : List ℕ
  pub told : List ℕ
  pub fresh : Bool
  pub outcome : Option Outcome
  pub allowed : ℕ
  pub fault : Option ScriptFault

-- where a run stands once one more line was run
abbrev pub counted : Standing → Standing
counted now = record now { lines = now.lines + 1 }

-- the effect of a line of which nothing is sent or told
abbrev pub quiet : Standing → Effect
quiet now = record { now = counted now; sent = []; told = []; fresh = false; outcome = None; allowed = 0; fault = None }

-- the effect of a line that is refused
abbrev pub refused : Standing → ScriptFault → Effect
refused now fault = record (quiet now) { fault = Some fault }

-- an op: an accepted frame makes the current screen unknown, and a new terminal begins
abbrev pub stepped : Standing → Op → Result StateValue Refused → Effect
stepped now op (Err refusal) = refused now (faults.Refused refusal)
stepped now op (Ok state) = record (quiet now) { now = record (counted now) { session = behind now.session op state }; fresh = is_frame op }

-- a redisplay that finds no memory: the current screen is unknown from then on
abbrev pub unshown : Standing → Effect
unshown now = record (quiet now) {
  now = record (counted now) { session = record now.session { current = None } };
  told = no_memory_line (now.lines + 1);
  outcome = Some NoMemory;
  allowed = allowed now.session;
}

-- the dump of a screen that is known, and of the windows on it, where it is asked for
unfoldable pub dump_lines : Bool → Option Picture → List WindowFacts → List ℕ
dump_lines true (Some screen) facts = dump_text screen facts
dump_lines true None facts = []
dump_lines false screen facts = []

-- what is written to the report of a redisplay that was sent: that it was shown, with its dump, or that it was stopped; nothing of a
-- generated script
abbrev pub told_of : Mode → ℕ → Bool → ℕ → SessionValue → List ℕ
told_of mode number done rows next =
    if is_some mode.generated then []
    else if done then shown_line number rows ++ dump_lines mode.dumps next.current (facts_of next)
    else stopped_line number rows

-- a redisplay: what the rules give from nothing, by the update from the current screen
abbrev pub redisplayed : Standing → Option ℕ → Effect
redisplayed now stop =
    let u = update_of now.session stop in
    record {
      now = record (counted now) { session = redisplayed_session now.session stop; shown = if u.done then now.shown + 1 else now.shown };
      sent = u.bytes;
      told = told_of now.mode (now.lines + 1) u.done u.rows (redisplayed_session now.session stop);
      fresh = false;
      outcome = Some (outcome_of u.done u.rows);
      allowed = allowed now.session;
      fault = None;
    }

-- the stop that a redisplay asks for, where an op is one
abbrev pub asked : Op → Option (Option ℕ)
asked (Redisplay stop) = Some stop
asked op = None

abbrev pub effect_by : Option (Option ℕ) → Bool → Standing → Op → Effect
effect_by None starved now op = stepped now op (session_step now.session op)
effect_by (Some stop) starved now op = if starved then unshown now else redisplayed now stop

abbrev pub effect_of_op : Bool → Standing → Op → Effect
effect_of_op starved now op = effect_by (asked op) starved now op

abbrev pub effect_of_reading : Bool → Standing → Result Op OpFault → Effect
effect_of_reading starved now (Err fault) = refused now (faults.Op fault)
effect_of_reading starved now (Ok op) = effect_of_op starved now op

-- a line of only spaces, tabs and byte 13 is passed over
abbrev pub is_blank : List ℕ → Bool
is_blank line = list_all (λ b. b == 32 || (b == 9 || b == 13)) line

unfoldable pub effect : Standing → Input → Effect
effect now t = if is_blank t.line then quiet now else effect_of_reading t.starved now (reading t.line)

-- The run so far: where it stands, the terminal that reads the bytes since the last accepted frame, all bytes sent, the report, how many
-- elements the redisplays that were begun may place, and the fault of a line that was refused, which ends the run.
pub record World : Type 0 where
  pub now : Standing
  pub terminal : Tty
  pub sent : List ℕ
  pub told : List ℕ
  pub allowed : ℕ
  pub fault : Option ScriptFault

abbrev pub opened : Mode → World
opened mode = record {
  now = record { mode = mode; session = opened_session mode.files; lines = 0; shown = 0 };
  terminal = unknown 80 24;
  sent = [];
  told = [];
  allowed = 0;
  fault = None;
}

-- the terminal reads the bytes of a line, and a new one of the frame's size does where one begins
abbrev pub terminal_after : Tty → Effect → Tty
terminal_after terminal e = feed_bytes (if e.fresh then unknown e.now.session.state.width e.now.session.state.height else terminal) e.sent

abbrev pub after : World → Effect → World
after w e = record {
  now = e.now;
  terminal = terminal_after w.terminal e;
  sent = w.sent ++ e.sent;
  told = w.told ++ e.told;
  allowed = w.allowed + e.allowed;
  fault = e.fault;
}

-- the run over one more line; a run that has ended stays as it is
abbrev pub run_line : World → Input → World
run_line w t = if is_some w.fault then w else after w (effect w.now t)

abbrev pub run : World → List Input → World
run = fold run_line

-- how the redisplay of a line ended, where it is one and was run
abbrev pub outcome_at : World → Input → Option Outcome
outcome_at w t = if is_some w.fault then None else (effect w.now t).outcome

abbrev pub is_shown : Option Outcome → Bool
is_shown (Some (Shown rows)) = true
is_shown outcome = false

abbrev pub is_sent : Option Outcome → Bool
is_sent (Some (Shown rows)) = true
is_sent (Some (Stopped rows)) = true
is_sent outcome = false

-- What each shown redisplay promises: behind each line whose redisplay was shown, the terminal shows what the rules give from nothing
-- for the state before that line.
abbrev pub ShowsEach : World → List Input → Type 0
ShowsEach w [] = Unit {0}
ShowsEach w (t ∷ ts) =
    (is_shown (outcome_at w t) ≡ true → Shows (run_line w t).terminal (laid_out w.now.session.files w.now.session.state).picture) × ShowsEach (run_line w t) ts

-- the current screen is known, the terminal is not confused, and its cells are those of the screen
abbrev pub IsOn : Option Picture → Tty → Type 0
IsOn None terminal = ⊥
IsOn (Some screen) terminal = (terminal.confused ≡ false) × (terminal.rows ≡ known screen.rows)

-- Behind each line whose redisplay was shown or stopped, whatever was edited between its slices, the terminal is not confused and its
-- cells are those of the current screen.
abbrev pub KnowsEach : World → List Input → Type 0
KnowsEach w [] = Unit {0}
KnowsEach w (t ∷ ts) =
    (is_sent (outcome_at w t) ≡ true → IsOn (run_line w t).now.session.current (run_line w t).terminal) × KnowsEach (run_line w t) ts

-- two states have frames of one size
abbrev pub AreOfOneSize : StateValue → StateValue → Type 0
AreOfOneSize s t = (t.width ≡ s.width) × (t.height ≡ s.height)

-- What the next line does where a run stands. The frame keeps its size, unless a new terminal begins. Behind a redisplay that is shown or
-- stopped the terminal's cells are those of the current screen. Behind one that is shown this screen is what the rules give from nothing
-- for the state before that line, and so the terminal shows it, with its cursor.
pub record LeadsOn (w : World) (t : Input) : Type 0 where
  pub size : (effect w.now t).fresh ≡ false → AreOfOneSize w.now.session.state (effect w.now t).now.session.state
  pub knows : is_sent (outcome_at w t) ≡ true → IsOn (run_line w t).now.session.current (run_line w t).terminal
  pub reaches : is_shown (outcome_at w t) ≡ true → (run_line w t).now.session.current ≡ Some (laid_out w.now.session.files w.now.session.state).picture
  pub shows : is_shown (outcome_at w t) ≡ true → Shows (run_line w t).terminal (laid_out w.now.session.files w.now.session.state).picture

-- what stands behind any lines of a run
pub record StandLaws : Type 0 where
  pub session : (mode : Mode) (inputs : List Input) → IsSession (run (opened mode) inputs).now.session
  pub in_mode : (mode : Mode) (inputs : List Input) → (run (opened mode) inputs).now.mode ≡ mode
  pub leads : (mode : Mode) (inputs : List Input) (t : Input) → LeadsOn (run (opened mode) inputs) t

-- What the steps of a run do, by what they answer.
use Rattle.std.specs.Prelude.{◌≡◌, ℕ, ◌+◌, ◌<◌, ◌≤◌, ◌⊎◌, Bool, true, false, List, [], ◌∷◌, ◌++◌, Option, None, Some, Result, Ok, Err}
use Rattle.rd_base.specs.declared.limits.TheConstants.{LINES}
use Rattle.rd_files.specs.declared.fault.DataFault.{DataFault}
use Rattle.rd_files.specs.declared.fault.DataFault.TheVariants as data_faults
use Rattle.rd_io.specs.declared.lines.LineFault.{LineFault}
use Rattle.rd_io.specs.declared.lines.LineFault.TheVariants as reader
use Rattle.rd_io.specs.declared.traits.Failed.{Failed}
use Rattle.rd_layout.specs.Copies.{without_copies}
use Rattle.rd_run.specs.Ends.{Broke, Comes, Drawn, IsCalm, IsInHand, IsWithin, KeepsCounts, Placed, Sunk, Took, allowed_in, drawn, last_in, sent_in, told_in}
use Rattle.rd_run.specs.Given.{Given, IsMode, NoneFailed}
use Rattle.rd_run.specs.Reports.{last_line, summary_lines}
use Rattle.rd_run.specs.Runs.{Effect, Input, Mode, Standing, asked, effect, is_sent, opened, run, input_of}
use Rattle.rd_run.specs.declared.status.ScriptFault.TheVariants.{TooLong, TooMany}
use Rattle.rd_run.specs.declared.status.Status.{Status}
use Rattle.rd_run.specs.declared.status.Status.TheVariants.{BadData, BadScript, Done, NoMemory, ReadFault, WriteFault}
use Rattle.rd_script.specs.declared.op.Op.{Op}
use Rattle.rd_state.specs.Answers.{takes_memory}
use Rattle.rd_ucd.specs.Data.{Data}
use Rattle.rd_words.specs.Words.{WordValues}
use Rattle.rd_player.specs.declared.act.Playing.{Playing}
use Rattle.rd_player.specs.declared.halt.Halt.{Halt}
use Rattle.rd_player.specs.declared.halt.Halt.TheVariants as halts
use Rattle.rd_player.specs.declared.halt.Ending.{Ending}
use Rattle.rd_player.specs.declared.halt.Ending.TheVariants as endings
use Rattle.rd_player.specs.declared.halt.Summary.{Summary}

-- ---- where a run stands

abbrev pub mode_of : Playing → Mode
mode_of r = record { files = r.session.files; dumps = r.dumps; generated = r.generated }

-- where a run stands, however often the rows of its last layouts were copied
abbrev pub standing : Playing → Standing
standing r = record { mode = mode_of r; session = without_copies r.session; lines = r.lines; shown = r.shown }

-- a run of which no line was run
abbrev pub IsNew : Playing → Type 0
IsNew r = standing r ≡ (opened (mode_of r)).now

-- a run begins by what is given, or a status comes before the first line, when the source has not failed
abbrev pub Begins : Result Playing Status → Given → Type 0
Begins (Ok r) given = IsMode given (mode_of r) × IsNew r × NoneFailed given
Begins (Err status) given = (source : Drawn) → IsCalm source → Comes given None status [] [] source × KeepsCounts given None status source

-- the status that a fault of the data files gives
abbrev pub status_of : DataFault → Status
status_of (data_faults.Bad bad) = BadData bad.file bad.line bad.kind
status_of data_faults.Read = ReadFault
status_of data_faults.Memory = NoMemory

-- a run of no line over data files, as the words ask for it, or want of memory
abbrev pub IsOpened : Result Playing Status → Data → WordValues → Type 0
IsOpened (Ok r) files words = (mode_of r ≡ record { files = files; dumps = words.dumps; generated = words.generate }) × IsNew r
IsOpened (Err status) files words = status ≡ NoMemory

-- ---- a line

-- no more redisplays were shown than lines run, and there may be one more
pub record CanGoOn (r : Playing) : Type 0 where
  pub few : r.lines < LINES
  pub counted : r.shown ≤ r.lines

-- a report that failed ends the run
abbrev pub IsTold : Result Unit Failed → Result Unit Halt → Type 0
IsTold (Ok _) result = result ≡ Ok tt
IsTold (Err _) result = result ≡ Err halts.ReportBroke

-- a line of a redisplay is written to the report: each one of a script that is read, and one without memory of a
-- generated script
abbrev pub IsToldOf : Option ℕ → Bool → Type 0
IsToldOf generated starved = (generated ≡ None) ⊎ (starved ≡ true)

-- What a line did, whose effect is this, where it found memory for its redisplay and where it did not. `next` is where the run
-- then stands.
abbrev pub Acts : Result Unit Halt → (Bool → Effect) → Standing → Sunk → Sunk → Type 0
Acts (Ok _) does next screen report =
    (starved : Bool) × ((does starved).fault ≡ None) × (next ≡ (does starved).now) × Took screen (does starved).sent × Took report (does starved).told
Acts (Err (halts.Bad fault)) does next screen report =
    ((does false).fault ≡ Some fault) × Took screen (does false).sent × Took report (does false).told
Acts (Err halts.NoMemory) does next screen report = Took screen [] × Took report []
Acts (Err halts.ScreenBroke) does next screen report =
    (is_sent (does false).outcome ≡ true) × Broke screen [] (does false).sent × Took report []
Acts (Err halts.ReportBroke) does next screen report = (starved : Bool) × (is_sent (does false).outcome ≡ true) × Took screen (does starved).sent
    × Broke report [] (does starved).told × IsToldOf (does starved).now.mode.generated starved

-- want of memory ends the run at an op other than a redisplay, and one that takes memory
abbrev pub GivesUp : Result Unit Halt → Op → Type 0
GivesUp (Err halts.NoMemory) op = (asked op ≡ None) × (takes_memory op ≡ true)
GivesUp result op = Unit {0}

-- want of memory does not end the run
abbrev pub BearsIt : Result Unit Halt → Type 0
BearsIt (Err halts.NoMemory) = ⊥
BearsIt result = Unit {0}

-- how many elements a line placed, whose effect is this: none where memory ended the run
abbrev pub Places : Result Unit Halt → Effect → ℕ → ℕ → Type 0
Places (Ok _) e before after = after ≤ before + e.allowed
Places (Err (halts.Bad fault)) e before after = after ≤ before + e.allowed
Places (Err halts.NoMemory) e before after = after ≤ before
Places (Err halts.ScreenBroke) e before after = after ≤ before + e.allowed
Places (Err halts.ReportBroke) e before after = after ≤ before + e.allowed

-- ---- the end

abbrev pub summary_of : Summary → List ℕ
summary_of s = summary_lines s.lines s.shown s.characters s.start

-- what a status that ends a run came of, and what was written before its last line, which is this
pub record ComesWith (status : Status) (last : List ℕ) (given : Given) (mode : Option Mode) (inputs : List Input) (bytes : List ℕ) (source : Drawn) (screen report : Sunk) (steps : Placed) : Type 0 where
  pub comes : Comes given mode status inputs bytes source
  pub calm : KeepsCounts given mode status source
  pub line : last_in mode status inputs ≡ last
  pub sent : Took screen (sent_in mode inputs)
  pub told : Took report (told_in mode inputs)
  pub spent : IsWithin steps (allowed_in mode inputs)

-- the screen broke at the line in hand, or the report did
pub record ScreenBreaks (given : Given) (mode : Mode) (inputs : List Input) (bytes : List ℕ) (source : Drawn) (screen report : Sunk) (steps : Placed) : Type 0 where
  pub line : List ℕ
  pub hand : IsInHand given mode inputs line bytes source.left
  pub calm : NoneFailed given × IsCalm source
  pub sent : Broke screen (run (opened mode) inputs).sent (effect (run (opened mode) inputs).now (input_of line false)).sent
  pub told : Took report (run (opened mode) inputs).told
  pub spent : IsWithin steps (allowed_in (Some mode) (inputs ++ input_of line false ∷ []))

pub record ReportBreaks (given : Given) (mode : Mode) (inputs : List Input) (bytes : List ℕ) (source : Drawn) (screen report : Sunk) (steps : Placed) : Type 0 where
  pub t : Input
  pub hand : IsInHand given mode inputs t.line bytes source.left
  pub calm : NoneFailed given × IsCalm source
  pub sent : Took screen ((run (opened mode) inputs).sent ++ (effect (run (opened mode) inputs).now t).sent)
  pub told : Broke report (run (opened mode) inputs).told (effect (run (opened mode) inputs).now t).told
  pub tells : IsToldOf mode.generated t.starved
  pub spent : IsWithin steps (allowed_in (Some mode) (inputs ++ t ∷ []))

-- What was written before the last line of the report. Where no run has begun no line is run, so none breaks.
abbrev pub ComesTo : Ending → Given → Option Mode → List Input → List ℕ → Drawn → Sunk → Sunk → Placed → Type 0
ComesTo (endings.Ends status lines) given mode inputs bytes source screen report steps =
    ComesWith status (last_line status lines) given mode inputs bytes source screen report steps
ComesTo (endings.Sums s) given mode inputs bytes source screen report steps = ComesWith Done (summary_of s) given mode inputs bytes source screen report steps
ComesTo ending given None inputs bytes source screen report steps = ⊥
ComesTo endings.ScreenBroke given (Some mode) inputs bytes source screen report steps = ScreenBreaks given mode inputs bytes source screen report steps
ComesTo endings.ReportBroke given (Some mode) inputs bytes source screen report steps = ReportBreaks given mode inputs bytes source screen report steps

-- the lines of a generated script came to this ending: nothing was read for them
abbrev pub MadeComeTo : Ending → Given → Mode → Option (List ℕ) → ℕ → Sunk → Sunk → Placed → Type 0
MadeComeTo ending given mode left faults screen report steps =
    (inputs : List Input) × ComesTo ending given (Some mode) inputs [] (drawn left faults faults) screen report steps

-- a line was written to the report, and this status is answered, or the report broke
abbrev pub Tells : Status → List ℕ → Status → Sunk → Type 0
Tells status line result report = ((result ≡ status) × Took report line) ⊎ ((result ≡ WriteFault) × Broke report [] line)

-- the last line was written, where that may be
abbrev pub Finishes : Ending → Status → Sunk → Type 0
Finishes (endings.Ends status lines) result report = Tells status (last_line status lines) result report
Finishes (endings.Sums s) result report = Tells Done (summary_of s) result report
Finishes endings.ScreenBroke result report = Tells WriteFault (last_line WriteFault 0) result report
Finishes endings.ReportBroke result report = (result ≡ WriteFault) × Took report []

-- how a run ends whose reader answers a fault, behind so many lines
abbrev pub ended_by : LineFault → ℕ → Ending
ended_by reader.Failed lines = endings.Ends ReadFault lines
ended_by reader.TooLong lines = endings.Ends (BadScript (lines + 1) TooLong) lines
ended_by reader.TooMany lines = endings.Ends (BadScript (lines + 1) TooMany) lines
ended_by reader.Memory lines = endings.Ends NoMemory lines

-- how a run ends that halts at a line, behind so many others
abbrev pub halted_by : Halt → ℕ → Ending
halted_by (halts.Bad fault) lines = endings.Ends (BadScript (lines + 1) fault) (lines + 1)
halted_by halts.NoMemory lines = endings.Ends NoMemory lines
halted_by halts.ScreenBroke lines = endings.ScreenBroke
halted_by halts.ReportBroke lines = endings.ReportBroke

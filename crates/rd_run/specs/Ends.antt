-- How a run ends: what holds where each status comes, and what was then written to the screen and to the report.
use Rattle.std.specs.Prelude.{◌≡◌, ℕ, ◌+◌, ◌<◌, ◌≤◌, ◌⊎◌, true, false, List, [], ◌∷◌, ◌++◌, length, take, map, Option, None, Some, unwrap_or}
use Rattle.std.specs.List.{AllByRecursion}
use Rattle.std.specs.Io.KnownBytes.{Appends, IsAtEnd}
use Rattle.rd_base.specs.declared.limits.TheConstants.{LINE_BYTES, LINES}
use Rattle.rd_io.specs.Devices.{Rose}
use Rattle.rd_io.specs.Lines.{lines_of, text_of_lines, IsUnbroken}
use Rattle.rd_generate.specs.Generated.{script as generated}
use Rattle.rd_state.specs.States.{main_name}
use Rattle.rd_state.specs.Windows.{selected_window}
use Rattle.rd_layout.specs.Sessions.{length_of}
use Rattle.rd_run.specs.Given.{Given, IsMode, IsBadData, FileFailed, NoneFailed}
use Rattle.rd_run.specs.Reports.{last_line, summary_lines}
use Rattle.rd_run.specs.Runs.{Mode, Standing, Input, input_of, opened, effect, run, outcome_at, is_sent, ShowsEach}
use Rattle.rd_run.specs.declared.status.ScriptFault.{ScriptFault}
use Rattle.rd_run.specs.declared.status.ScriptFault.TheVariants.{TooLong, TooMany}
use Rattle.rd_run.specs.declared.status.Status.{Status}
use Rattle.rd_run.specs.declared.status.Status.TheVariants.{Done, Usage, BadData, BadScript, ReadFault, WriteFault, NoMemory}

-- ---- what calls did to the source and to a sink

-- the bytes that the source has left, where they are known, and how often it had and has failed
pub record Drawn : Type 0 where
  pub left : Option (List ℕ)
  pub faults_before : ℕ
  pub faults_after : ℕ

abbrev pub drawn : Option (List ℕ) → ℕ → ℕ → Drawn
drawn left faults_before faults_after = record { left = left; faults_before = faults_before; faults_after = faults_after }

-- the bytes that a sink had and has, where they are known, and how often it had and has failed
pub record Sunk : Type 0 where
  pub before : Option (List ℕ)
  pub after : Option (List ℕ)
  pub faults_before : ℕ
  pub faults_after : ℕ

abbrev pub sunk : Option (List ℕ) → Option (List ℕ) → ℕ → ℕ → Sunk
sunk before after faults_before faults_after =
    record { before = before; after = after; faults_before = faults_before; faults_after = faults_after }

-- a source did not fail: its count is as it was
abbrev pub IsCalm : Drawn → Type 0
IsCalm source = source.faults_after ≡ source.faults_before

-- these bytes were written to a sink, which did not fail: its count is as it was
pub record Took (s : Sunk) (bytes : List ℕ) : Type 0 where
  pub wrote : Appends s.before s.after bytes
  pub kept : s.faults_after ≡ s.faults_before

-- a sink's count of faults rose, and these bytes and then a front of others, not all, were written to it
pub record Broke (s : Sunk) (bytes others : List ℕ) : Type 0 where
  pub rose : Rose s.faults_before s.faults_after
  pub front : (n : ℕ) × (n < length others) × Appends s.before s.after (bytes ++ take n others)

-- how many elements were placed before a run and behind it
pub record Placed : Type 0 where
  pub before : ℕ
  pub after : ℕ

abbrev pub placed : ℕ → ℕ → Placed
placed before after = record { before = before; after = after }

-- no more than so many elements were placed
abbrev pub IsWithin : Placed → ℕ → Type 0
IsWithin steps allowance = steps.after ≤ steps.before + allowance

-- ---- the lines that were run

abbrev pub lines_in : List Input → List (List ℕ)
lines_in inputs = map (λ t. t.line) inputs

-- lines that a script may have: none is too long, and they are not too many
pub record AreInLimits (lines : List (List ℕ)) : Type 0 where
  pub short : AllByRecursion (λ line. length line ≤ LINE_BYTES) lines
  pub few : length lines ≤ LINES

-- the bytes are these lines, each with its newline, and a rest
abbrev pub Begins : List (List ℕ) → List ℕ → List ℕ → Type 0
Begins lines bytes rest = AllByRecursion IsUnbroken lines × (bytes ≡ text_of_lines lines ++ rest)

-- the bytes taken from the source are the lines run, which pass no limit, each with its newline, and a rest
abbrev pub GoesOn : List Input → List ℕ → List ℕ → Type 0
GoesOn inputs bytes rest = AreInLimits (lines_in inputs) × Begins (lines_in inputs) bytes rest

-- these lines, which pass no limit, are the first of the bytes taken from the source; the last of them needs no newline where the
-- source, which has this left, has no byte left
abbrev pub AreFirst : List (List ℕ) → List ℕ → Option (List ℕ) → Type 0
AreFirst lines bytes left = AreInLimits lines × (((rest : List ℕ) × Begins lines bytes rest) ⊎ ((lines_of bytes ≡ lines) × IsAtEnd left))

-- ---- what holds where each status comes

-- what has come of a line behind those that were run: it has no newline, is not too long, and begins no line that is one too many
abbrev pub IsBegun : List Input → List ℕ → Type 0
IsBegun inputs rest = IsUnbroken rest × (length rest ≤ LINE_BYTES) × ((length inputs < LINES) ⊎ (rest ≡ []))

-- a line that is too long, or one too many: nothing of it was run
abbrev pub IsOver : ScriptFault → List Input → List ℕ → Type 0
IsOver TooLong inputs bytes =
    (rest : List ℕ) × GoesOn inputs bytes rest × (length inputs < LINES) × (LINE_BYTES < length rest) × IsUnbroken (take (LINE_BYTES + 1) rest)
IsOver TooMany inputs bytes = (rest : List ℕ) × GoesOn inputs bytes rest × (length inputs ≡ LINES) × (0 < length rest)
IsOver fault inputs bytes = ⊥

-- the lines run, and perhaps one in hand, are the first of a generated script, and no byte was taken from the source
abbrev pub AreFirstOf : ℕ → List (List ℕ) → List ℕ → Type 0
AreFirstOf number lines bytes = (lines ≡ take (length lines) (generated number)) × (bytes ≡ [])

-- lines are the first ones of a run's script: of the one that is read, or of a generated one
abbrev pub AreScript : Option ℕ → List (List ℕ) → List ℕ → Option (List ℕ) → Type 0
AreScript None lines bytes left = AreFirst lines bytes left
AreScript (Some number) lines bytes left = AreFirstOf number lines bytes

-- The op in hand was given up: the lines that were run have ended and are the first ones, and of the next one, which was to be run, a byte
-- was taken; a generated script has a next one. Or nothing was taken, where the reader of lines had no memory.
abbrev pub IsGivenUp : Option ℕ → List Input → List ℕ → Type 0
IsGivenUp None inputs bytes = ((rest : List ℕ) × GoesOn inputs bytes rest × (0 < length rest)) ⊎ ((inputs ≡ []) × (bytes ≡ []))
IsGivenUp (Some number) inputs bytes = AreFirstOf number (lines_in inputs) bytes × (length inputs < length (generated number))

-- lines are all of the script
abbrev pub AreAll : Option ℕ → List Input → List ℕ → Option (List ℕ) → Type 0
AreAll None inputs bytes left = AreInLimits (lines_in inputs) × (lines_of bytes ≡ lines_in inputs) × IsAtEnd left
AreAll (Some number) inputs bytes left = (lines_in inputs ≡ generated number) × (bytes ≡ [])

-- no line was refused
abbrev pub Ran : Mode → List Input → Type 0
Ran mode inputs = (run (opened mode) inputs).fault ≡ None

-- a line that is bad: it is no op, or its op was refused; it is the last of those that were run, and the first that is bad
pub record IsBad (mode : Mode) (fault : ScriptFault) (number : ℕ) (inputs : List Input) (bytes : List ℕ) (left : Option (List ℕ)) : Type 0 where
  pub others : List Input
  pub last : Input
  pub split : inputs ≡ others ++ last ∷ []
  pub ran : Ran mode others
  pub ended : (run (opened mode) inputs).fault ≡ Some fault
  pub at : number ≡ length inputs
  pub lines : AreScript mode.generated (lines_in inputs) bytes left

-- a line that is too long or one too many; a generated script has none
pub record IsPast (mode : Mode) (fault : ScriptFault) (number : ℕ) (inputs : List Input) (bytes : List ℕ) : Type 0 where
  pub ran : Ran mode inputs
  pub at : number ≡ length inputs + 1
  pub over : IsOver fault inputs bytes
  pub read : mode.generated ≡ None

-- no line was run and no byte was taken
abbrev pub IsNothing : List Input → List ℕ → Type 0
IsNothing inputs bytes = (inputs ≡ []) × (bytes ≡ [])

-- what holds where a status comes that is no write fault, in a run that has begun, for the lines that were run before and the bytes taken
-- from the source
abbrev pub ComesIn : Mode → Status → List Input → List ℕ → Drawn → Type 0
-- the script was run to its end, and each op was accepted
ComesIn mode Done inputs bytes source = Ran mode inputs × AreAll mode.generated inputs bytes source.left
ComesIn mode (BadScript number fault) inputs bytes source = IsBad mode fault number inputs bytes source.left ⊎ IsPast mode fault number inputs bytes
-- the source failed, and the lines that end with a newline among the bytes taken were run
ComesIn mode ReadFault inputs bytes source =
    Ran mode inputs × (mode.generated ≡ None) × Rose source.faults_before source.faults_after × ((rest : List ℕ) × GoesOn inputs bytes rest × IsBegun inputs rest)
ComesIn mode NoMemory inputs bytes source = Ran mode inputs × IsGivenUp mode.generated inputs bytes
ComesIn mode status inputs bytes source = ⊥

-- What holds where a status comes that is no write fault. A run begins where the words are those of the command and the data files were
-- read and are good; else no line is run.
abbrev pub Comes : Given → Option Mode → Status → List Input → List ℕ → Drawn → Type 0
Comes given None Usage inputs bytes source = (given.words ≡ None) × IsNothing inputs bytes
Comes given None (BadData file number kind) inputs bytes source = IsBadData given file number kind × IsNothing inputs bytes
Comes given None ReadFault inputs bytes source = FileFailed given × IsNothing inputs bytes
Comes given None NoMemory inputs bytes source = IsNothing inputs bytes
Comes given None status inputs bytes source = ⊥
Comes given (Some mode) status inputs bytes source = IsMode given mode × ComesIn mode status inputs bytes source

-- Which counts are as they were where a status comes, of those of the files and of the source: all, but that a read fault has one that
-- rose, of a file before the run began and of the source in it.
abbrev pub KeepsCounts : Given → Option Mode → Status → Drawn → Type 0
KeepsCounts given None ReadFault source = IsCalm source
KeepsCounts given (Some mode) ReadFault source = NoneFailed given
KeepsCounts given mode status source = NoneFailed given × IsCalm source

-- ---- what was written

-- what the lines that were run sent to the screen, and what they wrote to the report
abbrev pub sent_in : Option Mode → List Input → List ℕ
sent_in None inputs = []
sent_in (Some mode) inputs = (run (opened mode) inputs).sent

abbrev pub told_in : Option Mode → List Input → List ℕ
told_in None inputs = []
told_in (Some mode) inputs = (run (opened mode) inputs).told

-- the most elements that the lines that were run may place
abbrev pub allowed_in : Option Mode → List Input → ℕ
allowed_in None inputs = 0
allowed_in (Some mode) inputs = (run (opened mode) inputs).allowed

-- what the report says at the end of a generated script
abbrev pub summary : Standing → List ℕ
summary now = summary_lines now.lines now.shown (unwrap_or (length_of main_name now.session.state.buffers) 0) (selected_window now.session.state).anchor

abbrev pub done_of : Option ℕ → Standing → List ℕ
done_of None now = last_line Done now.lines
done_of (Some number) now = summary now

-- the last line of the report that a status gives
abbrev pub last_in : Option Mode → Status → List Input → List ℕ
last_in (Some mode) Done inputs = done_of mode.generated (run (opened mode) inputs).now
last_in mode status inputs = last_line status (length inputs)

-- All was written, and behind it the last line of the status; no sink failed. No more elements were placed than the redisplays of the
-- lines that were run may place.
pub record IsWhole (given : Given) (mode : Option Mode) (status : Status) (inputs : List Input) (bytes : List ℕ) (source : Drawn) (screen report : Sunk) (steps : Placed) : Type 0 where
  pub comes : Comes given mode status inputs bytes source
  pub calm : KeepsCounts given mode status source
  pub sent : Took screen (sent_in mode inputs)
  pub told : Took report (told_in mode inputs ++ last_in mode status inputs)
  pub spent : IsWithin steps (allowed_in mode inputs)

-- a redisplay is the line in hand, behind those that were run
pub record IsInHand (given : Given) (mode : Mode) (inputs : List Input) (line bytes : List ℕ) (left : Option (List ℕ)) : Type 0 where
  pub begun : IsMode given mode
  pub ran : Ran mode inputs
  pub lines : AreScript mode.generated (lines_in inputs ++ line ∷ []) bytes left
  pub shown : is_sent (outcome_at (run (opened mode) inputs) (input_of line false)) ≡ true

-- the report has `write fault`, or a front of it where the report failed too
abbrev pub TellsFault : Sunk → List ℕ → List Input → Type 0
TellsFault report told inputs =
    Took report (told ++ last_line WriteFault (length inputs)) ⊎ Broke report told (last_line WriteFault (length inputs))

-- The screen failed at an update, and no file and no source did. Its redisplay may have placed as many elements as it is allowed, beside
-- those of the lines before it.
pub record ScreenBroke (given : Given) (mode : Mode) (inputs : List Input) (line bytes : List ℕ) (source : Drawn) (screen report : Sunk) (steps : Placed) : Type 0 where
  pub hand : IsInHand given mode inputs line bytes source.left
  pub calm : NoneFailed given × IsCalm source
  pub sent : Broke screen (run (opened mode) inputs).sent (effect (run (opened mode) inputs).now (input_of line false)).sent
  pub told : TellsFault report (run (opened mode) inputs).told inputs
  pub spent : IsWithin steps (allowed_in (Some mode) (inputs ++ input_of line false ∷ []))

-- The report failed at the lines of a redisplay, whose update, where it found memory, was sent whole: the terminal shows it,
-- though the report does not say so whole. No other device failed. That of a generated script has lines of want of memory alone.
pub record ReportBroke (given : Given) (mode : Mode) (inputs : List Input) (t : Input) (bytes : List ℕ) (source : Drawn) (screen report : Sunk) (steps : Placed) : Type 0 where
  pub hand : IsInHand given mode inputs t.line bytes source.left
  pub calm : NoneFailed given × IsCalm source
  pub sent : Took screen ((run (opened mode) inputs).sent ++ (effect (run (opened mode) inputs).now t).sent)
  pub told : Broke report (run (opened mode) inputs).told (effect (run (opened mode) inputs).now t).told
  pub shows : ShowsEach (opened mode) (inputs ++ t ∷ [])
  pub tells : (mode.generated ≡ None) ⊎ (t.starved ≡ true)
  pub spent : IsWithin steps (allowed_in (Some mode) (inputs ++ t ∷ []))

-- the report failed at the last line of the status that would have come
pub record LastBroke (given : Given) (mode : Option Mode) (status : Status) (inputs : List Input) (bytes : List ℕ) (source : Drawn) (screen report : Sunk) (steps : Placed) : Type 0 where
  pub comes : Comes given mode status inputs bytes source
  pub calm : KeepsCounts given mode status source
  pub sent : Took screen (sent_in mode inputs)
  pub told : Broke report (told_in mode inputs) (last_in mode status inputs)
  pub spent : IsWithin steps (allowed_in mode inputs)

-- One of the writes broke, all before it are whole, and nothing was written behind it but `write fault`. Where no run has begun there
-- is no write but the last line.
abbrev pub IsBroken : Given → Option Mode → List Input → List ℕ → Drawn → Sunk → Sunk → Placed → Type 0
IsBroken given None inputs bytes source screen report steps = (status : Status) × LastBroke given None status inputs bytes source screen report steps
IsBroken given (Some mode) inputs bytes source screen report steps =
    ((line : List ℕ) × ScreenBroke given mode inputs line bytes source screen report steps)
    ⊎ (((t : Input) × ReportBroke given mode inputs t bytes source screen report steps)
    ⊎ ((status : Status) × LastBroke given (Some mode) status inputs bytes source screen report steps))

-- The run of these lines ended with this status: all was written, or the status is that of a write fault and a write broke.
abbrev pub Ended : Given → Option Mode → Status → List Input → List ℕ → Drawn → Sunk → Sunk → Placed → Type 0
Ended given mode status inputs bytes source screen report steps =
    IsWhole given mode status inputs bytes source screen report steps ⊎ ((status ≡ WriteFault) × IsBroken given mode inputs bytes source screen report steps)

-- behind each redisplay that was shown the terminal shows what the rules give from nothing
abbrev pub ShowsIn : Option Mode → List Input → Type 0
ShowsIn None inputs = Unit {0}
ShowsIn (Some mode) inputs = ShowsEach (opened mode) inputs

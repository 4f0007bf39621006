-- What a call of `play` promises: how the run ended, what the terminal shows, and what it cost.
use Rattle.std.specs.Prelude.{◌≡◌, ℕ, ◌⊎◌, List, Option, None, Some}
use Rattle.std.specs.Io.KnownBytes.{Consumes}
use Rattle.rd_io.specs.Devices.{Rose}
use Rattle.rd_run.specs.Ends.{Drawn, Ended, IsCalm, ShowsIn, Sunk, placed}
use Rattle.rd_run.specs.Given.{AreTold, Given, HasFailed, IsMode, NoneFailed, ReadsScript}
use Rattle.rd_run.specs.Runs.{Input, KnowsEach, Mode, opened}
use Rattle.rd_run.specs.Validity.{EndsWell, IsValidScript}
use Rattle.rd_run.specs.declared.status.Status.{Status}
use Rattle.rd_run.specs.declared.status.Status.TheVariants.{ReadFault, WriteFault}

-- behind each redisplay that was shown or stopped the terminal is not confused, and its cells are those of the current screen
abbrev pub KnowsIn : Option Mode → List Input → Type 0
KnowsIn None inputs = Unit {0}
KnowsIn (Some mode) inputs = KnowsEach (opened mode) inputs

-- Under valid words, over good files whose bytes are known, a run of these inputs over a script without a bad line, which is known
-- where it is read, ended done or for want of memory, unless a count rose.
abbrev pub Completes : Given → Status → List Input → Option (List ℕ) → Drawn → Sunk → Sunk → Type 0
Completes given result inputs before source screen report =
    (mode : Mode) (script : List ℕ) → IsMode given mode → AreTold given → (ReadsScript given → before ≡ Some script) → IsValidScript mode inputs script → ¬ HasFailed given
    → ¬ Rose source.faults_before source.faults_after → ¬ Rose screen.faults_before screen.faults_after → ¬ Rose report.faults_before report.faults_after → EndsWell result

-- A run under what is given ended with this status: for some lines that were run and bytes that were taken from the source, what was
-- written is theirs, and the counts of the steps before and behind it are no further apart than their redisplays allow; behind each
-- redisplay that was shown the terminal shows what the rules give from nothing, and behind each that was shown or stopped its cells are
-- those of the current screen; and over a script without a bad line it ended well.
abbrev pub Played : Given → Status → Option (List ℕ) → Drawn → Sunk → Sunk → ℕ → ℕ → Type 0
Played given result before source screen report from to = (mode : Option Mode) × (inputs : List Input) × (bytes : List ℕ) × Consumes before source.left bytes
    × Ended given mode result inputs bytes source screen report (placed from to) × ShowsIn mode inputs × KnowsIn mode inputs
    × Completes given result inputs before source screen report

-- a read fault is answered only where the count of the source rose, or that of a file which the words name
abbrev pub HasReadFault : Given → Status → Drawn → Type 0
HasReadFault given result source = result ≡ ReadFault → Rose source.faults_before source.faults_after ⊎ HasFailed given

-- the counts of both sinks are as they were
abbrev pub AreKept : Sunk → Sunk → Type 0
AreKept screen report = (screen.faults_after ≡ screen.faults_before) × (report.faults_after ≡ report.faults_before)

-- Which counts of faults rose, by the status: with a read fault that of the source or of a file which the words name, and no sink's;
-- with a write fault that of a sink; and with every other status none, so that each is as it was.
abbrev pub CountsFaults : Given → Status → Drawn → Sunk → Sunk → Type 0
CountsFaults given ReadFault source screen report =
    (Rose source.faults_before source.faults_after ⊎ HasFailed given) × AreKept screen report
CountsFaults given WriteFault source screen report =
    Rose screen.faults_before screen.faults_after ⊎ Rose report.faults_before report.faults_after
CountsFaults given status source screen report = NoneFailed given × IsCalm source × AreKept screen report

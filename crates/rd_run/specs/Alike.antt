-- What determines how a run ends.
use Rattle.std.specs.Prelude.{◌≡◌, ◌≢◌, ℕ, ◌-◌, ◌^◌, ◌<◌, ◌⊎◌, true, is_some, List, [], ◌∷◌, Option, None, Some}
use Rattle.std.specs.Io.KnownBytes.{Consumes}
use Rattle.rd_files.specs.DataFiles.{Named, told_or_empty}
use Rattle.rd_io.specs.Devices.{Rose}
use Rattle.rd_run.specs.Ends.{Drawn, IsCalm, Placed, Sunk, Took, Ended}
use Rattle.rd_run.specs.Given.{Given, AreTold, HasFailed, NoneFailed, ReadsScript, names_of}
use Rattle.rd_run.specs.Runs.{Input, Mode, World, opened, outcome_at, run_line}
use Rattle.rd_run.specs.declared.status.Status.{Status}
use Rattle.rd_run.specs.declared.status.Status.TheVariants.{NoMemory}
use Rattle.rd_words.specs.Words.{WordValues}

-- what is known of the files that are named is the same
abbrev pub AreToldAlike : (List ℕ → Option (List ℕ)) → (List ℕ → Option (List ℕ)) → Named → Type 0
AreToldAlike one other names = (one names.class_file ≡ other names.class_file) × (one names.mirror_file ≡ other names.mirror_file)
    × (told_or_empty one names.bracket_file ≡ told_or_empty other names.bracket_file)

-- two runs are given the same words, and what is known of the files that these name is the same
abbrev pub AreGivenAlike : Given → Given → Type 0
AreGivenAlike a b = (a.words ≡ b.words) × ((w : WordValues) → a.words ≡ Some w → AreToldAlike a.contents b.contents (names_of w))

-- an end of a run: how it began, its status, the lines that were run, the bytes taken from the source, what was done to each device, and
-- how many elements were placed
pub record End : Type 0 where
  pub given : Given
  pub mode : Option Mode
  pub status : Status
  pub inputs : List Input
  pub bytes : List ℕ
  pub source : Drawn
  pub screen : Sunk
  pub report : Sunk
  pub steps : Placed

-- a run over the bytes of this script, which are known where it is read, ended so; the bytes of the files that its words name are
-- known, and no device failed in it
pub record IsFaultless (script : List ℕ) (e : End) : Type 0 where
  pub taken : ReadsScript e.given → Consumes (Some script) e.source.left e.bytes
  pub ended : Ended e.given e.mode e.status e.inputs e.bytes e.source e.screen e.report e.steps
  pub files : AreTold e.given
  pub fetched : ¬ HasFailed e.given
  pub read : ¬ Rose e.source.faults_before e.source.faults_after
  pub sent : ¬ Rose e.screen.faults_before e.screen.faults_after
  pub told : ¬ Rose e.report.faults_before e.report.faults_after

-- a run over the bytes of a script as `IsFaultless` says it, in which no device failed, and that no want of memory ended
pub record IsUndisturbed (script : List ℕ) (e : End) : Type 0 where
  pub faultless : IsFaultless script e
  pub found : e.status ≢ NoMemory

-- a file failed: the count of a name rose
abbrev pub SomeFailed : Given → Type 0
SomeFailed given = (file : List ℕ) × (given.faults_before file < given.faults_after file)

-- a source failed: its count rose
abbrev pub SourceFailed : Drawn → Type 0
SourceFailed source = source.faults_before < source.faults_after

-- what two runs read answered alike: files failed in both or in none, and the source failed in both, behind the same bytes, or in none
pub record AreFedAlike (a b : End) : Type 0 where
  pub files : (NoneFailed a.given × NoneFailed b.given) ⊎ (SomeFailed a.given × SomeFailed b.given)
  pub source : (IsCalm a.source × IsCalm b.source) ⊎ (SourceFailed a.source × SourceFailed b.source × (a.bytes ≡ b.bytes))

-- a run over the bytes of a script as `IsFaultless` says it, in which no sink failed, but files or the source may have, whose counts were
-- below their last value before it; and that no want of memory ended
pub record IsFed (script : List ℕ) (e : End) : Type 0 where
  pub taken : ReadsScript e.given → Consumes (Some script) e.source.left e.bytes
  pub ended : Ended e.given e.mode e.status e.inputs e.bytes e.source e.screen e.report e.steps
  pub files : AreTold e.given
  pub low_files : (file : List ℕ) → e.given.faults_before file < 2 ^ 64 - 1
  pub low_source : e.source.faults_before < 2 ^ 64 - 1
  pub sent : ¬ Rose e.screen.faults_before e.screen.faults_after
  pub told : ¬ Rose e.report.faults_before e.report.faults_after
  pub found : e.status ≢ NoMemory

-- of the redisplays that both run from here the same find no memory
abbrev pub AreStarvedAlike : World → List Input → List Input → Type 0
AreStarvedAlike w [] us = Unit {0}
AreStarvedAlike w (t ∷ ts) [] = Unit {0}
AreStarvedAlike w (t ∷ ts) (u ∷ us) = (is_some (outcome_at w t) ≡ true → t.starved ≡ u.starved) × AreStarvedAlike (run_line w t) ts us

-- of the redisplays that two runs both run the same find no memory: from their beginning on, where they have begun
abbrev pub AreStarvedAlikeIn : Option Mode → List Input → List Input → Type 0
AreStarvedAlikeIn None ts us = Unit {0}
AreStarvedAlikeIn (Some mode) ts us = AreStarvedAlike (opened mode) ts us

-- two runs have one status, one stream of bytes on the screen, and one report
pub record AreAlike (a b : End) : Type 0 where
  pub status : a.status ≡ b.status
  pub screen : (bytes : List ℕ) × Took a.screen bytes × Took b.screen bytes
  pub report : (bytes : List ℕ) × Took a.report bytes × Took b.report bytes

-- Scripts without a fault, and how runs over them end.
use Rattle.std.specs.Prelude.{◌≡◌, ℕ, ◌⊎◌, List, Option, None, Some}
use Rattle.rd_generate.specs.Generated.{script as generated}
use Rattle.rd_io.specs.Lines.{lines_of}
use Rattle.rd_run.specs.Alike.{AreStarvedAlike}
use Rattle.rd_run.specs.Ends.{AreInLimits, Ran, lines_in}
use Rattle.rd_run.specs.Runs.{Input, Mode, opened}
use Rattle.rd_run.specs.declared.status.Status.{Status}
use Rattle.rd_run.specs.declared.status.Status.TheVariants.{Done, NoMemory}

-- the lines of a run's script, which is read from these bytes or generated
abbrev pub script_of : Option ℕ → List ℕ → List (List ℕ)
script_of None script = lines_of script
script_of (Some number) script = generated number

-- A script has no bad line, for a run that has run these inputs of it: no line of one that is read is too long or one too many, and
-- each op is accepted, where the redisplays that were run find memory as they did, and the others as may be.
pub record IsValidScript (mode : Mode) (ran : List Input) (script : List ℕ) : Type 0 where
  pub limits : mode.generated ≡ None → AreInLimits (lines_of script)
  pub all : List Input
  pub lines : lines_in all ≡ script_of mode.generated script
  pub alike : AreStarvedAlike (opened mode) ran all
  pub accepted : Ran mode all

-- a run ended well: it is done, or memory was wanting
abbrev pub EndsWell : Status → Type 0
EndsWell status = (status ≡ Done) ⊎ (status ≡ NoMemory)

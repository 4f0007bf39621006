-- What a run is given besides the script: the words of the command line, and the files that they name.
use Rattle.std.specs.Prelude.{◌≡◌, ℕ, ◌⊎◌, List, Option, None, Some, Ok, Err, IfSome, IsSome}
use Rattle.rd_files.specs.DataFiles.{FailedAt, FailedAtSome, GivesData, Named, StopsAtFailed}
use Rattle.rd_files.specs.declared.fault.DataFile.{DataFile}
use Rattle.rd_files.specs.declared.fault.DataKind.{DataKind}
use Rattle.rd_words.specs.Words.{WordValues}
use Rattle.rd_run.specs.Runs.{Mode}

-- what the words say, where they are those of the command; the bytes of files by their names, where they are known; and how often
-- the file of a name had and has failed
pub record Given : Type 0 where
  pub words : Option WordValues
  pub contents : List ℕ → Option (List ℕ)
  pub faults_before : List ℕ → ℕ
  pub faults_after : List ℕ → ℕ

abbrev pub names_of : WordValues → Named
names_of w = record { class_file = w.class_file; mirror_file = w.mirror_file; bracket_file = w.bracket_file }

-- the words ask for no generated script: the one that is given is read
abbrev pub ReadsScript : Given → Type 0
ReadsScript given = (w : WordValues) × (given.words ≡ Some w) × (w.generate ≡ None)

-- a run begins so: the words are those of the command, and the files that they name are good
pub record IsMode (given : Given) (mode : Mode) : Type 0 where
  pub words : WordValues
  pub said : given.words ≡ Some words
  pub files : GivesData given.contents (names_of words) (Ok mode.files)
  pub dumps : mode.dumps ≡ words.dumps
  pub generated : mode.generated ≡ words.generate

-- a file, a line of it and a kind are the first fault of the files that the words name
pub record IsBadData (given : Given) (file : DataFile) (number : ℕ) (kind : DataKind) : Type 0 where
  pub words : WordValues
  pub said : given.words ≡ Some words
  pub files : GivesData given.contents (names_of words) (Err (record { file = file; line = number; kind = kind }))

-- the first file that isn't read and good is one that failed
pub record FileFailed (given : Given) : Type 0 where
  pub words : WordValues
  pub said : given.words ≡ Some words
  pub failed : StopsAtFailed given.contents given.faults_before given.faults_after (names_of words)

-- a file that the words name failed
abbrev pub HasFailed : Given → Type 0
HasFailed given = (w : WordValues) × (given.words ≡ Some w) × (FailedAt given.faults_before given.faults_after w.class_file
    ⊎ (FailedAt given.faults_before given.faults_after w.mirror_file ⊎ FailedAtSome given.faults_before given.faults_after w.bracket_file))

-- no file failed: each count is as it was
abbrev pub NoneFailed : Given → Type 0
NoneFailed given = (file : List ℕ) → given.faults_after file ≡ given.faults_before file

-- the bytes of the files that the words name are known
abbrev pub AreTold : Given → Type 0
AreTold given = (w : WordValues) → given.words ≡ Some w
    → IsSome (given.contents w.class_file) × IsSome (given.contents w.mirror_file) × IfSome w.bracket_file (λ name. IsSome (given.contents name))

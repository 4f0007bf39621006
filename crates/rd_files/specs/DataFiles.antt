-- What the data files stand for, and the first of their faults.
use Rattle.std.specs.Prelude.{◌≡◌, ◌<◌, ◌≤◌, ◌^◌, ℕ, ◌⊎◌, Vec, List, [], length, nat_lt, if◌then◌else◌, Option, None, Some, IfSome, Result, Ok, Err}
use Rattle.std.specs.Borrow.{Bor}
use Rattle.std.specs.Global.{Global}
use Rattle.rd_base.specs.declared.limits.TheConstants.{FILE_BYTES}
use Rattle.rd_io.specs.Devices.{Rose}
use Rattle.rd_ucd.specs.declared.fault.UcdFault.{UcdFault}
use Rattle.rd_ucd.specs.declared.fault.UcdFault.TheVariants as ucd
use Rattle.rd_ucd.specs.declared.spans.Span.{Span}
use Rattle.rd_ucd.specs.declared.spans.Pair.{Pair}
use Rattle.rd_ucd.specs.declared.spans.BracketEntry.{BracketEntry}
use Rattle.rd_ucd.specs.ClassFile.{classes_of}
use Rattle.rd_ucd.specs.MirrorFile.{mirrors_of}
use Rattle.rd_ucd.specs.BracketFile.{brackets_of}
use Rattle.rd_ucd.specs.Data.{Data}
use Rattle.rd_ucd.specs.Results.{Answers}
use Rattle.rd_files.specs.declared.fault.BadFile.{BadFile}
use Rattle.rd_files.specs.declared.fault.DataFile.{DataFile}
use Rattle.rd_files.specs.declared.fault.DataFile.TheVariants.{ClassFile, MirrorFile, BracketFile}
use Rattle.rd_files.specs.declared.fault.DataFault.{DataFault}
use Rattle.rd_files.specs.declared.fault.DataFault.TheVariants.{Bad, Read, Memory}
use Rattle.rd_files.specs.declared.fault.DataKind.TheVariants as kind
use Rattle.rd_files.specs.declared.files.DataFiles.{DataFiles}

-- the number of the bad line
abbrev pub line_of : UcdFault → ℕ
line_of (ucd.BadLine n) = n
line_of (ucd.BadCode n) = n
line_of (ucd.BadClass n) = n
line_of (ucd.NotAscending n) = n
line_of (ucd.BadRange n) = n
line_of ucd.Memory = 0

abbrev pub bad : DataFile → UcdFault → BadFile
bad file fault = record { file = file; line = line_of fault; kind = kind.Bad fault }

abbrev pub too_large : DataFile → BadFile
too_large file = record { file = file; line = 0; kind = kind.TooLarge }

abbrev pub or_bad : {T : Type 0} → DataFile → Result T UcdFault → Result T BadFile
or_bad file (Ok values) = Ok values
or_bad file (Err fault) = Err (bad file fault)

-- what a file's bytes stand for, by what bytes of its form stand for
abbrev pub judged : {T : Type 0} → DataFile → (List ℕ → Result T UcdFault) → List ℕ → Result T BadFile
judged file form bytes = if nat_lt FILE_BYTES (length bytes) then Err (too_large file) else or_bad file (form bytes)

abbrev pub classes_in : List ℕ → Result (List Span) BadFile
classes_in bytes = judged ClassFile classes_of bytes

abbrev pub mirrors_in : List ℕ → Result (List Pair) BadFile
mirrors_in bytes = judged MirrorFile mirrors_of bytes

abbrev pub brackets_in : List ℕ → Result (List BracketEntry) BadFile
brackets_in bytes = judged BracketFile brackets_of bytes

abbrev pub whole : Result (List Span) BadFile → Result (List Pair) BadFile → Result (List BracketEntry) BadFile → Result Data BadFile
whole (Ok classes) (Ok mirrors) (Ok brackets) = Ok (record { classes = classes; mirrors = mirrors; brackets = brackets })
whole (Ok classes) (Ok mirrors) (Err fault) = Err fault
whole (Ok classes) (Err fault) brackets = Err fault
whole (Err fault) mirrors brackets = Err fault

-- what the bytes of the three files stand for, or the first fault: of the class file, else of the mirror file, else of the bracket file
abbrev pub data_of : List ℕ → List ℕ → List ℕ → Result Data BadFile
data_of classes mirrors brackets = whole (classes_in classes) (mirrors_in mirrors) (brackets_in brackets)

-- these are the bytes of a file, where they are known
abbrev pub AreBytes : List ℕ → Option (List ℕ) → Type 0
AreBytes bytes told = IfSome told (λ file. bytes ≡ file)

-- bytes that may be the file's have this answer
abbrev pub Gives : {T : Type 0} → (List ℕ → Result T BadFile) → Option (List ℕ) → Result T BadFile → Type 0
Gives form told answer = (bytes : List ℕ) × AreBytes bytes told × (form bytes ≡ answer)

abbrev pub IsGood : {T : Type 0} → (List ℕ → Result T BadFile) → Option (List ℕ) → Type 0
IsGood {T} form told = (values : T) × Gives form told (Ok values)

-- what reading one file answers, where `Failed` says that it failed in the call
abbrev pub ReadsFile : {T : Type 0} → (List ℕ → Result T BadFile) → Option (List ℕ) → Type 0 → Result T DataFault → Type 0
ReadsFile form told Failed (Ok values) = Gives form told (Ok values)
ReadsFile form told Failed (Err (Bad fault)) = Gives form told (Err fault)
ReadsFile form told Failed (Err Read) = Failed
ReadsFile form told Failed (Err Memory) = Unit {0}

-- bytes were read, which are not too many, or the file is too large, or it failed
abbrev pub ReadsBytes : DataFile → Option (List ℕ) → Type 0 → Result (Vec ℕ Global) DataFault → Type 0
ReadsBytes file told Failed (Ok bytes) = AreBytes bytes.items told × (length bytes.items ≤ FILE_BYTES)
ReadsBytes file told Failed (Err (Bad fault)) = (fault ≡ too_large file) × IfSome told (λ all. FILE_BYTES < length all)
ReadsBytes file told Failed (Err Read) = Failed
ReadsBytes file told Failed (Err Memory) = Unit {0}

-- the fault of the data files that a fault in this file's lines is
abbrev pub fault_of : DataFile → UcdFault → DataFault
fault_of file ucd.Memory = Memory
fault_of file fault = Bad (bad file fault)

-- what is answered of bytes that are lent is what their form says of them
abbrev pub Judges : {T : Type 0} → (List ℕ → Result T UcdFault) → (Bor (List ℕ) → Result T UcdFault → Type 0) → Type 0
Judges {T} form answers = (bytes : Bor (List ℕ)) (answer : Result T UcdFault) → answers bytes answer → Answers answer (form bytes.now)

-- the number of a bad line of a file is below 2 ^ 32
abbrev pub LinesFit : {T : Type 0} → (Bor (List ℕ) → Result T UcdFault → Type 0) → Type 0
LinesFit answers = (bytes : Bor (List ℕ)) (fault : UcdFault) → length bytes.now ≤ FILE_BYTES → answers bytes (Err fault) → line_of fault < 2 ^ 32

-- the bytes of the bracket file, where they are known: without one they are those of an empty file
abbrev pub told_or_empty : (List ℕ → Option (List ℕ)) → Option (List ℕ) → Option (List ℕ)
told_or_empty told None = Some []
told_or_empty told (Some name) = told name

-- the file of a name failed in the call
abbrev pub FailedAt : (List ℕ → ℕ) → (List ℕ → ℕ) → List ℕ → Type 0
FailedAt before after name = Rose (before name) (after name)

abbrev pub FailedAtSome : (List ℕ → ℕ) → (List ℕ → ℕ) → Option (List ℕ) → Type 0
FailedAtSome before after None = ⊥
FailedAtSome before after (Some name) = FailedAt before after name

-- the count of faults of a file is as it was, unless a file could not be read
abbrev pub Keeps : {T : Type 0} → Result T DataFault → ℕ → ℕ → Type 0
Keeps (Err Read) before after = Unit {0}
Keeps result before after = after ≡ before

-- the files that are named
pub record Named : Type 0 where
  pub class_file : List ℕ
  pub mirror_file : List ℕ
  pub bracket_file : Option (List ℕ)

-- the first file that isn't read and good is one that failed
abbrev pub StopsAtFailed : (List ℕ → Option (List ℕ)) → (List ℕ → ℕ) → (List ℕ → ℕ) → Named → Type 0
StopsAtFailed told before after names =
    FailedAt before after names.class_file
    ⊎ (IsGood classes_in (told names.class_file) × FailedAt before after names.mirror_file)
    ⊎ (IsGood classes_in (told names.class_file) × IsGood mirrors_in (told names.mirror_file) × FailedAtSome before after names.bracket_file)

-- bytes that may be those of the three files have this answer
abbrev pub GivesData : (List ℕ → Option (List ℕ)) → Named → Result Data BadFile → Type 0
GivesData told names answer = (classes mirrors brackets : List ℕ)
    × AreBytes classes (told names.class_file) × AreBytes mirrors (told names.mirror_file) × AreBytes brackets (told_or_empty told names.bracket_file)
    × (data_of classes mirrors brackets ≡ answer)

abbrev pub meaning : DataFiles → Data
meaning files = record { classes = files.classes; mirrors = files.mirrors; brackets = files.brackets }

-- what reading the three files answers: each is read and then judged before the next one is read
abbrev pub ReadsData : (List ℕ → Option (List ℕ)) → (List ℕ → ℕ) → (List ℕ → ℕ) → Named → Result DataFiles DataFault → Type 0
ReadsData told before after names (Ok files) = GivesData told names (Ok (meaning files))
ReadsData told before after names (Err (Bad fault)) = GivesData told names (Err fault)
ReadsData told before after names (Err Read) = StopsAtFailed told before after names
ReadsData told before after names (Err Memory) = Unit {0}

-- The opening of a session.
use Rattle.std.specs.Prelude.{◌≡◌, ℕ, bytes_eq, codes, if◌then◌else◌, List, [], Result, Ok, Err}
use Rattle.rd_files.specs.DataFiles.{meaning}
use Rattle.rd_files.specs.declared.fault.BadFile.{BadFile}
use Rattle.rd_files.specs.declared.fault.DataFile.{DataFile}
use Rattle.rd_files.specs.declared.fault.DataFile.TheVariants.{ClassFile, MirrorFile, BracketFile}
use Rattle.rd_files.specs.declared.fault.DataKind.{DataKind}
use Rattle.rd_files.specs.declared.fault.DataKind.TheVariants.{TooLarge, Bad as BadLines}
use Rattle.rd_files.specs.declared.files.DataFiles.{DataFiles}
use Rattle.rd_layout.specs.Sessions.{opened}
use Rattle.rd_ucd.specs.Data.{Data}
use Rattle.rd_ucd.specs.declared.fault.UcdFault.TheVariants as lines
use Rattle.rd_embed.specs.declared.embedded.Embedded.{Embedded}
use Rattle.rd_embed.specs.declared.ending.Ending.TheVariants.{Done}
use Rattle.rd_embed.specs.declared.opening.BadData.{BadData}
use Rattle.rd_embed.specs.declared.opening.OpenFault.{OpenFault}
use Rattle.rd_embed.specs.declared.opening.OpenFault.TheVariants.{Bad, Memory}

-- the number of a data file
abbrev pub file_number : DataFile → ℕ
file_number ClassFile = 0
file_number MirrorFile = 1
file_number BracketFile = 2

-- the number of what is wrong with a data file
abbrev pub kind_number : DataKind → ℕ
kind_number TooLarge = 6
kind_number (BadLines (lines.BadLine n)) = 1
kind_number (BadLines (lines.BadCode n)) = 2
kind_number (BadLines (lines.BadClass n)) = 3
kind_number (BadLines (lines.NotAscending n)) = 4
kind_number (BadLines (lines.BadRange n)) = 5
kind_number (BadLines lines.Memory) = 0

-- what is told of a bad data file
abbrev pub told_bad : BadFile → BadData
told_bad bad = record { file = file_number bad.file; line = bad.line; kind = kind_number bad.kind }

-- a session of which nothing is pending, over these data files
pub record IsOpened (files : Data) (e : Embedded) : Type 0 where
  pub session : e.session ≡ opened files
  pub pending : e.pending.bytes ≡ []
  pub ending : e.ending ≡ Done

-- what opening answers, where the bytes of the files stand for this: a session over it, its first fault, or want of memory
abbrev pub Opens : Result Embedded OpenFault → Result Data BadFile → Type 0
Opens (Ok e) said = (files : Data) × (said ≡ Ok files) × IsOpened files e
Opens (Err (Bad told)) said = (bad : BadFile) × (said ≡ Err bad) × (told ≡ told_bad bad)
Opens (Err Memory) said = Unit {0}

-- what reading the files answers
abbrev pub ReadsGiven : Result DataFiles OpenFault → Result Data BadFile → Type 0
ReadsGiven (Ok files) said = said ≡ Ok (meaning files)
ReadsGiven (Err (Bad told)) said = (bad : BadFile) × (said ≡ Err bad) × (told ≡ told_bad bad)
ReadsGiven (Err Memory) said = Unit {0}

-- the bytes of the file with a name
abbrev pub given_bytes : List ℕ → List ℕ → List ℕ → List ℕ → List ℕ
given_bytes classes mirrors brackets name =
    if bytes_eq name (codes "classes") then classes else (if bytes_eq name (codes "mirrors") then mirrors else brackets)

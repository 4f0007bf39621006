-- The lines of the report. Each ends with a newline.
use Rattle.std.specs.Prelude.{ℕ, List, [], ◌∷◌, ◌++◌, Option, None, Some, codes, decimal, flat_map}
use Rattle.rd_base.specs.Chars.{encoded}
use Rattle.rd_base.specs.declared.settings.Anchor.{Anchor}
use Rattle.rd_ucd.specs.declared.fault.UcdFault.{UcdFault}
use Rattle.rd_ucd.specs.declared.fault.UcdFault.TheVariants as ucd
use Rattle.rd_files.specs.declared.fault.DataFile.{DataFile}
use Rattle.rd_files.specs.declared.fault.DataFile.TheVariants.{ClassFile, MirrorFile, BracketFile}
use Rattle.rd_files.specs.declared.fault.DataKind.{DataKind}
use Rattle.rd_files.specs.declared.fault.DataKind.TheVariants as kinds
use Rattle.rd_script.specs.declared.fault.OpFault.{OpFault}
use Rattle.rd_script.specs.declared.fault.OpFault.TheVariants as ops
use Rattle.rd_state.specs.declared.refused.Refused.{Refused}
use Rattle.rd_state.specs.declared.refused.Refused.TheVariants as refusals
use Rattle.rd_run.specs.declared.status.ScriptFault.{ScriptFault}
use Rattle.rd_run.specs.declared.status.ScriptFault.TheVariants as faults
use Rattle.rd_run.specs.declared.status.Status.{Status}
use Rattle.rd_run.specs.declared.status.Status.TheVariants.{Done, Usage, BadData, BadScript, ReadFault, WriteFault, NoMemory}

-- the kind of a line that is no op
abbrev pub op_kind : OpFault → List ℕ
op_kind ops.NotJson = codes "NotJson"
op_kind ops.NotObject = codes "NotObject"
op_kind ops.NoSuchOp = codes "NoSuchOp"
op_kind (ops.Missing key) = codes "Missing"
op_kind (ops.BadField key) = codes "BadField"
op_kind (ops.Extra key) = codes "Extra"
op_kind ops.Memory = codes "Memory"

-- the kind of an op that was refused
abbrev pub refused_kind : Refused → List ℕ
refused_kind refusals.NoBuffer = codes "NoBuffer"
refused_kind refusals.NoWindow = codes "NoWindow"
refused_kind refusals.NoOverlay = codes "NoOverlay"
refused_kind refusals.NoObject = codes "NoObject"
refused_kind refusals.OutOfRange = codes "OutOfRange"
refused_kind refusals.NameTaken = codes "NameTaken"
refused_kind refusals.TextTooLarge = codes "TextTooLarge"
refused_kind refusals.ObjectTooLong = codes "ObjectTooLong"
refused_kind refusals.TooManyBuffers = codes "TooManyBuffers"
refused_kind refusals.TooManyWindows = codes "TooManyWindows"
refused_kind refusals.TooManyOverlays = codes "TooManyOverlays"
refused_kind refusals.TooManyObjects = codes "TooManyObjects"
refused_kind refusals.TooSmall = codes "TooSmall"
refused_kind refusals.LastWindow = codes "LastWindow"
refused_kind (refusals.BadFormat column) = codes "BadFormat"
refused_kind refusals.NotShown = codes "NotShown"
refused_kind refusals.Memory = codes "Memory"

abbrev pub kind_of : ScriptFault → List ℕ
kind_of faults.TooLong = codes "TooLong"
kind_of faults.TooMany = codes "TooMany"
kind_of (faults.Op fault) = op_kind fault
kind_of (faults.Refused refused) = refused_kind refused

-- the key that a fault names
abbrev pub op_key : OpFault → Option (List ℕ)
op_key (ops.Missing key) = Some key
op_key (ops.BadField key) = Some key
op_key (ops.Extra key) = Some key
op_key fault = None

-- a text in UTF-8; keys have scalar values alone
abbrev pub bytes_of : List ℕ → List ℕ
bytes_of text = flat_map encoded text

-- a space, and the key of a field
abbrev pub named_key : Option (List ℕ) → List ℕ
named_key None = []
named_key (Some key) = 32 ∷ bytes_of key

-- a space, and the column of a bad format
abbrev pub named_column : Refused → List ℕ
named_column (refusals.BadFormat column) = 32 ∷ decimal column
named_column refused = []

-- what stands behind the kind of a fault
abbrev pub behind_kind : ScriptFault → List ℕ
behind_kind (faults.Op fault) = named_key (op_key fault)
behind_kind (faults.Refused refused) = named_column refused
behind_kind fault = []

-- a redisplay was shown, with so many rows sent
abbrev pub shown_line : ℕ → ℕ → List ℕ
shown_line number rows = decimal number ++ (codes ": shown " ++ (decimal rows ++ codes " rows\n"))

-- a redisplay was stopped behind so many rows
abbrev pub stopped_line : ℕ → ℕ → List ℕ
stopped_line number rows = decimal number ++ (codes ": stopped " ++ (decimal rows ++ codes " rows\n"))

-- a redisplay found no memory
abbrev pub no_memory_line : ℕ → List ℕ
no_memory_line number = decimal number ++ codes ": no memory\n"

-- ---- the last line

-- the name of a data file
abbrev pub file_word : DataFile → List ℕ
file_word ClassFile = codes "data"
file_word MirrorFile = codes "mirror"
file_word BracketFile = codes "brackets"

-- the kind of a bad line of a data file
abbrev pub ucd_kind : UcdFault → List ℕ
ucd_kind (ucd.BadLine line) = codes "BadLine"
ucd_kind (ucd.BadCode line) = codes "BadCode"
ucd_kind (ucd.BadClass line) = codes "BadClass"
ucd_kind (ucd.NotAscending line) = codes "NotAscending"
ucd_kind (ucd.BadRange line) = codes "BadRange"
ucd_kind ucd.Memory = codes "Memory"

abbrev pub data_kind : DataKind → List ℕ
data_kind kinds.TooLarge = codes "TooLarge"
data_kind (kinds.Bad fault) = ucd_kind fault

-- where a fault stands, and its kind
abbrev pub located : List ℕ → ℕ → List ℕ → List ℕ
located word number kind = word ++ (58 ∷ (decimal number ++ (codes ": " ++ kind)))

abbrev pub usage_line : List ℕ
usage_line = codes "usage: redisplay --data FILE --mirror FILE [--brackets FILE] [--generate N] [--dump]\n"

-- the last line of a status, behind so many lines of the script
abbrev pub last_line : Status → ℕ → List ℕ
last_line Done lines = codes "done " ++ (decimal lines ++ codes " lines\n")
last_line Usage lines = usage_line
last_line (BadData file number kind) lines = located (file_word file) number (data_kind kind) ++ codes "\n"
last_line (BadScript number fault) lines = located (codes "script") number (kind_of fault) ++ (behind_kind fault ++ codes "\n")
last_line ReadFault lines = codes "read fault\n"
last_line WriteFault lines = codes "write fault\n"
last_line NoMemory lines = codes "no memory\n"

-- the lines in place of the last one, where a generated script was run to its end: how many lines were run and redisplays shown, how many
-- characters the first buffer has, and where the selected window starts
abbrev pub summary_lines : ℕ → ℕ → ℕ → Anchor → List ℕ
summary_lines lines shown characters start =
    codes "lines " ++ (decimal lines ++ (codes "\nredisplays " ++ (decimal shown ++ (codes "\ncharacters " ++ (decimal characters
    ++ (codes "\nstart " ++ (decimal start.pos ++ (46 ∷ (decimal start.row ++ codes "\n")))))))))

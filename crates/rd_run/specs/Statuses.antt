-- The exit statuses, and that none but its own has want of memory in it.
use Rattle.std.specs.Prelude.{◌≢◌, ℕ}
use Rattle.rd_files.specs.declared.fault.DataKind.TheVariants.{Bad}
use Rattle.rd_script.specs.declared.fault.OpFault.TheVariants as op_faults
use Rattle.rd_state.specs.declared.refused.Refused.TheVariants as refusals
use Rattle.rd_ucd.specs.declared.fault.UcdFault.TheVariants as ucd
use Rattle.rd_run.specs.declared.status.ScriptFault.TheVariants.{Op, Refused}
use Rattle.rd_run.specs.declared.status.Status.{Status}
use Rattle.rd_run.specs.declared.status.Status.TheVariants.{Done, Usage, BadData, BadScript, ReadFault, WriteFault, NoMemory}

abbrev pub code_of : Status → ℕ
code_of Done = 0
code_of Usage = 2
code_of (BadData file number kind) = 3
code_of (BadScript number fault) = 4
code_of ReadFault = 5
code_of WriteFault = 6
code_of NoMemory = 7

-- want of memory is no kind of a bad data file, nor of a line that is no op, nor of an op that is refused
abbrev pub TellsNoMemory : Status → Type 0
TellsNoMemory (BadData file number kind) = kind ≢ Bad ucd.Memory
TellsNoMemory (BadScript number fault) = (fault ≢ Op op_faults.Memory) × (fault ≢ Refused refusals.Memory)
TellsNoMemory status = Unit {0}

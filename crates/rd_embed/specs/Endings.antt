-- How an op, a line or a redisplay ended: its status, and the report's words for it.
use Rattle.std.specs.Prelude.{ℕ, List, [], ◌++◌, codes, Result, Ok, Err}
use Rattle.rd_run.specs.Reports.{named_column, named_key, op_key, op_kind, refused_kind}
use Rattle.rd_script.specs.declared.fault.OpFault.{OpFault}
use Rattle.rd_script.specs.declared.fault.OpFault.TheVariants as faults
use Rattle.rd_state.specs.declared.refused.Refused.{Refused}
use Rattle.rd_state.specs.declared.refused.Refused.TheVariants as refusals
use Rattle.rd_embed.specs.declared.ending.Ending.{Ending}
use Rattle.rd_embed.specs.declared.ending.Ending.TheVariants.{Done, Stopped, NoMemory, BadText, BadArgument, TooLong, NoOp, Refused as WasRefused}
use Rattle.rd_embed.specs.declared.status.Status.{Status}
use Rattle.rd_embed.specs.declared.status.Status.TheVariants as statuses

-- how an op ended that was refused
abbrev pub refusal : Refused → Ending
refusal refusals.Memory = NoMemory
refusal refused = WasRefused refused

-- how an op ended
abbrev pub ending_of : Result Unit Refused → Ending
ending_of (Ok _) = Done
ending_of (Err refused) = refusal refused

-- how a line ended that is no op
abbrev pub ending_of_fault : OpFault → Ending
ending_of_fault faults.Memory = NoMemory
ending_of_fault fault = NoOp fault

-- the status that tells why a line is no op
abbrev pub status_of_fault : OpFault → Status
status_of_fault faults.NotJson = statuses.NotJson
status_of_fault faults.NotObject = statuses.NotObject
status_of_fault faults.NoSuchOp = statuses.NoSuchOp
status_of_fault (faults.Missing key) = statuses.Missing
status_of_fault (faults.BadField key) = statuses.BadField
status_of_fault (faults.Extra key) = statuses.Extra
status_of_fault faults.Memory = statuses.NoMemory

-- the status that tells why an op was refused
abbrev pub status_of_refusal : Refused → Status
status_of_refusal refusals.NoBuffer = statuses.NoBuffer
status_of_refusal refusals.NoWindow = statuses.NoWindow
status_of_refusal refusals.NoOverlay = statuses.NoOverlay
status_of_refusal refusals.NoObject = statuses.NoObject
status_of_refusal refusals.OutOfRange = statuses.OutOfRange
status_of_refusal refusals.NameTaken = statuses.NameTaken
status_of_refusal refusals.TextTooLarge = statuses.TextTooLarge
status_of_refusal refusals.ObjectTooLong = statuses.ObjectTooLong
status_of_refusal refusals.TooManyBuffers = statuses.TooManyBuffers
status_of_refusal refusals.TooManyWindows = statuses.TooManyWindows
status_of_refusal refusals.TooManyOverlays = statuses.TooManyOverlays
status_of_refusal refusals.TooManyObjects = statuses.TooManyObjects
status_of_refusal refusals.TooSmall = statuses.TooSmall
status_of_refusal refusals.LastWindow = statuses.LastWindow
status_of_refusal (refusals.BadFormat column) = statuses.BadFormat
status_of_refusal refusals.NotShown = statuses.NotShown
status_of_refusal refusals.Memory = statuses.NoMemory

-- the status that tells how an op, a line or a redisplay ended
abbrev pub status_of : Ending → Status
status_of Done = statuses.Done
status_of Stopped = statuses.Stopped
status_of NoMemory = statuses.NoMemory
status_of BadText = statuses.BadText
status_of BadArgument = statuses.BadArgument
status_of TooLong = statuses.TooLong
status_of (NoOp fault) = status_of_fault fault
status_of (WasRefused refused) = status_of_refusal refused

-- the words for it: the report's where the report has it, and none where all was done
abbrev pub words_of : Ending → List ℕ
words_of Done = []
words_of Stopped = codes "stopped"
words_of NoMemory = codes "no memory"
words_of BadText = codes "BadText"
words_of BadArgument = codes "BadArgument"
words_of TooLong = codes "TooLong"
words_of (NoOp fault) = op_kind fault ++ named_key (op_key fault)
words_of (WasRefused refused) = refused_kind refused ++ named_column refused

-- The number of each status.
use Rattle.std.specs.Prelude.{ℕ}
use Rattle.rd_embed.specs.declared.status.Status.{Status}
use Rattle.rd_embed.specs.declared.status.Status.TheVariants as statuses

abbrev pub code_of : Status → ℕ
code_of statuses.Done = 0
code_of statuses.NotOpen = 1
code_of statuses.IsOpen = 2
code_of statuses.NoMemory = 3
code_of statuses.Stopped = 4
code_of statuses.BadData = 5
code_of statuses.NotThere = 6
code_of statuses.BadText = 7
code_of statuses.BadArgument = 8
code_of statuses.NotJson = 16
code_of statuses.NotObject = 17
code_of statuses.NoSuchOp = 18
code_of statuses.Missing = 19
code_of statuses.BadField = 20
code_of statuses.Extra = 21
code_of statuses.TooLong = 22
code_of statuses.NoBuffer = 32
code_of statuses.NoWindow = 33
code_of statuses.NoOverlay = 34
code_of statuses.NoObject = 35
code_of statuses.OutOfRange = 36
code_of statuses.NameTaken = 37
code_of statuses.TextTooLarge = 38
code_of statuses.ObjectTooLong = 39
code_of statuses.TooManyBuffers = 40
code_of statuses.TooManyWindows = 41
code_of statuses.TooManyOverlays = 42
code_of statuses.TooManyObjects = 43
code_of statuses.TooSmall = 44
code_of statuses.LastWindow = 45
code_of statuses.BadFormat = 46
code_of statuses.NotShown = 47

-- What a run of a script leaves for the auditor: a stream and a report.
use Rattle.std.specs.Prelude.{◌≡◌, ℕ, ◌≤◌, ◌⊎◌, true, false, if◌then◌else◌, List, [], ◌∷◌, ◌++◌, length, None, Some, IsSome}
use Rattle.rd_base.specs.declared.limits.TheConstants.{FILE_BYTES, STREAM_BYTES}
use Rattle.rd_io.specs.Lines.{IsUnbroken}
use Rattle.rd_layout.specs.Screens.{laid_out}
use Rattle.rd_run.specs.Alike.{End}
use Rattle.rd_run.specs.Ends.{IsWhole, LastBroke, ScreenBroke}
use Rattle.rd_run.specs.Reports.{behind_kind}
use Rattle.rd_run.specs.Runs.{Effect, Input, Mode, World, effect, is_sent, is_shown, opened, outcome_at, run, run_line}
use Rattle.rd_run.specs.declared.status.Status.{Status}
use Rattle.rd_run.specs.declared.status.Status.TheVariants.{BadScript}
use Rattle.rd_term.specs.Pictures.{Picture}

-- ---- the stream

-- the bytes since the last accepted frame behind one more line, before which these had come
abbrev pub since : List ℕ → Effect → List ℕ
since bytes e = (if e.fresh then [] else bytes) ++ e.sent

-- the bytes since the last accepted frame behind lines that are run in a world, before which these had come
abbrev pub since_frame : List ℕ → World → List Input → List ℕ
since_frame bytes w [] = bytes
since_frame bytes w (t ∷ ts) = since_frame (since bytes (effect w.now t)) (run_line w t) ts

-- what the lines of a run sent since the last accepted frame
abbrev pub recorded : Mode → List Input → List ℕ
recorded mode inputs = since_frame [] (opened mode) inputs

-- ---- the end

-- lines that leave the screen as it is: none of their redisplays is shown or stopped, and no frame is accepted
abbrev pub LeaveScreen : World → List Input → Type 0
LeaveScreen w [] = Unit {0}
LeaveScreen w (t ∷ ts) = (is_sent (outcome_at w t) ≡ false) × ((effect w.now t).fresh ≡ false) × LeaveScreen (run_line w t) ts

-- a redisplay is shown, and the lines behind it leave the screen
pub record EndsShown (w : World) (inputs : List Input) : Type 0 where
  pub before : List Input
  pub redisplay : Input
  pub behind : List Input
  pub split : inputs ≡ before ++ redisplay ∷ behind
  pub shown : is_shown (outcome_at (run w before) redisplay) ≡ true
  pub leave : LeaveScreen (run_line (run w before) redisplay) behind

-- ---- the last dump

-- lines of which no redisplay is shown
abbrev pub AreUnshown : World → List Input → Type 0
AreUnshown w [] = Unit {0}
AreUnshown w (t ∷ ts) = (is_shown (outcome_at w t) ≡ false) × AreUnshown (run_line w t) ts

-- a redisplay is shown, and none behind it is; some may be stopped, and frames accepted
pub record LastShown (w : World) (inputs : List Input) : Type 0 where
  pub before : List Input
  pub redisplay : Input
  pub behind : List Input
  pub split : inputs ≡ before ++ redisplay ∷ behind
  pub shown : is_shown (outcome_at (run w before) redisplay) ≡ true
  pub none : AreUnshown (run_line (run w before) redisplay) behind

-- the screen that a run reaches by the redisplay behind these lines: what the rules give from nothing
abbrev pub screen_behind : Mode → List Input → Picture
screen_behind mode before = (laid_out (run (opened mode) before).now.session.files (run (opened mode) before).now.session.state).picture

-- lines of which none is a frame that is accepted
abbrev pub HaveNoFrame : World → List Input → Type 0
HaveNoFrame w [] = Unit {0}
HaveNoFrame w (t ∷ ts) = ((effect w.now t).fresh ≡ false) × HaveNoFrame (run_line w t) ts

-- ---- runs that have ended

-- The last line of a status is one line. The key of a field that an op has too much stands in it as it was read, and may have newlines.
abbrev pub IsToldInOneLine : Status → Type 0
IsToldInOneLine (BadScript number fault) = IsUnbroken (behind_kind fault)
IsToldInOneLine status = Unit {0}

-- each line that was run was sent and told whole, and then the last line of a status, or a front of it, where the report broke there
abbrev pub IsSentWhole : End → Mode → Type 0
IsSentWhole e mode =
    (IsToldInOneLine e.status × IsWhole e.given (Some mode) e.status e.inputs e.bytes e.source e.screen e.report e.steps)
    ⊎ ((status : Status) × IsToldInOneLine status × LastBroke e.given (Some mode) status e.inputs e.bytes e.source e.screen e.report e.steps)

-- the same, or the screen broke at an update behind the lines that were run
abbrev pub IsToldWhole : End → Mode → Type 0
IsToldWhole e mode = IsSentWhole e mode ⊎ ((line : List ℕ) × ScreenBroke e.given mode e.inputs line e.bytes e.source e.screen e.report e.steps)

-- A run with dumps, of a script that is read, ended in any of these ways, and a redisplay of it was shown. The file is what its report
-- has, whose bytes are known; it is not longer than the auditor takes.
pub record IsReported (e : End) (mode : Mode) (file : List ℕ) : Type 0 where
  pub begun : e.mode ≡ Some mode
  pub dumps : mode.dumps ≡ true
  pub read : mode.generated ≡ None
  pub ended : IsToldWhole e mode
  pub last : LastShown (opened mode) e.inputs
  pub told : IsSome e.report.before
  pub contents : e.report.after ≡ Some file
  pub small : length file ≤ FILE_BYTES

-- A run with dumps, of a script that is read, ended with any status, but for writes that broke before its last line, and with a shown
-- redisplay. The stream is what it sent since the last accepted frame, and the file what its report has, whose bytes are known; neither
-- is longer than the auditor takes.
pub record IsRecording (e : End) (mode : Mode) (stream file : List ℕ) : Type 0 where
  pub begun : e.mode ≡ Some mode
  pub dumps : mode.dumps ≡ true
  pub read : mode.generated ≡ None
  pub ended : IsSentWhole e mode
  pub ends : EndsShown (opened mode) e.inputs
  pub sent : stream ≡ recorded mode e.inputs
  pub told : IsSome e.report.before
  pub contents : e.report.after ≡ Some file
  pub small : length file ≤ FILE_BYTES
  pub short : length stream ≤ STREAM_BYTES

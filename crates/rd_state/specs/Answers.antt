-- What the calls of a state answer, and what they leave.
use Rattle.std.specs.Prelude.{◌≡◌, ◌≢◌, Bool, true, false, is_some, Result, Ok, Err}
use Rattle.rd_text.specs.declared.fault.TextFault.{TextFault}
use Rattle.rd_text.specs.declared.fault.TextFault.TheVariants as faults
use Rattle.rd_overlays.specs.declared.fault.OverlayFault.{OverlayFault}
use Rattle.rd_overlays.specs.declared.fault.OverlayFault.TheVariants as overlay_faults
use Rattle.rd_modeline.specs.declared.fault.FormatFault.{FormatFault}
use Rattle.rd_modeline.specs.declared.fault.FormatFault.TheVariants as format_faults
use Rattle.rd_script.specs.declared.op.Op.{Op}
use Rattle.rd_script.specs.declared.op.Op.TheVariants.{Buffer, Insert, InsertRaw, TypeText, Put, Overlay as MakeOverlay, OverlayMove, AddString, AddSpec, AddFace, AddTable, Split, Redisplay, Go, Hit, MarginPut}
use Rattle.rd_state.specs.declared.effect.Effect.{Effect}
use Rattle.rd_state.specs.declared.refused.Refused.{Refused}
use Rattle.rd_state.specs.declared.refused.Refused.TheVariants.{NoOverlay, OutOfRange, TextTooLarge, TooManyOverlays, BadFormat, Memory}
use Rattle.rd_state.specs.States.{StateValue}
use Rattle.rd_state.specs.Steps.{step}
use Rattle.rd_state.specs.Effects.{effect_of}

-- an op other than those that have calls of their own: the one that shows the frame, and those that read what was shown
abbrev pub IsApplied : Op → Type 0
IsApplied (Redisplay stop) = ⊥
IsApplied (Go window right) = ⊥
IsApplied (Hit window row column) = ⊥
IsApplied op = Unit {0}

-- whether an op can take memory; every other op is never refused for want of it
abbrev pub takes_memory : Op → Bool
takes_memory (Buffer name) = true
takes_memory (Insert name place text) = true
takes_memory (InsertRaw name place bytes) = true
takes_memory (TypeText text) = true
takes_memory (Put name from to kind value) = true
takes_memory (MakeOverlay name from to priority front rear) = true
takes_memory (OverlayMove name overlay from to) = true
takes_memory (AddString text runs) = true
takes_memory (AddSpec spec) = true
takes_memory (AddFace face) = true
takes_memory (AddTable entries truncation continuation escape control ellipsis border) = true
takes_memory (Split window side size) = true
takes_memory (Redisplay stop) = true
takes_memory (Go window right) = true
takes_memory (MarginPut name overlay string) = is_some string
takes_memory op = false

-- what a fault of an edit of a text is for the op
abbrev pub refused_by : TextFault → Refused
refused_by faults.OutOfRange = OutOfRange
refused_by faults.TooLarge = TextTooLarge
refused_by faults.Memory = Memory

-- what a fault of an overlay is for the op
abbrev pub refused_overlay : OverlayFault → Refused
refused_overlay overlay_faults.NoOverlay = NoOverlay
refused_overlay overlay_faults.OutOfRange = OutOfRange
refused_overlay overlay_faults.TooMany = TooManyOverlays
refused_overlay overlay_faults.Memory = Memory

-- what a fault of a format is for the op
abbrev pub refused_format : FormatFault → Refused
refused_format (format_faults.BadFormat column) = BadFormat column
refused_format format_faults.Memory = Memory

-- What a call that changes one thing answers, where this is said of it: the thing that was said. A refusal is the one that was said or
-- want of memory, and leaves the thing as it was.
abbrev pub Answers : {X T : Type 0} → Result X Refused → Result T Refused → T → T → Type 0
Answers (Ok _) said old new = said ≡ Ok new
Answers (Err refused) said old new = (new ≡ old) × (refused ≢ Memory → said ≡ Err refused)

-- what the call that applies an op answers and leaves: the effect of the op, and the state to which the step leads; a refusal is the
-- step's or want of memory, and leaves the state as it was
abbrev pub Applies : Result Effect Refused → Op → StateValue → StateValue → Type 0
Applies (Ok effect) op old new = (step old op ≡ Ok new) × (effect ≡ effect_of old op)
Applies (Err refused) op old new = (new ≡ old) × (refused ≢ Memory → step old op ≡ Err refused)

-- what a search answers: what was found, of which this holds, or where this holds in its place the refusal
abbrev pub Finds : {X : Type 0} → Result X Refused → (X → Type 0) → Type 0 → Refused → Type 0
Finds (Ok x) Found Absent refusal = Found x
Finds (Err e) Found Absent refusal = Absent × (e ≡ refusal)

-- What contracts see in place of the fields of a buffer, and which numbers of ops have 32 bits.
use Rattle.std.specs.Prelude.{ℕ, ◌<◌, IfSome, if◌then◌else◌, min}
use Rattle.rd_base.specs.declared.limits.TheConstants.{STRINGS}
use Rattle.rd_objects.specs.Things.{is_inside}
use Rattle.rd_objects.specs.declared.run.Run.{Run}
use Rattle.rd_props.specs.Buffers as props
use Rattle.rd_props.specs.declared.state.BufferState.{BufferState}
use Rattle.rd_margins.specs.Marks.{MarkValues}
use Rattle.rd_script.specs.declared.object.OpRun.{OpRun}
use Rattle.rd_script.specs.declared.setting.Setting.{Setting}
use Rattle.rd_script.specs.declared.setting.Setting.TheVariants.{Table, LinePrefix, WrapPrefix}
use Rattle.rd_state.specs.Making.{object_run}
use Rattle.rd_state.specs.States.{ContentValue, values_on}

-- what a buffer with its margin strings holds
abbrev pub content_of : BufferState → MarkValues → ContentValue
content_of b marks = record {
  text = b.text;
  properties = values_on b.text (props.values_of b.spans);
  overlays = b.overlays;
  settings = b.settings;
  marks = marks;
}

-- a setting whose number has 32 bits
abbrev pub IsFitting : Setting → Type 0
IsFitting (Table number) = IfSome number (λ n. n < 4294967296)
IsFitting (LinePrefix number) = IfSome number (λ n. n < 4294967296)
IsFitting (WrapPrefix number) = IfSome number (λ n. n < 4294967296)
IsFitting setting = Unit {0}

-- a run in 32 bits: one that does not lie in a string of this length lies in none, and one of an object that was not made is of none
abbrev pub capped_run : ℕ → OpRun → Run
capped_run size run = record {
  from = if is_inside size (object_run run) then min run.from 4294967295 else 1;
  to = if is_inside size (object_run run) then min run.to 4294967295 else 0;
  kind = run.kind;
  value = min run.value STRINGS;
}

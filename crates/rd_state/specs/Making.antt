-- The objects that ops make.
use Rattle.std.specs.Prelude.{ℕ, List, map, option_map, Option, None, Some, Result, Ok, Err, length}
use Rattle.rd_base.specs.declared.limits.TheConstants.{FACES, TABLES}
use Rattle.rd_base.specs.Cells.{single}
use Rattle.rd_base.specs.Faces.{Attributes}
use Rattle.rd_base.specs.declared.cell.Glyph.{Glyph}
use Rattle.rd_objects.specs.Tables.{TableValue}
use Rattle.rd_objects.specs.Things.{ObjectLists, string_fault, spec_fault, full_fault, string_added, spec_added, face_added, table_added}
use Rattle.rd_objects.specs.Widths.{columns}
use Rattle.rd_objects.specs.declared.fault.ObjectFault.{ObjectFault}
use Rattle.rd_objects.specs.declared.fault.ObjectFault.TheVariants as faults
use Rattle.rd_objects.specs.declared.run.Run.{Run}
use Rattle.rd_objects.specs.declared.run.Spec.{Spec}
use Rattle.rd_objects.specs.declared.run.Spec.TheVariants.{Text, Width, Align}
use Rattle.rd_objects.specs.declared.table.TableEntry.{TableEntry}
use Rattle.rd_script.specs.declared.object.OpEntry.{OpEntry}
use Rattle.rd_script.specs.declared.object.OpRun.{OpRun}
use Rattle.rd_script.specs.declared.object.OpSpec.{OpSpec}
use Rattle.rd_script.specs.declared.object.OpSpec.TheVariants as ops
use Rattle.rd_state.specs.declared.refused.Refused.{Refused}
use Rattle.rd_state.specs.declared.refused.Refused.TheVariants.{NoObject, OutOfRange, ObjectTooLong, TooManyObjects, Memory}

-- what a fault of an object is for the op
abbrev pub refused_object : ObjectFault → Refused
refused_object faults.TooMany = TooManyObjects
refused_object faults.TooLong = ObjectTooLong
refused_object faults.NoObject = NoObject
refused_object faults.OutOfRange = OutOfRange
refused_object faults.Memory = Memory

-- the objects with one more, unless there is a fault
abbrev pub unless_fault : Option ObjectFault → ObjectLists → Result ObjectLists Refused
unless_fault None made = Ok made
unless_fault (Some fault) made = Err (refused_object fault)

abbrev pub object_run : OpRun → Run
object_run run = record { from = run.from; to = run.to; kind = run.kind; value = run.value }

abbrev pub string_making : ObjectLists → List ℕ → List OpRun → Result ObjectLists Refused
string_making o text runs = unless_fault (string_fault o text (map object_run runs)) (string_added o text (map object_run runs))

abbrev pub spec_of : OpSpec → Spec
spec_of (ops.Text n) = Text n
spec_of (ops.Width n) = Width n
spec_of (ops.Align n) = Align n

abbrev pub spec_making : ObjectLists → OpSpec → Result ObjectLists Refused
spec_making o spec = unless_fault (spec_fault o (spec_of spec)) (spec_added o (spec_of spec))

abbrev pub face_making : ObjectLists → Attributes → Result ObjectLists Refused
face_making o face = unless_fault (full_fault FACES (length o.faces)) (face_added o face)

-- a glyph character in its own columns
abbrev pub glyph_of : ℕ → Glyph
glyph_of c = single c (columns c)

abbrev pub table_entry : OpEntry → TableEntry
table_entry entry = record { code = entry.code; text = map glyph_of entry.text }

abbrev pub table_making : ObjectLists → TableValue → Result ObjectLists Refused
table_making o table = unless_fault (full_fault TABLES (length o.tables)) (table_added o table)

abbrev pub table_of : List OpEntry → Option ℕ → Option ℕ → Option ℕ → Option ℕ → Option (List ℕ) → Option ℕ → TableValue
table_of entries truncation continuation escape control ellipsis border = record {
  entries = map table_entry entries;
  truncation = option_map glyph_of truncation;
  continuation = option_map glyph_of continuation;
  escape = option_map glyph_of escape;
  control = option_map glyph_of control;
  border = option_map glyph_of border;
  ellipsis = option_map (map glyph_of) ellipsis;
}

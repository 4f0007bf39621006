use Rattle.std.proofs.Common.{refl}
use Rattle.std.specs.Prelude.{codes, []}
use Rattle.rd_base.specs.declared.limits.TheConstants.{TABLE_ENTRIES}
use Rattle.rd_script.specs.declared.name.ObjectOp.TheVariants as objects
use Rattle.rd_script.specs.declared.op.Op.TheVariants as ops
use Rattle.rd_script.specs.Fields.{list_of, optional, defaulted, both}
use Rattle.rd_script.specs.Objects.{entry_form, glyph_text, slot_field}
use Rattle.rd_script.specs.Table.{object_row}
use Rattle.rd_script.proofs.Taking.{Left, all-left, taken, last-taken, first-refused, last-refused}
use Rattle.rd_script.proofs.object_row.read_table.Goals as goal
use Rattle.rd_script.proofs.object_row.read_table.Goals.{In_ok-slot-3}

-- what is left of a display table's fields behind its slot for escapes
left : (c : goal.In_ok-slot-3) → Left (object_row objects.Table) c.args.asked.now c.slot-3.new.asked
    (both (slot_field (codes "control")) (both (optional (codes "ellipsis") glyph_text) (slot_field (codes "border"))))
    (λ f. ops.AddTable c.in_ok-some_items.field-0 c.in_ok-slot.field-0 c.in_ok-slot-2.field-0 c.in_ok-slot-3.field-0 f.0 f.1.0 f.1.1)
left c =
    taken _ _ (taken _ _ (taken _ _ (taken _ _ (all-left (object_row objects.Table) c.args.asked.now _ _ refl)
    c.in_ok-some_items.ensures) c.in_ok-slot.ensures) c.in_ok-slot-2.ensures) c.in_ok-slot-3.ensures

pub returns-in_err-slot : goal.returns-in_err-slot
returns-in_err-slot c =
    let behind = taken (defaulted [] (codes "entries") (list_of TABLE_ENTRIES entry_form)) _ (all-left (object_row objects.Table) c.args.asked.now _ _ refl) c.in_ok-some_items.ensures in
    first-refused (slot_field (codes "truncation")) _ _ _ _ c.from_residual-in_err-slot.ensures.1 behind c.in_err-slot.ensures

pub returns-in_err-slot-4 : goal.returns-in_err-slot-4
returns-in_err-slot-4 c =
    first-refused (slot_field (codes "control")) _ _ _ _ c.from_residual-in_err-slot-4.ensures.1 (left (goal.at.returns-in_err-slot-4 c).In_ok-slot-3) c.in_err-slot-4.ensures

pub returns-in_err-optional : goal.returns-in_err-optional
returns-in_err-optional c =
    let behind = taken (slot_field (codes "control")) _ (left (goal.at.returns-in_err-optional c).In_ok-slot-3) c.in_ok-slot-4.ensures in
    first-refused (optional (codes "ellipsis") glyph_text) _ _ _ _ c.from_residual-in_err-optional.ensures.1 behind c.in_err-optional.ensures

pub returns-in_err-slot-5 : goal.returns-in_err-slot-5
returns-in_err-slot-5 c =
    let behind = taken (slot_field (codes "control")) _ (left (goal.at.returns-in_err-slot-5 c).In_ok-slot-3) c.in_ok-slot-4.ensures in
    last-refused _ _ _ c.from_residual-in_err-slot-5.ensures.1 (taken (optional (codes "ellipsis") glyph_text) _ behind c.in_ok-optional.ensures) c.in_err-slot-5.ensures

pub returns : goal.returns
returns c =
    let behind = taken (slot_field (codes "control")) _ (left (goal.at.returns c).In_ok-slot-3) c.in_ok-slot-4.ensures in
    last-taken (taken (optional (codes "ellipsis") glyph_text) _ behind c.in_ok-optional.ensures) c.in_ok-slot-5.ensures

-- The marks of rows that are cut or go on are glyphs of one column.
use Rattle.std.proofs.Common.{ℕ, IfSome, arith}
use Rattle.std.specs.Prelude.{◌==◌, if◌then◌else◌}
use Rattle.std.proofs.lemmas.Bool.Decides.{nat_tests}
use Rattle.rd_objects.specs.Tables.{IsTable}
use Rattle.rd_objects.specs.declared.run.Slot.TheVariants.{Truncation, Continuation}
use Rattle.rd_glyphs.proofs.Measures.{slot_or-is}
use Rattle.rd_items.specs.Pieces.{Scene}
use Rattle.rd_rows.specs.Whole.{IsMark}
use Rattle.rd_blocks.specs.Rows.{truncation_mark, continuation_mark}

pub truncation-is : (scene : Scene) → IfSome scene.parts.table (λ t. IsTable t) → IsMark (truncation_mark scene)
truncation-is scene sound =
    let is = slot_or-is Truncation scene.parts.table 36 sound (omega arith) (omega arith) in
    record { measured = is.measured; columns = is.width }

pub continuation-is : (scene : Scene) (base : ℕ) → IfSome scene.parts.table (λ t. IsTable t) → IsMark (continuation_mark scene base)
continuation-is scene base sound =
    let is = slot_or-is Continuation scene.parts.table (if base == 1 then 47 else 92) sound (grind (arith, nat_tests)) (grind (arith, nat_tests)) in
    record { measured = is.measured; columns = is.width }

-- What is erased keeps its size, and a row that was filled whole is cleared.
use Rattle.std.proofs.Common.{◌≡◌, ℕ, ◌+◌, ◌-◌, ◌≤◌, List, [], ◌++◌, length, take, drop, replicate, Option, Some, ap, arith, drop_of_length-le, le_refl, append-nil}
use Rattle.std.proofs.lemmas.List.{length-replicate}
use Rattle.rd_base.specs.declared.cell.Cell.{Cell}
use Rattle.rd_term.specs.Pictures.{blank}
use Rattle.rd_term.specs.Overwriting.{later_columns}
use Rattle.rd_term.specs.Shifts.{cleared}
use Rattle.rd_term.specs.Terminals.{erased_from}
use Rattle.rd_term.proofs.Cutting.{length-overwritten}

pub length-erased : (column : ℕ) (row : List (Option Cell)) → column ≤ length row → length (erased_from column row) ≡ length row
length-erased column row le =
    let n : column + length (replicate (length row - column) (Some blank)) ≡ length row = omega (arith, length-replicate (length row - column) (Some blank)) in
    let none : later_columns (drop (length row) row) ≡ 0 = ap later_columns (drop_of_length-le row (le_refl (length row))) in
    length-overwritten row (replicate (length row - column) (Some blank)) column (length row) n (omega arith)

-- a row that was filled from its beginning to its end
pub filled-whole : (row : List (Option Cell)) (end : ℕ) → end ≡ length row → take 0 row ++ (replicate (end - 0) (Some blank) ++ drop end row) ≡ cleared row
filled-whole row end e =
    let gone : drop end row ≡ [] = drop_of_length-le row (omega (arith, e)) in
    let n : end - 0 ≡ length row = omega (arith, e) in
    rw (gone, n) (append-nil (replicate (length row) (Some blank)))

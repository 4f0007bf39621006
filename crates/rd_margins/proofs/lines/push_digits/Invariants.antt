use Rattle.std.proofs.Common.{◌≡◌, ◌++◌, ◌-◌, length, take, map}
use Rattle.rd_base.specs.Faces.{plain}
use Rattle.rd_base.specs.Glyphs.{blanks}
use Rattle.rd_margins.specs.Cells.{sign}
use Rattle.rd_margins.proofs.lines.push_digits.Given as goal

abbrev pub invariant-loop-digit : goal.invariant-loop-digit
invariant-loop-digit l =
    l.cells ≡ l.fn.cells ++ (blanks (l.columns - length l.digits) plain ++ map sign (take l.digit-index l.digits))

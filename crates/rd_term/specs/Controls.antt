-- The control functions of ECMA-48 that the terminal obeys, and the VT100's for the region, by the last bytes of their sequences.
use Rattle.std.specs.Prelude.{ℕ, ◌==◌, if◌then◌else◌, Option, None, Some}
use Rattle.rd_term.specs.declared.control.Control.{Control}
use Rattle.rd_term.specs.declared.control.Control.TheVariants.{MoveTo, ClearAll, EraseToEnd, InsertRows, DeleteRows, ChangePen, SetRegion}

-- `H`, `J`, `K`, `L`, `M`, `m` and `r`
abbrev pub control_of : ℕ → Option Control
control_of byte =
    if byte == 72 then Some MoveTo
    else if byte == 74 then Some ClearAll
    else if byte == 75 then Some EraseToEnd
    else if byte == 76 then Some InsertRows
    else if byte == 77 then Some DeleteRows
    else if byte == 109 then Some ChangePen
    else if byte == 114 then Some SetRegion
    else None

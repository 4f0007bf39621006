-- What reading a file answers, and values put before those of a result.
use Rattle.std.specs.Prelude.{◌≡◌, List, ◌++◌, Result, Ok, Err}
use Rattle.rd_ucd.specs.declared.fault.UcdFault.{UcdFault}
use Rattle.rd_ucd.specs.declared.fault.UcdFault.TheVariants.{Memory}

-- a result with these values before its own; a fault stays
abbrev pub behind : {T E : Type 0} → List T → Result (List T) E → Result (List T) E
behind values (Ok more) = Ok (values ++ more)
behind values (Err fault) = Err fault

-- an answer is the right one, want of memory aside
abbrev pub Answers : {T : Type 0} → Result T UcdFault → Result T UcdFault → Type 0
Answers (Ok value) right = right ≡ Ok value
Answers (Err Memory) right = Unit {0}
Answers (Err fault) right = right ≡ Err fault

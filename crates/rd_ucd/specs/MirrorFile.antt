-- The mirror file: lines in the form of `BidiMirroring.txt`.
use Rattle.std.specs.Prelude.{ℕ, List, Result, Ok, Err}
use Rattle.rd_ucd.specs.declared.fault.UcdFault.{UcdFault}
use Rattle.rd_ucd.specs.declared.listing.Codes.{Codes}
use Rattle.rd_ucd.specs.declared.spans.Pair.{Pair}
use Rattle.rd_ucd.specs.ListFile.{codes_of, listed_in}

abbrev pub pair_by : Result Codes UcdFault → Result Pair UcdFault
pair_by (Ok both) = Ok (record { code = both.code; mirror = both.other })
pair_by (Err fault) = Err fault

-- the pair of line n, by its two fields: a code and that of the mirrored character
abbrev pub pair_of : ℕ → List (List ℕ) → Result Pair UcdFault
pair_of n fields = pair_by (codes_of 2 n fields)

-- the pairs that a mirror file stands for, or its first fault
abbrev pub mirrors_of : List ℕ → Result (List Pair) UcdFault
mirrors_of bytes = listed_in (λ pair. pair.code) pair_of bytes

-- The bracket file: lines in the form of `BidiBrackets.txt`.
use Rattle.std.specs.Prelude.{ℕ, if◌then◌else◌, List, Option, None, Some, Result, Ok, Err, codes}
use Rattle.std.specs.Str.{bytes_eq}
use Rattle.rd_ucd.specs.declared.fault.UcdFault.{UcdFault}
use Rattle.rd_ucd.specs.declared.fault.UcdFault.TheVariants.{BadClass}
use Rattle.rd_ucd.specs.declared.listing.Codes.{Codes}
use Rattle.rd_ucd.specs.declared.spans.Bracket.{Bracket}
use Rattle.rd_ucd.specs.declared.spans.Bracket.TheVariants.{Opens, Closes}
use Rattle.rd_ucd.specs.declared.spans.BracketEntry.{BracketEntry}
use Rattle.rd_ucd.specs.ListFile.{codes_of, trimmed_field, listed_in}

-- what the third field says of a bracket with this partner: `o` opens, `c` closes
abbrev pub bracket_named : ℕ → List ℕ → Option Bracket
bracket_named partner name =
    if bytes_eq name (codes "o") then Some (Opens partner) else (if bytes_eq name (codes "c") then Some (Closes partner) else None)

abbrev pub bracket_by : ℕ → ℕ → Option Bracket → Result BracketEntry UcdFault
bracket_by n code None = Err (BadClass n)
bracket_by n code (Some bracket) = Ok (record { code = code; bracket = bracket })

abbrev pub bracket_with : ℕ → Result Codes UcdFault → List ℕ → Result BracketEntry UcdFault
bracket_with n (Ok both) name = bracket_by n both.code (bracket_named both.other name)
bracket_with n (Err fault) name = Err fault

-- the bracket of line n, by its three fields: its code, that of its partner, and whether it opens or closes
abbrev pub bracket_of : ℕ → List (List ℕ) → Result BracketEntry UcdFault
bracket_of n fields = bracket_with n (codes_of 3 n fields) (trimmed_field fields 2)

-- the brackets that a bracket file stands for, or its first fault
abbrev pub brackets_of : List ℕ → Result (List BracketEntry) UcdFault
brackets_of bytes = listed_in (λ entry. entry.code) bracket_of bytes

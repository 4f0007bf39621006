-- Brackets on which the definitions are worked out.
use Rattle.std.specs.Prelude.{ℕ, List, [], ◌∷◌}
use Rattle.rd_ucd.specs.declared.spans.Bracket.TheVariants.{Opens, Closes}
use Rattle.rd_ucd.specs.declared.spans.BracketEntry.{BracketEntry}
use Rattle.rd_brackets.specs.declared.matching.Pair.{Pair}

-- round, square and angle brackets
abbrev pub some_brackets : List BracketEntry
some_brackets =
    record { code = 40; bracket = Opens 41 } ∷ record { code = 41; bracket = Closes 40 }
    ∷ record { code = 91; bracket = Opens 93 } ∷ record { code = 93; bracket = Closes 91 }
    ∷ record { code = 12296; bracket = Opens 12297 } ∷ record { code = 12297; bracket = Closes 12296 } ∷ []

abbrev pub pair : ℕ → ℕ → Pair
pair opening closing = record { opening = opening; closing = closing }

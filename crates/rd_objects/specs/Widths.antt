-- The columns of characters.
use Rattle.std.specs.Prelude.{ℕ, unwrap_or}
use Rattle.rd_base.specs.Chars.{columns_of}

-- the columns of a scalar value in a terminal; 0 for a mark, and for a number that is no scalar value
abbrev pub columns : ℕ → ℕ
columns code = unwrap_or (columns_of code) 0

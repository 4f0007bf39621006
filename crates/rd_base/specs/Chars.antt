-- The codes of characters: scalar values of Unicode, and raw bytes behind them.
use Rattle.std.specs.Prelude.{ℕ, ◌+◌, Bool, false, nat_lt, nat_le, ◌&&◌, ◌||◌, if◌then◌else◌, List, [], Option, None}
use Rattle.std.specs.Char.{encode_utf8}
use Rattle.unicode_width.specs.Width.{char_width}
use Rattle.rd_base.specs.Lists.{is_between}
use Rattle.rd_base.specs.declared.limits.TheConstants.{CODE_POINTS}

-- a scalar value: a code point that is no surrogate
abbrev pub is_scalar : ℕ → Bool
is_scalar n = nat_lt n CODE_POINTS && (nat_lt n 55296 || nat_le 57344 n)

-- the code of a raw byte: raw bytes are counted from the first number that is no code point
abbrev pub raw_code : ℕ → ℕ
raw_code byte = CODE_POINTS + byte

-- a raw byte of 128 to 255
abbrev pub is_raw : ℕ → Bool
is_raw n = is_between (raw_code 128) (raw_code 256) n

abbrev pub is_code : ℕ → Bool
is_code n = is_scalar n || is_raw n

-- a scalar value in UTF-8, and nothing for any other code
abbrev pub encoded : ℕ → List ℕ
encoded code = if is_scalar code then encode_utf8 code else []

-- the columns of a scalar value in a terminal, by Unicode's widths with ambiguous characters narrow; None for a control
abbrev pub columns_of : ℕ → Option ℕ
columns_of code = if is_scalar code then char_width false code else None

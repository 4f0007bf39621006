-- Characters in UTF-8, byte by byte (the Unicode Standard, table 3-7).
use Rattle.std.specs.Prelude.{ℕ, ◌+◌, ◌-◌, ◌*◌, ◌%◌, ◌<◌, ◌≤◌, ◌==◌, if◌then◌else◌, Option, None, Some}
use Rattle.std.specs.Int.{is_in_range}

-- the bits so far, how many bytes are still due, and the least and the greatest that the next of them may be
pub record CharacterRead : Type 0 where
  pub bits : ℕ
  pub due : ℕ
  pub low : ℕ
  pub high : ℕ

abbrev pub read : ℕ → ℕ → ℕ → ℕ → Option CharacterRead
read bits due low high = Some (record { bits = bits; due = due; low = low; high = high })

-- the first byte of a character of two to four bytes, and None where no character begins with it
abbrev pub begun : ℕ → Option CharacterRead
begun byte =
    if is_in_range 194 223 byte then read (byte - 192) 1 128 191
    else if byte == 224 then read 0 2 160 191
    else if byte == 237 then read 13 2 128 159
    else if is_in_range 225 239 byte then read (byte - 224) 2 128 191
    else if byte == 240 then read 0 3 144 191
    else if is_in_range 241 243 byte then read (byte - 240) 3 128 191
    else if byte == 244 then read 4 3 128 143
    else None

-- the bits of a character that is being read, with those of one more byte
abbrev pub with_bits : CharacterRead → ℕ → ℕ
with_bits c byte = 64 * c.bits + byte % 64

-- what is read after one more byte that was not the last
abbrev pub continued : CharacterRead → ℕ → CharacterRead
continued c byte = record { bits = with_bits c byte; due = c.due - 1; low = 128; high = 191 }

-- the bits that were read leave room for those that are due
pub record HasBits (c : CharacterRead) : Type 0 where
  pub one : c.bits < 32768
  pub two : 2 ≤ c.due → c.bits < 512
  pub three : 3 ≤ c.due → c.bits < 8
  pub most : c.due ≤ 3

-- Parts of a text that lie together in memory, and what searches by them find.
use Rattle.std.specs.Prelude.{◌≡◌, ℕ, ◌+◌, ◌-◌, ◌<◌, ◌≤◌, Bool, true, false, Option, IfSome, List, length, slice_index, slice_range}
use Rattle.rd_text.specs.declared.gap.TheConstants.{STRETCH}
use Rattle.rd_text.specs.Texts.{is_newline, is_ink}
use Rattle.rd_text.specs.Stretches.{summary, opens, separated}
use Rattle.rd_text.specs.declared.stretch.Stretch.{Stretch}
use Rattle.rd_text.specs.declared.lines.Sought.{Sought}
use Rattle.rd_text.specs.declared.lines.Sought.TheVariants.{Newline, Ink}

-- a part of a stretch at most, and what is kept of it, where it is a whole stretch
pub record IsPiece (codes : List ℕ) (known : Option Stretch) : Type 0 where
  pub known_right : IfSome known (λ s. s ≡ summary codes)
  pub short : length codes ≤ STRETCH

-- a part of the text around a place, within a range
pub record IsPart (text : List ℕ) (at from to : ℕ) (piece : List ℕ) : Type 0 where
  pub start : ℕ
  pub first : from ≤ start
  pub before : start ≤ at
  pub behind : at < start + length piece
  pub last : start + length piece ≤ to
  pub same : piece ≡ slice_range text start (start + length piece)

-- whether a character is what a search looks for
abbrev pub is_sought : Sought → ℕ → Bool
is_sought Newline c = is_newline c
is_sought Ink c = is_ink c

-- where a search back along lines stops: no line of blanks alone lies behind it between two newlines, and before it stands
-- a newline with such a line behind it, or it is where the search ends
pub record IsOpening (text : List ℕ) (from to at : ℕ) : Type 0 where
  pub first : from ≤ at
  pub last : at ≤ to
  pub clear : separated (slice_range text at to) ≡ false
  pub newline : from < at → is_newline (slice_index text (at - 1)) ≡ true
  pub begins : from < at → opens (slice_range text at to) ≡ true

-- The text of a buffer with its accessible range, and how edits change it. Positions count from 1.
use Rattle.std.specs.Prelude.{◌≡◌, ℕ, ◌+◌, ◌-◌, ◌<◌, ◌≤◌, ◌⊎◌, nat_le, ◌==◌, Bool, true, not, ◌||◌, if◌then◌else◌, Option, None, List, [], ◌++◌, length, take, drop, slice_get, slice_index, slice_range}
use Rattle.std.specs.List.{count_by, list_all, position_or_len, suffix_len}
pub use Rattle.std.specs.Char.{is_newline}
use Rattle.rd_base.specs.declared.limits.TheConstants.{TEXT_CHARACTERS}

-- the characters by their codes, the first accessible position, and one past the last
pub record TextValue : Type 0 where
  pub text : List ℕ
  pub begin : ℕ
  pub end : ℕ

-- the accessible range lies in the text, and the text is not too long
pub record IsText (t : TextValue) : Type 0 where
  pub first : 1 ≤ t.begin
  pub ordered : t.begin ≤ t.end
  pub last : t.end ≤ length t.text + 1
  pub short : length t.text ≤ TEXT_CHARACTERS

abbrev pub no_text : TextValue
no_text = record { text = []; begin = 1; end = 1 }

-- a position of the accessible range, its end included
abbrev pub IsAccessible : TextValue → ℕ → Type 0
IsAccessible t pos = (t.begin ≤ pos) × (pos ≤ t.end)

-- the character at a position, where there is one
abbrev pub char_at : TextValue → ℕ → Option ℕ
char_at t pos = if nat_le 1 pos then slice_get t.text (pos - 1) else None

-- the characters at the positions from one to another, that one not included
abbrev pub between : TextValue → ℕ → ℕ → List ℕ
between t from to = slice_range t.text (from - 1) (to - 1)

-- characters put in at a position: the accessible range grows by them
abbrev pub inserted : TextValue → ℕ → List ℕ → TextValue
inserted t pos new = record {
  text = take (pos - 1) t.text ++ new ++ drop (pos - 1) t.text;
  begin = t.begin;
  end = t.end + length new;
}

-- the characters at the positions from one to another, that one not included, taken out of the accessible range
abbrev pub deleted : TextValue → ℕ → ℕ → TextValue
deleted t from to = record {
  text = take (from - 1) t.text ++ drop (to - 1) t.text;
  begin = t.begin;
  end = t.end - (to - from);
}

-- a text with another accessible range
abbrev pub narrowed : TextValue → ℕ → ℕ → TextValue
narrowed t from to = record { text = t.text; begin = from; end = to }

-- all of the text accessible
abbrev pub widened : TextValue → TextValue
widened t = record { text = t.text; begin = 1; end = length t.text + 1 }

-- the first accessible newline at or after a position, and the end where there is none
abbrev pub next_newline : TextValue → ℕ → ℕ
next_newline t pos = pos + position_or_len is_newline (between t pos t.end)

-- one past the last accessible newline before a position, and the beginning where there is none
abbrev pub prev_newline : TextValue → ℕ → ℕ
prev_newline t pos = pos - suffix_len (λ c. not (is_newline c)) (between t t.begin pos)

-- the number of a position's line: one more than the accessible newlines before it
abbrev pub line_of : TextValue → ℕ → ℕ
line_of t pos = 1 + count_by is_newline (between t t.begin pos)

-- a space, a tab or a form feed
abbrev pub is_blank : ℕ → Bool
is_blank c = (c == 32) || (c == 9) || (c == 12)

-- whether a line has blanks alone, as one that stands between paragraphs
abbrev pub is_separator : List ℕ → Bool
is_separator line = list_all is_blank line

-- whether a character keeps its line from being a separator: it is neither a newline nor a blank
abbrev pub is_ink : ℕ → Bool
is_ink c = not (is_newline c || is_blank c)

-- one past the last accessible character before a position that is neither newline nor blank, and the beginning where there is none
abbrev pub prev_ink : TextValue → ℕ → ℕ
prev_ink t pos = pos - suffix_len (λ c. not (is_ink c)) (between t t.begin pos)

-- a position at which a line begins
abbrev pub IsLineStart : TextValue → ℕ → Type 0
IsLineStart t pos = (pos ≡ t.begin) ⊎ ((t.begin < pos) × (is_newline (slice_index t.text (pos - 1 - 1)) ≡ true))

-- the line that ends right before a position is one of blanks alone
pub record EndsSeparator (t : TextValue) (pos : ℕ) : Type 0 where
  pub start : ℕ
  pub begins : IsLineStart t start
  pub order : start < pos
  pub newline : is_newline (slice_index t.text (pos - 1 - 1)) ≡ true
  pub blank : is_separator (between t start (pos - 1)) ≡ true

-- where the paragraph of a position begins: right behind the last line of blanks alone that ends before it, or else at the
-- accessible beginning
pub record IsParagraphStart (t : TextValue) (pos start : ℕ) : Type 0 where
  pub first : t.begin ≤ start
  pub order : start ≤ pos
  pub begins : (start ≡ t.begin) ⊎ EndsSeparator t start
  pub last : (later : ℕ) → start < later → later ≤ pos → EndsSeparator t later → ⊥

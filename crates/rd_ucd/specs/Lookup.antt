-- Looking up in the whole list that a file stands for.
use Rattle.std.specs.Prelude.{ℕ, ◌<◌, ◌≤◌, nat_le, ◌&&◌, if◌then◌else◌, List, length, slice_index_or, Option, option_map, unwrap_or}
use Rattle.std.specs.List.{find}
use Rattle.rd_base.specs.declared.class.Class.{Class}
use Rattle.rd_base.specs.declared.class.Class.TheVariants.{L}
use Rattle.rd_base.specs.declared.limits.TheConstants.{CODE_POINTS}
use Rattle.rd_ucd.specs.declared.spans.Span.{Span}
use Rattle.rd_ucd.specs.declared.spans.Pair.{Pair}
use Rattle.rd_ucd.specs.declared.spans.Bracket.{Bracket}
use Rattle.rd_ucd.specs.declared.spans.BracketEntry.{BracketEntry}

-- the first entry that covers a code: the code lies from the entry's first to its last
abbrev pub entry_in : {E : Type 0} → (E → ℕ) → (E → ℕ) → List E → ℕ → Option E
entry_in first last es code = find (λ e. nat_le (first e) code && nat_le code (last e)) es

-- entries that ascend: each ends no earlier than it begins, and begins past the last codes of those before it
pub record IsAscending {E : Type 0} (first last : E → ℕ) (es : List E) : Type 0 where
  pub inside : (i : ℕ) (d : E) → i < length es → first (slice_index_or es i d) ≤ last (slice_index_or es i d)
  pub order : (i j : ℕ) (d : E) → i < j → j < length es → last (slice_index_or es i d) < first (slice_index_or es j d)

-- entries that end below a code
abbrev pub AreBelow : {E : Type 0} → (E → ℕ) → ℕ → List E → Type 0
AreBelow {E} last code es = (i : ℕ) (d : E) → i < length es → last (slice_index_or es i d) < code

-- the class of a code: that of the first range that covers it, L where none does, which is a choice of this project
abbrev pub class_in : List Span → ℕ → Class
class_in spans code = unwrap_or (option_map (λ s. s.class) (entry_in (λ s. s.first) (λ s. s.last) spans code)) L

-- the class of a character: a raw byte, whose code is above all code points, has class L
abbrev pub class_of : List Span → ℕ → Class
class_of spans ch = if nat_le CODE_POINTS ch then L else class_in spans ch

-- the mirrored character of a code, None where the code is not listed
abbrev pub mirror_in : List Pair → ℕ → Option ℕ
mirror_in pairs code = option_map (λ pair. pair.mirror) (entry_in (λ pair. pair.code) (λ pair. pair.code) pairs code)

-- the bracket of a code, None where the code is not listed
abbrev pub bracket_in : List BracketEntry → ℕ → Option Bracket
bracket_in entries code = option_map (λ entry. entry.bracket) (entry_in (λ entry. entry.code) (λ entry. entry.code) entries code)

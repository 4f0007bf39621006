-- The texts that are put into a buffer of the caller character by character.
use Rattle.std.specs.Prelude.{ℕ, ◌+◌, ◌-◌, ◌≤◌, if◌then◌else◌, List, [], ◌∷◌, length}
use Rattle.rd_base.specs.Chars.{encoded, is_raw}
use Rattle.rd_base.specs.declared.limits.TheConstants.{CODE_POINTS}
use Rattle.rd_text.specs.Texts.{TextValue}

-- a character in UTF-8; a raw byte stands as itself
abbrev pub character_bytes : ℕ → List ℕ
character_bytes code = if is_raw code then (code - CODE_POINTS) ∷ [] else encoded code

-- the positions from one up to another, that one not included, are those of characters of a text
pub record IsRange (t : TextValue) (from to : ℕ) : Type 0 where
  pub first : 1 ≤ from
  pub ordered : from ≤ to
  pub last : to ≤ length t.text + 1

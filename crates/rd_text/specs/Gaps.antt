-- A text with a gap in it.
use Rattle.std.specs.Prelude.{◌≡◌, ℕ, ◌+◌, ◌*◌, ◌<◌, ◌≤◌, IsTrue, List, ◌++◌, length, take, drop, slice_index, slice_index_or, slice_range}
use Rattle.std.specs.List.{CopiedTo, SameBelow, SameFrom}
use Rattle.rd_base.specs.Chars.{is_code}
use Rattle.rd_base.specs.declared.limits.TheConstants.{TEXT_CHARACTERS}
use Rattle.rd_text.specs.declared.gap.TheConstants.{STRETCH}
use Rattle.rd_text.specs.Stretches.{summary}
use Rattle.rd_text.specs.declared.stretch.Stretch.{Stretch}
use Rattle.rd_text.specs.declared.gap.GapText.{GapText}

-- the codes of the text: what stands before the gap, and then what stands behind it
abbrev pub text_of : GapText → List ℕ
text_of g = take g.front g.codes.items ++ drop g.back g.codes.items

-- what is kept of each stretch that lies whole between two places is right
abbrev pub AreSummed : List ℕ → List Stretch → ℕ → ℕ → Type 0
AreSummed codes stretches from to = (k : ℕ) (d : Stretch) → from ≤ k * STRETCH → k * STRETCH + STRETCH ≤ to
    → slice_index_or stretches k d ≡ summary (slice_range codes (k * STRETCH) (k * STRETCH + STRETCH))

-- places of a text from one to another, with what is kept of the stretches there
pub record AreStretches (codes : List ℕ) (stretches : List Stretch) (from to : ℕ) : Type 0 where
  pub last : to ≤ length codes
  pub short : length codes ≤ TEXT_CHARACTERS
  pub covered : length codes ≤ length stretches * STRETCH
  pub summed : AreSummed codes stretches from to

-- places with a free part, and what is kept of their stretches
pub record IsGapped (codes : List ℕ) (stretches : List Stretch) (front back : ℕ) : Type 0 where
  pub order : front ≤ back
  pub within : back ≤ length codes
  pub short : length codes ≤ TEXT_CHARACTERS
  pub covered : length codes ≤ length stretches * STRETCH
  pub are_codes : (k : ℕ) → IsTrue (is_code (slice_index codes k))
  pub before : AreSummed codes stretches 0 front
  pub behind : AreSummed codes stretches back (length codes)

abbrev pub IsGapText : GapText → Type 0
IsGapText g = IsGapped g.codes.items g.stretches.items g.front g.back

-- what is kept of the stretches from one number to another, that one not included, counted anew
pub record IsRecounted (codes : List ℕ) (old new : List Stretch) (first last : ℕ) : Type 0 where
  pub size : length new ≡ length old
  pub counted : (k : ℕ) (d : Stretch) → first ≤ k → k < last → slice_index_or new k d ≡ summary (slice_range codes (k * STRETCH) (k * STRETCH + STRETCH))
  pub below : (k : ℕ) (d : Stretch) → k < first → slice_index_or new k d ≡ slice_index_or old k d
  pub above : (k : ℕ) (d : Stretch) → last ≤ k → slice_index_or new k d ≡ slice_index_or old k d

-- codes of which some were copied to another place
pub record IsCopied (old new : List ℕ) (src dest n : ℕ) : Type 0 where
  pub size : length new ≡ length old
  pub copied : CopiedTo old new src dest n
  pub below : SameBelow old new dest
  pub from : SameFrom old new (dest + n)

-- the gap was moved to an index of the text
pub record IsGapMoved (old new : GapText) (at : ℕ) : Type 0 where
  pub right : IsGapText new
  pub text : text_of new ≡ text_of old
  pub front : new.front ≡ at
  pub places : length new.codes.items ≡ length old.codes.items

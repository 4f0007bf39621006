-- What the calls of a buffer answer, and what they leave.
use Rattle.std.specs.Prelude.{◌≡◌, ℕ, ◌+◌, ◌<◌, ◌≤◌, Result, Ok, Err, List, length}
use Rattle.rd_base.specs.declared.limits.TheConstants.{TEXT_CHARACTERS}
use Rattle.rd_text.specs.Texts.{TextValue, IsAccessible, inserted, deleted, narrowed}
use Rattle.rd_text.specs.declared.fault.TextFault.{TextFault}
use Rattle.rd_text.specs.declared.fault.TextFault.TheVariants.{OutOfRange, TooLarge, Memory}

-- a range that lies in the accessible one
pub record IsAccessibleRange (t : TextValue) (from to : ℕ) : Type 0 where
  pub first : t.begin ≤ from
  pub ordered : from ≤ to
  pub last : to ≤ t.end

-- a range that lies in the whole text
pub record IsRangeOfAll (t : TextValue) (from to : ℕ) : Type 0 where
  pub first : 1 ≤ from
  pub ordered : from ≤ to
  pub last : to ≤ length t.text + 1

-- what an insertion answers
abbrev pub Inserts : Result Unit TextFault → TextValue → ℕ → List ℕ → TextValue → Type 0
Inserts (Ok _) old pos new t = IsAccessible old pos × (length old.text + length new ≤ TEXT_CHARACTERS) × (t ≡ inserted old pos new)
Inserts (Err OutOfRange) old pos new t = (IsAccessible old pos → ⊥) × (t ≡ old)
Inserts (Err TooLarge) old pos new t = IsAccessible old pos × (TEXT_CHARACTERS < length old.text + length new) × (t ≡ old)
Inserts (Err Memory) old pos new t = IsAccessible old pos × (length old.text + length new ≤ TEXT_CHARACTERS) × (t ≡ old)

-- what a deletion answers
abbrev pub Deletes : Result Unit TextFault → TextValue → ℕ → ℕ → TextValue → Type 0
Deletes (Ok _) old from to t = IsAccessibleRange old from to × (t ≡ deleted old from to)
Deletes (Err OutOfRange) old from to t = (IsAccessibleRange old from to → ⊥) × (t ≡ old)
Deletes (Err _) old from to t = ⊥

-- what a narrowing answers
abbrev pub Narrows : Result Unit TextFault → TextValue → ℕ → ℕ → TextValue → Type 0
Narrows (Ok _) old from to t = IsRangeOfAll old from to × (t ≡ narrowed old from to)
Narrows (Err OutOfRange) old from to t = (IsRangeOfAll old from to → ⊥) × (t ≡ old)
Narrows (Err _) old from to t = ⊥

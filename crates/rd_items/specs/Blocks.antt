-- The blocks into which the accessible text is cut.
use Rattle.std.specs.Prelude.{◌≡◌, ◌⊎◌, ℕ, zero, suc, ◌+◌, ◌-◌, ◌<◌, ◌≤◌, nat_lt, Bool, true, false, ◌&&◌, if◌then◌else◌, List, [], ◌∷◌, slice_get, Some}
use Rattle.rd_props.specs.Buffers.{BufferValue}
use Rattle.rd_items.specs.Readings.{ends_block}

-- the blocks of the accessible text from a position on, the first of which starts at an earlier one or there, where the end is so
-- many positions away: each is given by its first position and by the position behind its ender
abbrev pub blocks_from : BufferValue → ℕ → ℕ → ℕ → List (ℕ × ℕ)
blocks_from s start zero p = (start, suc p) ∷ []
blocks_from s start (suc n) p =
    if ends_block s p then (start, suc p) ∷ blocks_from s (suc p) n (suc p) else blocks_from s start n (suc p)

-- all blocks of the accessible text in order: it is cut behind each newline that is neither replaced nor hidden, and the last
-- block ends with the end, which counts as a position
abbrev pub blocks_of : BufferValue → List (ℕ × ℕ)
blocks_of s = blocks_from s s.text.begin (s.text.end - s.text.begin) s.text.begin

-- blocks that stand one behind the other from a position up to another, that one not included; each has a position
abbrev pub Adjoin : ℕ → ℕ → List (ℕ × ℕ) → Type 0
Adjoin from to [] = from ≡ to
Adjoin from to (b ∷ bs) = (b.0 ≡ from) × (b.0 < b.1) × Adjoin b.1 to bs

-- an accessible newline that is neither replaced nor hidden
abbrev pub is_shown_newline : BufferValue → ℕ → Bool
is_shown_newline s p = nat_lt p s.text.end && ends_block s p

-- a block starts at a position: the accessible text begins there, or a shown newline is right before it
abbrev pub StartsBlock : BufferValue → ℕ → Type 0
StartsBlock s from = (from ≡ s.text.begin) ⊎ (is_shown_newline s (from - 1) ≡ true)

-- a block ends before a position: it is behind the end, which counts as a position, or behind a shown newline
abbrev pub EndsBlock : BufferValue → ℕ → Type 0
EndsBlock s to = (to ≡ s.text.end + 1) ⊎ (is_shown_newline s (to - 1) ≡ true)

-- the positions from one to another, that one not included, are a block: no position but the last is a shown newline
pub record IsBlock (s : BufferValue) (from to : ℕ) : Type 0 where
  pub first : s.text.begin ≤ from
  pub some : from < to
  pub last : to ≤ s.text.end + 1
  pub begins : StartsBlock s from
  pub inside : (p : ℕ) → from ≤ p → suc p < to → is_shown_newline s p ≡ false
  pub ends : EndsBlock s to

-- the block that holds a position
pub record IsBlockAt (s : BufferValue) (p from to : ℕ) : Type 0 where
  pub block : IsBlock s from to
  pub before : from ≤ p
  pub behind : p < to

-- the start of the block that holds a position
pub record IsLastStart (s : BufferValue) (p from : ℕ) : Type 0 where
  pub first : s.text.begin ≤ from
  pub last : from ≤ p
  pub begins : StartsBlock s from
  pub inside : (q : ℕ) → from ≤ q → q < p → is_shown_newline s q ≡ false

-- the position behind the ender of the block that holds a position
pub record IsFirstEnd (s : BufferValue) (p to : ℕ) : Type 0 where
  pub first : p < to
  pub last : to ≤ s.text.end + 1
  pub inside : (q : ℕ) → p ≤ q → suc q < to → is_shown_newline s q ≡ false
  pub ends : EndsBlock s to

-- each of these is a block
abbrev pub AreBlocksOf : BufferValue → List (ℕ × ℕ) → Type 0
AreBlocksOf s bs = (k : ℕ) (b : ℕ × ℕ) → slice_get bs k ≡ Some b → IsBlock s b.0 b.1

-- the blocks of a text are those of its list, which stand one behind the other from the beginning of the accessible text to its end,
-- which counts as a position
pub record AreListed (s : BufferValue) : Type 0 where
  pub blocks : AreBlocksOf s (blocks_of s)
  pub every : (from to : ℕ) → IsBlock s from to → (k : ℕ) × (slice_get (blocks_of s) k ≡ Some (from, to))
  pub adjoin : Adjoin s.text.begin (s.text.end + 1) (blocks_of s)

-- where the accessible range is in order, the blocks of the buffer are those of its list
abbrev pub ListedLaw : Type 0
ListedLaw = (s : BufferValue) → s.text.begin ≤ s.text.end → AreListed s

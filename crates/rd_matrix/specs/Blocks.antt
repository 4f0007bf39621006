-- Blocks of a text, in order.
use Rattle.std.specs.Prelude.{◌≡◌, ◌⊎◌, ℕ, zero, suc, ◌<◌, ◌≤◌, List, [], ◌∷◌, length, All, fold, slice_get, Option, None, Some}
use Rattle.rd_matrix.specs.declared.block.Block.{Block}

-- a block of the list
abbrev pub IsAmong : List Block → Block → Type 0
IsAmong bs b = (k : ℕ) × (slice_get bs k ≡ Some b)

-- the block before the one at a place
abbrev pub block_before : List Block → ℕ → Option Block
block_before bs zero = None
block_before bs (suc k) = slice_get bs k

-- blocks that stand one behind the other, from a position on
abbrev pub StandFrom : ℕ → List Block → Type 0
StandFrom from [] = Unit {0}
StandFrom from (b ∷ bs) = (b.start ≡ from) × (b.start < b.end) × StandFrom b.end bs

-- where the first block starts
abbrev pub first_start : List Block → ℕ
first_start [] = 0
first_start (b ∷ bs) = b.start

-- where the last of these blocks ends, and a position where there is none
abbrev pub end_from : ℕ → List Block → ℕ
end_from from bs = fold (λ _ (b : Block). b.end) from bs

-- at least one block, and each but the first starts at the end of the one before
pub record AreBlocks (bs : List Block) : Type 0 where
  pub some : 0 < length bs
  pub stand : StandFrom (first_start bs) bs
  pub bases : All (λ b. b.base ≤ 1) bs

-- a position of one of the blocks
abbrev pub IsWithin : ℕ → List Block → Type 0
IsWithin pos bs = (first_start bs ≤ pos) × (pos < end_from 0 bs)

-- a position at which one of the blocks starts
abbrev pub StartsBlock : ℕ → List Block → Type 0
StartsBlock pos bs = (b : Block) × IsAmong bs b × (b.start ≡ pos)

-- a position of which a source is asked for its block; where the blocks stand one behind the other it is a position of one of them
abbrev pub MayBeAsked : ℕ → List Block → Type 0
MayBeAsked pos bs = IsWithin pos bs ⊎ StartsBlock pos bs

-- the block of the list that holds a position
pub record HoldsPosition (pos : ℕ) (bs : List Block) (b : Block) : Type 0 where
  pub among : IsAmong bs b
  pub from : b.start ≤ pos
  pub below : pos < b.end

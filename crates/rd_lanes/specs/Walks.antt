-- What a walk over places answers, where a test says of each place whether it passes.
use Rattle.std.specs.Prelude.{◌≡◌, ℕ, ◌+◌, ◌<◌, ◌≤◌, Bool, true, false, Option, None, Some}
use Rattle.rd_lanes.specs.declared.groups.TheConstants.{LANES}

-- two tests that a walk over so many places may ask, of whole groups by the index at which they begin and of single places: each may be
-- asked within the length, and a group of which the first answers false has no place that passes the second
pub record AreTests (len : ℕ) (asked_group : ℕ → Type 0) (group : ℕ → Bool → Type 0) (asked_place : ℕ → Type 0) (place : ℕ → Bool → Type 0) : Type 0 where
  pub groups : (at : ℕ) → at + LANES ≤ len → asked_group at
  pub places : (k : ℕ) → k < len → asked_place k
  pub agree : (at k : ℕ) → at + LANES ≤ len → at ≤ k → k < at + LANES → group at false → place k false

-- what is answered at each of so many places is what this test says
abbrev pub Tells : ℕ → (ℕ → Bool → Type 0) → (ℕ → Bool) → Type 0
Tells len answers test = (k : ℕ) (answer : Bool) → k < len → answers k answer → test k ≡ answer

-- the first and the last of so many places that passes, and None where none does
abbrev pub IsFirst : ℕ → (ℕ → Bool) → Option ℕ → Type 0
IsFirst len test None = (k : ℕ) → k < len → test k ≡ false
IsFirst len test (Some place) = (place < len) × (test place ≡ true) × ((k : ℕ) → k < place → test k ≡ false)

abbrev pub IsLast : ℕ → (ℕ → Bool) → Option ℕ → Type 0
IsLast len test None = (k : ℕ) → k < len → test k ≡ false
IsLast len test (Some place) = (place < len) × (test place ≡ true) × ((k : ℕ) → place < k → k < len → test k ≡ false)

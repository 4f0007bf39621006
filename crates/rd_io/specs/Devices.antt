-- What calls of sources, files and sinks do to known bytes, and when they fail.
use Rattle.std.specs.Prelude.{◌≡◌, ℕ, ◌-◌, ◌^◌, ◌<◌, ◌≤◌, ◌⊎◌, List, length, take, drop, Option, None, Some, Result, IfOk, OnOk, OnErr}
use Rattle.std.specs.Io.KnownBytes.{Appends}

-- A count rose. One that stands at its last value counts as risen.
abbrev pub Rose : ℕ → ℕ → Type 0
Rose before after = (before < after) ⊎ (2 ^ 64 - 1 ≤ after)

-- A fetch from an offset on gives the bytes of the file that stand there, and none only at its end or with no room. Of a file
-- whose bytes are not known nothing is said.
abbrev pub Fetches : {E : Type 0} → Option (List ℕ) → ℕ → Result ℕ E → List ℕ → Type 0
Fetches None from result buffer = Unit {0}
Fetches (Some file) from result buffer =
    IfOk result (λ n. (take n buffer ≡ take n (drop from file)) × (n ≡ 0 → 0 < length buffer → length file ≤ from))

-- some front of the bytes, and not all of them, was written behind what was there
abbrev pub AppendsFront : Option (List ℕ) → Option (List ℕ) → List ℕ → Type 0
AppendsFront old new bytes = (n : ℕ) × (n < length bytes) × Appends old new (take n bytes)

-- all the bytes were written, or after a failure a front of them
pub record Writes {T E : Type 0} (old new : Option (List ℕ)) (bytes : List ℕ) (result : Result T E) : Type 0 where
  pub whole : OnOk result (Appends old new bytes)
  pub front : OnErr result (AppendsFront old new bytes)

-- the text was written, or after a failure a front of it; the count of faults rose with a failure, and else is as it was
pub record Prints {T E : Type 0} (old new : Option (List ℕ)) (before after : ℕ) (text : List ℕ) (result : Result T E) : Type 0 where
  pub bytes : Writes old new text result
  pub never_falls : before ≤ after
  pub kept : OnOk result (after ≡ before)
  pub failed : OnErr result (Rose before after)

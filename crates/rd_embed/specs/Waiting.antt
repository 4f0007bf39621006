-- The terminal's bytes that were not fetched yet.
use Rattle.std.specs.Prelude.{ℕ, List}

-- the bytes that wait, and how often there was no memory for more
pub record Waiting : Type 0 where
  pub bytes : List ℕ
  pub faults : ℕ

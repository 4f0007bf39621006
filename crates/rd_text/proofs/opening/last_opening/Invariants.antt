use Rattle.std.proofs.Common.{◌≡◌, ◌≤◌, false, List, ℕ, ◌++◌, length, drop}
use Rattle.rd_text.specs.Stretches.{opens, separated}
use Rattle.rd_text.proofs.opening.last_opening.Given as goal

abbrev pub invariant-loop-at : goal.invariant-loop-at
invariant-loop-at l = record {
  bound : l.at ≤ length l.codes;
  begins : (rest : List ℕ) → opens rest ≡ l.opened → opens (drop l.at l.codes ++ rest) ≡ l.follows;
  clear : (rest : List ℕ) → opens rest ≡ l.opened → separated rest ≡ false → separated (drop l.at l.codes ++ rest) ≡ false;
}

abbrev pub decreases-loop-at : goal.decreases-loop-at
decreases-loop-at l = l.at

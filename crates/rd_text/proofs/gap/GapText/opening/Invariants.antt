use Rattle.std.proofs.Common.{◌≡◌, ◌-◌, ◌≤◌, false}
use Rattle.std.specs.Prelude.{slice_range}
use Rattle.rd_text.specs.Gaps.{text_of}
use Rattle.rd_text.specs.Stretches.{opens, separated}
use Rattle.rd_text.proofs.gap.GapText.opening.Given as goal

abbrev pub invariant-pieces : goal.invariant-pieces
invariant-pieces l = record {
  low : l.from ≤ l.at;
  high : l.at ≤ l.to;
  begins : opens (slice_range (text_of l.self) l.at l.to) ≡ l.opened;
  clear : separated (slice_range (text_of l.self) l.at l.to) ≡ false;
}

abbrev pub decreases-pieces : goal.decreases-pieces
decreases-pieces l = l.at - l.from

use Rattle.std.proofs.Common.{◌≡◌, ◌+◌, ◌-◌, ◌≤◌, not}
use Rattle.std.specs.Prelude.{slice_range}
use Rattle.std.specs.List.{suffix_len}
use Rattle.rd_text.specs.Gaps.{text_of}
use Rattle.rd_text.specs.Pieces.{is_sought}
use Rattle.rd_text.proofs.gap.GapText.after_last.Given as goal

abbrev pub invariant-pieces : goal.invariant-pieces
invariant-pieces l = record {
  low : l.from ≤ l.at;
  high : l.at ≤ l.to;
  rest : (l.to - l.at) + suffix_len (λ c. not (is_sought l.fn.sought c)) (slice_range (text_of l.self) l.from l.at) ≡ suffix_len (λ c. not (is_sought l.fn.sought c)) (slice_range (text_of l.self) l.from l.to);
}

abbrev pub decreases-pieces : goal.decreases-pieces
decreases-pieces l = l.at - l.from

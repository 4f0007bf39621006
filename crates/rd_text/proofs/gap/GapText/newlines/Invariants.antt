use Rattle.std.proofs.Common.{◌≡◌, ◌+◌, ◌-◌, ◌≤◌}
use Rattle.std.specs.Prelude.{slice_range}
use Rattle.std.specs.List.{count_by}
use Rattle.rd_text.specs.Texts.{is_newline}
use Rattle.rd_text.specs.Gaps.{text_of}
use Rattle.rd_text.proofs.gap.GapText.newlines.Given as goal

abbrev pub invariant-pieces : goal.invariant-pieces
invariant-pieces l = record {
  low : l.from ≤ l.at;
  high : l.at ≤ l.to;
  few : l.from + l.count ≤ l.at;
  rest : l.count + count_by is_newline (slice_range (text_of l.self) l.at l.to) ≡ count_by is_newline (slice_range (text_of l.self) l.from l.to);
}

abbrev pub decreases-pieces : goal.decreases-pieces
decreases-pieces l = l.to - l.at

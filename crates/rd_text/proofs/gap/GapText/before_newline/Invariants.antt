use Rattle.std.proofs.Common.{◌≡◌, ◌+◌, ◌-◌, ◌≤◌}
use Rattle.std.specs.Prelude.{slice_range}
use Rattle.std.specs.List.{position_or_len}
use Rattle.rd_text.specs.Texts.{is_newline}
use Rattle.rd_text.specs.Gaps.{text_of}
use Rattle.rd_text.proofs.gap.GapText.before_newline.Given as goal

abbrev pub invariant-pieces : goal.invariant-pieces
invariant-pieces l = record {
  low : l.from ≤ l.at;
  high : l.at ≤ l.to;
  rest : (l.at - l.from) + position_or_len is_newline (slice_range (text_of l.self) l.at l.to) ≡ position_or_len is_newline (slice_range (text_of l.self) l.from l.to);
}

abbrev pub decreases-pieces : goal.decreases-pieces
decreases-pieces l = l.to - l.at

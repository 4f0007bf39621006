use Rattle.std.proofs.Common.{◌≡◌, ◌-◌, ◌≤◌, false}
use Rattle.std.specs.Prelude.{unwrap_or}
use Rattle.std.specs.List.{slice_split}
use Rattle.rd_text.specs.Texts.{IsText, between, is_newline, is_separator, next_newline}
use Rattle.rd_para.specs.Paragraphs.{decided}
use Rattle.rd_para.proofs.level.p2_p3_level_from_line.Given as goal

abbrev pub invariant-lines : goal.invariant-lines
invariant-lines l = record {
  text : IsText l.text;
  begin : l.text.begin ≤ l.from;
  end : l.from ≤ l.text.end;
  line_end : l.to ≡ next_newline l.text l.from;
  other : is_separator (between l.text l.from l.to) ≡ false;
  rest : unwrap_or (decided l.classes (slice_split is_newline (between l.text l.from l.text.end))) 0
      ≡ unwrap_or (decided l.classes (slice_split is_newline (between l.text l.fn.from l.text.end))) 0;
}

abbrev pub decreases-lines : goal.decreases-lines
decreases-lines l = l.text.end - l.from

use Rattle.std.proofs.Common.{◌-◌, ◌≤◌}
use Rattle.rd_para.specs.Known.{IsKnown}
use Rattle.rd_blocks.proofs.base.further.Given as goal

abbrev pub invariant-loop-paragraph : goal.invariant-loop-paragraph
invariant-loop-paragraph l = record {
  known : IsKnown l.fn.view.classes.now l.fn.view.state.now.text l.paragraph;
  from : l.paragraph.from ≤ l.pos;
}

abbrev pub decreases-loop-paragraph : goal.decreases-loop-paragraph
decreases-loop-paragraph l = l.pos - l.paragraph.to

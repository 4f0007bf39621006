use Rattle.std.proofs.Common.{◌≡◌, ◌+◌, ◌-◌, ◌≤◌, map}
use Rattle.rd_base.specs.Classes.{p2_p3_first_strong}
use Rattle.rd_text.specs.Texts.{between}
use Rattle.rd_ucd.specs.Lookup.{class_of}
use Rattle.rd_para.specs.Paragraphs.{p2_p3_level_of_line}
use Rattle.rd_para.proofs.line.p2_p3_level_of_line.Given as goal

abbrev pub invariant-loop-pos : goal.invariant-loop-pos
invariant-loop-pos l = record {
  from : l.from ≤ l.pos;
  to : l.pos ≤ l.to;
  depth : l.depth + l.from ≤ l.pos;
  rest : p2_p3_first_strong l.depth (map (class_of l.classes) (between l.text l.pos l.to)) ≡ p2_p3_level_of_line l.classes (between l.text l.from l.to);
}

abbrev pub decreases-loop-pos : goal.decreases-loop-pos
decreases-loop-pos l = l.to - l.pos

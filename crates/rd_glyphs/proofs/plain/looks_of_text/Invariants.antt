use Rattle.std.proofs.Common.{◌≡◌, ◌++◌, drop, All}
use Rattle.rd_glyphs.specs.Characters.{TakesColumns}
use Rattle.rd_glyphs.specs.Held.{HoldsColumns, looks_from}
use Rattle.rd_glyphs.specs.Lines.{plain_looks}
use Rattle.rd_glyphs.proofs.plain.looks_of_text.Given as goal

abbrev pub invariant-loop-ch : goal.invariant-loop-ch
invariant-loop-ch l = record {
  whole : l.looks ++ looks_from l.classes l.held (drop l.ch-index l.text) ≡ plain_looks l.classes l.text;
  columns : All TakesColumns l.looks;
  held : HoldsColumns l.held;
}

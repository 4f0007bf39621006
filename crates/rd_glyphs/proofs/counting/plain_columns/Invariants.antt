use Rattle.std.proofs.Common.{◌≡◌, ◌+◌, ◌≤◌, drop}
use Rattle.rd_glyphs.specs.Held.{HoldsColumns, looks_from}
use Rattle.rd_glyphs.specs.Lines.{columns_of_looks, plain_looks}
use Rattle.rd_glyphs.proofs.counting.plain_columns.Given as goal

abbrev pub invariant-loop-ch : goal.invariant-loop-ch
invariant-loop-ch l =
    (l.columns + columns_of_looks (looks_from l.classes l.held (drop l.ch-index l.text)) ≡ columns_of_looks (plain_looks l.classes l.text))
    × HoldsColumns l.held
    × (l.columns ≤ l.most)

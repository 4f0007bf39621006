use Rattle.std.proofs.Common.{◌≡◌, ◌++◌, ◌+◌, drop, length}
use Rattle.rd_glyphs.specs.Lines.{fitted}
use Rattle.rd_glyphs.proofs.plain.fit.Given as goal

abbrev pub invariant-loop-look : goal.invariant-loop-look
invariant-loop-look l =
    (l.cells ++ fitted l.face l.room (drop l.look-index l.looks) ≡ fitted l.face l.width l.looks)
    × (length l.cells + l.room ≡ l.width)

use Rattle.std.proofs.Common.{◌≡◌, drop, true}
use Rattle.rd_term.specs.Pens.{are_renditions, pen_by}
use Rattle.rd_term.proofs.pen.pen_by.Given as goal

-- what is left, done from here, is the whole, done from the start
abbrev pub invariant-loop-n : goal.invariant-loop-n
invariant-loop-n l = record {
  right : are_renditions (drop l.n-index l.numbers) ≡ true;
  same : pen_by (drop l.n-index l.numbers) l.after ≡ pen_by l.numbers l.fn.pen;
}

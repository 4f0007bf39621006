use Rattle.std.proofs.Common.{◌∙◌, inl, inr, arith}
use Rattle.std.proofs.lemmas.Int.{ints}
use Rattle.rd_lineshift.proofs.Moving.{row-kept, row-free}
use Rattle.rd_lineshift.proofs.screens.row_after.Goals as goal

pub returns-then-origin-shift : goal.returns-then-origin-shift
returns-then-origin-shift c =
    row-free c.args.shift c.args.free.now c.args.current.now.rows c.args.row c.requires.shift (omega (arith, c.if-row-shift.false)) (omega (arith, c.if-row-end.false)) (inl (omega (arith, ints, c.if-origin-shift.true)))

pub returns-then-origin-end : goal.returns-then-origin-end
returns-then-origin-end c =
    row-free c.args.shift c.args.free.now c.args.current.now.rows c.args.row c.requires.shift (omega (arith, c.if-row-shift.false)) (omega (arith, c.if-row-end.false)) (inr (omega (arith, ints, c.if-origin-end.true)))

pub returns : goal.returns
returns c =
    c.row-2.ensures.cells
    ∙ row-kept c.args.shift c.args.free.now c.args.current.now.rows c.args.row _ c.requires.shift (omega (arith, c.if-row-shift.false)) (omega (arith, c.if-row-end.false))
    (omega (arith, ints, c.if-origin-shift.false)) (omega (arith, ints, c.if-origin-end.false)) (omega (arith, ints, c.if-origin-shift.false))

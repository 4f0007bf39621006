use Rattle.std.proofs.Common.{arith}
use Rattle.std.proofs.lemmas.List.{length-map}
use Rattle.rd_rows.specs.Copies.{RowValues, shown_rows}
use Rattle.rd_tests_lines.proofs.Owned.{own-block}
use Rattle.rd_tests_lines.proofs.reuse.right.is_right.Goals as goal

pub returns : goal.returns
returns c =
    let size = length-map c.args.rows.now (λ (r : RowValues). r.shown) in
    own-block c.args.old.now c.args.change c.args.block.now (shown_rows c.args.rows.now)
    (λ j e low. c.loop-number.invariant.own j e (omega (arith, low, size, c.loop-number-test.false))) c.requires

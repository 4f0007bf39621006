use Rattle.std.proofs.Common.{◌≤◌, length, subst, arith}
use Rattle.std.proofs.lemmas.List.{take_all}
use Rattle.rd_base.specs.Cells.{AreOnlyOf}
use Rattle.rd_update.specs.Words.{AreTold}
use Rattle.rd_update.proofs.Telling.{read-more, told-more}
use Rattle.rd_update.proofs.words.read.Goals as goal

pub loop-cell-preserved : goal.loop-cell-preserved
loop-cell-preserved c =
    let h = c.loop-cell.invariant in
    let cells = c.args.cells.now in
    let i = c.loop-cell.cell-index in
    let x = c.cell-item.result in
    let words = c.words.ensures in record {
      same = read-more cells i x c.words.result c.loop-cell.words c.extend_from_slice.new.self c.loop-cell-test.true c.cell-item.is words.words h.same c.in_ok-extend_from_slice.ensures.ok;
      told = told-more cells i x c.loop-cell-test.true c.cell-item.is h.told (words.colours, subst (λ ws. AreOnlyOf x ws) words.words words.differ);
    }

pub returns-clause-told : goal.returns-clause-told
returns-clause-told c =
    let cells = c.args.cells.now in
    let all : length c.args.cells.now ≤ c.loop-cell.cell-index = omega (arith, c.loop-cell-test.false) in
    subst (λ cs. AreTold cs) (take_all c.loop-cell.cell-index cells all) c.loop-cell.invariant.told

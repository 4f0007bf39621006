use Rattle.std.proofs.Common.{[], ◌<◌, ◌≤◌, length, rules, arith}
use Rattle.rd_base.specs.Cells.{row_at}
use Rattle.rd_audit.proofs.Comparing.{column-on, column-more}
use Rattle.rd_audit.proofs.compare.other_column.Goals as goal

pub loop-column-preserved : goal.loop-column-preserved
loop-column-preserved c =
    let l = c.loop-column in
    column-on l.column c.index-cells-column.result c.args.cells.now (row_at c.args.terminal.now.rows c.args.row) _ c.loop-column-test.true (search rules) l.invariant

pub returns-then-width : goal.returns-then-width
returns-then-width c =
    let l = c.loop-column in
    let wide = c.width.ensures.terminal.each c.args.row [] c.requires.row in
    let past : length c.args.cells.now ≤ l.column = omega (arith, c.loop-column-test.false) in
    let less : length c.args.cells.now < length (row_at c.args.terminal.now.rows c.args.row) = omega (arith, wide, c.width.ensures.value, c.if-width.true) in
    column-more l.column c.args.cells.now (row_at c.args.terminal.now.rows c.args.row) _ l.auto.column-end past less l.invariant

use Rattle.std.proofs.Common.{◌≡◌, Some, rules, sym, subst}
use Rattle.rd_io.specs.Lines.{lines_of}
use Rattle.rd_audit.specs.Cuts.{stripped}
use Rattle.rd_audit.specs.Results.{IsShape}
use Rattle.rd_audit.specs.Rows.{next_row, row_key}
use Rattle.rd_audit.proofs.Shapes.{push-row, picture-on}
use Rattle.rd_audit.proofs.dump.read_group.Goals as goal

pub loop-line-preserved : goal.loop-line-preserved
loop-line-preserved c =
    let l = c.loop-line in
    let line = c.in-Some.line.now in
    let cells = c.in-Some-2.cells in
    let behind = c.in-Some-stripped.behind.now in
    let row : Some behind ≡ stripped row_key line = search rules in
    let found : next_row l.rows behind ≡ Some cells = search rules in
    let push = c.in_ok-push-in-Some-2.ensures.ok in
    record {
      shape = subst IsShape (sym push) (push-row l.rows behind cells l.invariant.shape found);
      whole = picture-on c.args.number l.rows c.push.new.self cells (lines_of l.rest.now) (lines_of c.in-Some.more.now) line behind _ c.in-Some.ensures.value row found push l.invariant.whole;
    }

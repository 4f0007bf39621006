use Rattle.std.proofs.Common.{◌≡◌, ◌-◌, ◌≤◌, ◌++◌, length, take, drop, map-id, rules, subst, sym, ap, ◌∙◌, arith}
use Rattle.std.proofs.lemmas.Iterator.Adapters.{YieldsList-from_vec}
use Rattle.std.proofs.lemmas.Iterator.Consumers.{YieldsList-end}
use Rattle.std.proofs.lemmas.List.{length_push}
use Rattle.rd_reuse.specs.Laying.{placed}
use Rattle.rd_reuse.proofs.Placing.{one-more, row-room, rows-added, with_rows}
use Rattle.rd_reuse.proofs.layout.add_rows.Goals as goal

pub loop-row-preserved : goal.loop-row-preserved
loop-row-preserved c =
    let inv = c.loop-row.invariant in
    let number = inv.number in
    let size = length_push c.loop-row.yielded c.in-Some.row in
    record {
      rows = one-more c.args.first c.args.height c.args.start c.args.matrix.now c.loop-row.yielded c.in-Some.row c.loop-row.matrix c.add_row.new.matrix c.loop-row.number inv.number inv.rows
          c.in_ok-add_row.ensures;
      number = omega (arith, number, size);
      room = subst (λ rows. length rows ≤ c.args.height) (sym c.in_ok-add_row.ensures) (row-room c.args.first c.args.height c.loop-row.matrix _ inv.room);
    }

pub returns : goal.returns
returns c =
    let old = c.args.matrix.now in
    let rows = c.args.rows.items in
    let end = YieldsList-end (YieldsList-from_vec {s = c.into_iter-row-iterator.result} rows (search rules) (search rules))
    c.loop-row.yielded c.loop-row.row-iterator c.loop-row.yielded_by c.next.result c.next.new.self c.in-None.is c.next.ensures.steps in
    let first : c.args.first - 0 ≡ c.args.first = omega arith in
    sym c.loop-row.invariant.rows
    ∙ (ap (λ rs. with_rows c.args.first c.args.height old (placed c.args.start 0 rs)) (sym (map-id c.loop-row.yielded) ∙ end.0)
    ∙ (rows-added c.args.first c.args.height c.args.start 0 old rows c.requires.room
    ∙ ap (λ k. old ++ take (c.args.height - length old) (drop k (placed c.args.start 0 rows))) first))

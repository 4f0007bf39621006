use Rattle.std.proofs.Common.{length, ap, sym, ◌∙◌, option_map, Bor, arith}
use Rattle.std.proofs.lemmas.List.{length_push}
use Rattle.rd_matrix.specs.declared.matrix.Entry.{Entry}
use Rattle.rd_reuse.proofs.Taking.{copies-more}
use Rattle.rd_reuse.proofs.keeping.copies.Goals as goal

pub returns-then-ends_block-clause-few : goal.returns-then-ends_block-clause-few
returns-then-ends_block-clause-few c =
    let inv = c.loop-number.invariant in
    let size = ap length c.in_ok-push.ensures.items in
    omega (arith, inv.some, size, length_push c.loop-number.rows.items c.in_ok-copy.field-0)

pub loop-number-preserved : goal.loop-number-preserved
loop-number-preserved c =
    let inv = c.loop-number.invariant in
    let size = ap length c.in_ok-push.ensures.items in
    let more = length_push c.loop-number.rows.items c.in_ok-copy.field-0 in
    record {
      rows = copies-more c.loop-number.rows.items c.push.new.self.items c.args.old.now c.args.change c.args.start c.loop-number.number c.in-Some.entry.now c.in_ok-copy.field-0 (omega arith)
          (sym c.entry_under.ensures ∙ ap (option_map (λ (e : Bor Entry). e.now)) c.in-Some.is) (sym c.ends_block.ensures ∙ c.if-ends_block.false) c.in_ok-copy.ensures c.in_ok-push.ensures.items
          ∙ inv.rows;
      some = omega (arith, inv.some, size, more);
      few = omega (arith, inv.some, size, more);
    }

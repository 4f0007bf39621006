use Rattle.std.proofs.Common.{arith, refl, ap, sym, subst, ◌∙◌, ◌≡◌, Some, flat_map, length}
use Rattle.std.specs.Prelude.{slice_get}
use Rattle.std.proofs.lemmas.Option.{slice_get_read}
use Rattle.std.proofs.lemmas.List.{take_all, append-nil}
use Rattle.rd_rows.specs.Placing.{columns_of, next_row}
use Rattle.rd_rows.specs.Rows.{seen_in, begin_of}
use Rattle.rd_rows.proofs.Fitting.{begins-none}
use Rattle.rd_rows.proofs.Stands.{stand-at}
use Rattle.rd_rows.proofs.draft.Draft.behind.Goals as goal

pub add_seen-requires : goal.add_seen-requires
add_seen-requires c =
    let lead = c.placed-placed-items.ensures.lead in
    let few = lead.short in
    let there = slice_get_read c.placed-placed-items.result.now _ c.loop-placed.placed-index c.placed-item.result refl c.loop-placed-test.true c.placed-item.is in
    let end = stand-at c.loop-placed.placed-index 0 (columns_of c.args.prefix.now) c.args.prefix.now c.placed-item.result lead.stand
    (subst (λ xs. slice_get xs c.loop-placed.placed-index ≡ Some c.placed-item.result) c.placed-placed-items.ensures.placed there) in
    omega (arith, end, few)

pub returns : goal.returns
returns c =
    let items = c.placed-placed-items.ensures in
    let past = c.loop-placed-test.false in
    let lead = c.args.prefix.now in
    record {
      cells = c.loop-placed.invariant ∙ (ap (flat_map (seen_in c.args.shape)) (take_all c.loop-placed.placed-index c.placed-placed-items.result.now (omega (arith, past)) ∙ items.placed)
          ∙ ap (flat_map (seen_in c.args.shape)) (sym (append-nil lead)));
      begins = c.new.ensures ∙ (sym (begins-none c.args.shape lead items.lead.items) ∙ ap (flat_map (begin_of c.args.shape)) (sym (append-nil lead)));
      spot = c.next_row.ensures ∙ ap (λ k. next_row k c.args.spot) c.columns.ensures.columns;
      placed = let count = ap length c.placed.ensures.placed in omega (arith, count);
    }

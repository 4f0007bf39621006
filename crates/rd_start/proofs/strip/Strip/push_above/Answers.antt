use Rattle.std.proofs.Common.{◌≡◌, ◌+◌, ◌-◌, ◌++◌, map, drop, ap, refl, ◌∙◌, arith}
use Rattle.rd_matrix.specs.Entries.{numbered}
use Rattle.rd_rows.specs.Copies.{shown_rows}
use Rattle.rd_start.specs.Strips.{strip_row_of}
use Rattle.rd_start.specs.declared.strip.Sweep.{Sweep}
use Rattle.rd_start.proofs.Pushing.{count-shown, strip_rows-above, none-above, shown-at}
use Rattle.rd_start.proofs.strip.Strip.push_above.Goals as goal

pub loop-number-init : goal.loop-number-init
loop-number-init c =
    let old = c.args.self.now in
    let count = count-shown c.args.rows.now in
    record {
      low = omega arith;
      sweep = refl;
      home = refl;
      blocks = refl;
      strip_rows = none-above old.sweep.point c.args.block.start _ (shown_rows c.args.rows.now) old.strip_rows.items (omega arith);
    }

pub loop-number-preserved : goal.loop-number-preserved
loop-number-preserved c =
    let old = c.args.self.now in
    let k = c.loop-number.number - 1 in
    let r = c.index-rows-number.result in
    let inv = c.loop-number.invariant in
    let next : c.loop-number.number ≡ k + 1 = omega arith in
    record {
      low = omega arith;
      sweep = inv.sweep;
      home = inv.home;
      blocks = inv.blocks;
      strip_rows = strip_rows-above old.sweep.point c.args.block.start k (shown_rows c.args.rows.now) r.shown old.strip_rows.items c.loop-number.self.strip_rows.items _ c.strip_row_of-row.result
          (shown-at c.args.rows.now k r (omega arith) c.index-rows-number.is)
          (c.strip_row_of-row.ensures ∙ ap (λ (x : Sweep). strip_row_of x.point (record { start = c.args.block.start; number = k; row = r.shown })) inv.sweep)
          (inv.strip_rows ∙ ap (λ n. map (strip_row_of old.sweep.point) (drop n (numbered c.args.block.start 0 (shown_rows c.args.rows.now))) ++ old.strip_rows.items) next)
          c.in_ok-push_front.ensures.items;
    }

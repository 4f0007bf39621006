use Rattle.std.proofs.Common.{◌++◌, ◌∷◌, [], ap, ◌∙◌, arith, rules}
use Rattle.rd_rows.specs.Copies.{shown_rows}
use Rattle.rd_start.specs.Strips.{strip_row_of}
use Rattle.rd_start.specs.declared.strip.Sweep.{Sweep}
use Rattle.rd_start.proofs.Pushing.{all-below, count-shown, strip_rows-below, shown-at}
use Rattle.rd_start.proofs.strip.Strip.push_below.Goals as goal

pub loop-number-preserved : goal.loop-number-preserved
loop-number-preserved c =
    let old = c.args.self.now in
    let k = c.loop-number.number in
    let r = c.index-rows-number.result in
    let inv = c.loop-number.invariant in
    record {
      sweep = inv.sweep;
      home = inv.home;
      blocks = inv.blocks;
      strip_rows = strip_rows-below old.sweep.point c.args.block.start k (shown_rows c.args.rows.now) r.shown old.strip_rows.items c.loop-number.self.strip_rows.items _ c.strip_row_of-row.result
          (shown-at c.args.rows.now k r (omega arith) c.index-rows-number.is)
          (c.strip_row_of-row.ensures ∙ ap (λ (x : Sweep). strip_row_of x.point (record { start = c.args.block.start; number = k; row = r.shown })) inv.sweep)
          inv.strip_rows c.in_ok-push_back.ensures.items;
    }

pub returns : goal.returns
returns c =
    let old = c.args.self.now in
    let inv = c.loop-number.invariant in
    let count = count-shown c.args.rows.now in
    record {
      small = search rules;
      sweep = inv.sweep;
      home = inv.home;
      blocks = c.in_ok-push_back-2.ensures.items ∙ ap (λ ys. ys ++ c.args.block ∷ []) inv.blocks;
      strip_rows = all-below old.sweep.point c.args.block.start c.loop-number.number (shown_rows c.args.rows.now) old.strip_rows.items _ (omega arith) inv.strip_rows;
    }

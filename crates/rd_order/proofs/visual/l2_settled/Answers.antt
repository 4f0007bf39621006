use Rattle.std.proofs.Common.{◌-◌, length, slice_index, arith}
use Rattle.rd_order.proofs.Steps.{between, shows, reversed_by}
use Rattle.rd_order.proofs.visual.l2_settled.Goals as goal

pub loop-level-preserved : goal.loop-level-preserved
loop-level-preserved c =
    let inv = c.loop-level.invariant in
    let run = c.l2_run_around-run.result in
    let facts = c.l2_run_around-run.ensures in
    let (turn, from, to) = reversed_by (run.lowest - c.loop-level.level) run.start run.end c.loop-level.place c.reversed_place-place.result facts.from facts.to c.reversed_place-place.ensures in
    record {
      base = omega (arith, inv.base, facts.up);
      place = omega (arith, facts.run.within);
      high = λ _. facts.lowest c.reversed_place-place.result from to;
      comes = λ p came. (between (slice_index c.args.levels.now) (length c.args.levels.now) c.args.base c.loop-level.level run.lowest run.start run.end p
          c.loop-level.place c.reversed_place-place.result inv.base (omega arith) facts.run.order facts.run.within facts.lowest facts.run.before facts.run.after facts.from facts.to turn).0 (inv.comes p came);
    }

pub returns : goal.returns
returns c = λ p came.
    let inv = c.loop-level.invariant in
    let base = inv.base in
    let high = inv.high in
    shows c.args.base (c.loop-level.level - c.args.base) p c.loop-level.place c.args.levels.now (λ more. omega arith) (omega arith) inv.place (inv.comes p came)

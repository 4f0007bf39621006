use Rattle.std.proofs.Common.{◌≡◌, ◌+◌, ◌-◌, length, ap, sym, ◌∙◌, arith}
use Rattle.rd_resolve.proofs.Resetting.{l1-white-step, l1-reset-step, l1-front-step}
use Rattle.rd_resolve.proofs.reset.l1_reset.Goals as goal

pub loop-i-preserved : goal.loop-i-preserved
loop-i-preserved c =
    let line = c.loop-i.line in
    let old = c.args.line.now in
    let i = c.loop-i.i in
    let j = i - 1 in
    let inv = c.loop-i.invariant in
    let new = c.set_level.ensures in
    let next : j + 1 ≡ i = omega arith in
    let same_old : length old.levels ≡ length line.classes = old.same_levels ∙ sym (ap length inv.keeps.classes) in
    record {
      within = omega (arith, inv.within, ap length new.rest.classes);
      white = rw new.rest.classes (l1-white-step old.base i j line.classes line.levels old.levels c.at.result c.at-in-loop-i.result c.l1_level-level.result c.loop-i.white c.l1_resets-white.result
          next inv.within line.same_levels same_old c.at.ensures c.at-in-loop-i.ensures inv.white c.l1_resets-white.ensures c.l1_level-level.ensures inv.done inv.left);
      done = rw (new.levels, new.rest.classes) (l1-reset-step old.base i j line.classes line.levels old.levels c.at.result c.at-in-loop-i.result c.l1_level-level.result c.loop-i.white c.l1_resets-white.result
          next inv.within line.same_levels same_old c.at.ensures c.at-in-loop-i.ensures inv.white c.l1_resets-white.ensures c.l1_level-level.ensures inv.done inv.left);
      left = rw new.levels (l1-front-step old.base i j line.classes line.levels old.levels c.at.result c.at-in-loop-i.result c.l1_level-level.result c.loop-i.white c.l1_resets-white.result
          next inv.within line.same_levels same_old c.at.ensures c.at-in-loop-i.ensures inv.white c.l1_resets-white.ensures c.l1_level-level.ensures inv.done inv.left);
      base = inv.base ∙ sym new.rest.base;
      types = new.types ∙ inv.types;
      keeps = record { classes = new.rest.classes ∙ inv.keeps.classes; base = new.rest.base ∙ inv.keeps.base };
    }

use Rattle.std.proofs.Common.{◌<◌, ◌∙◌, length, ap, arith}
use Rattle.std.proofs.lemmas.List.{length-set}
use Rattle.rd_views.proofs.Taking.{step-taken}
use Rattle.rd_views.proofs.adopting.take_lasts.Goals as goal

pub loop-i-preserved : goal.loop-i-preserved
loop-i-preserved c =
    let there = c.loop-i-test.true in
    let less : c.loop-i.i < length c.loop-i.layouts = omega (arith, c.loop-i.invariant.same, there) in
    let step = step-taken c.args.windows.now c.loop-i.layouts c.take_last.new.layouts c.loop-i.i _ c.loop-i.lasts c.take_last.new.lasts _ (omega (arith, there)) less c.loop-i.invariant.once
    c.take_last.ensures.taken c.take_last.ensures.others c.loop-i.invariant.taken in
    record {
      same = ap length c.take_last.ensures.taken ∙ (length-set c.loop-i.layouts c.loop-i.i _ ∙ c.loop-i.invariant.same);
      once = step.0;
      taken = step.1;
    }

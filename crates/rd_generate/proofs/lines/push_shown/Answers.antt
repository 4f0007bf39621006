use Rattle.rd_generate.proofs.Texts.{shown-more, none-shown}
use Rattle.rd_generate.proofs.lines.push_shown.Goals as goal

pub loop-time-init : goal.loop-time-init
loop-time-init c = none-shown c.args.op.now c.args.lines.now

pub loop-time-preserved : goal.loop-time-preserved
loop-time-preserved c = shown-more _ _ _ _ _ _ c.loop-time.invariant c.in_ok-push.ensures c.in_ok-push-2.ensures

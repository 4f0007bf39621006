use Rattle.std.proofs.Common.{None}
use Rattle.rd_tests_screens.proofs.update.sent_within.Goals as goal

pub after-requires-clause-sent : goal.after-requires-clause-sent
after-requires-clause-sent c = (c.args.limit, (c.in-Ok.ensures.sends None c.in_ok-target.target c.in_ok-plan.ensures).sent)

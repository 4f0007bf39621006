use Rattle.rd_lineshift.specs.Choices.{choice}
use Rattle.rd_lineshift.specs.Plans.{after_shift}
use Rattle.rd_lineshift.proofs.Keeping.{by-updates}
use Rattle.rd_lineshift.proofs.law.shifted_updates_reach_their_targets.Goals as goal

pub returns : goal.returns
returns c =
    let law = c.updates_reach_their_targets.ensures in
    record { reached = by-updates _ law.reached; done = λ current target bands. law.done (after_shift (choice current target bands) current) target }

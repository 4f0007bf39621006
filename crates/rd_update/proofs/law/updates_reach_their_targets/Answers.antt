use Rattle.std.proofs.Common.{refl, sym}
use Rattle.rd_update.proofs.Parts.{after-done}
use Rattle.rd_update.proofs.law.updates_reach_their_targets.Goals as goal

pub returns : goal.returns
returns c = record { reached = λ current target limit size done. sym (after-done current target limit size done); done = λ current target. refl }

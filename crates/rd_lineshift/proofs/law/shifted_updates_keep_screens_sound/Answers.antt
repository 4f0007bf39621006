use Rattle.rd_lineshift.proofs.Keeping.{by-updates, sound}
use Rattle.rd_lineshift.proofs.law.shifted_updates_keep_screens_sound.Goals as goal

pub returns : goal.returns
returns c =
    let law = c.updates_keep_screens_sound.ensures in
    record { size = by-updates _ law.size; sound = sound law.sound }

use Rattle.rd_update.proofs.Soundness.{size-kept, sound-kept}
use Rattle.rd_update.proofs.law.updates_keep_screens_sound.Goals as goal

pub returns : goal.returns
returns c = record { size = size-kept; sound = sound-kept }

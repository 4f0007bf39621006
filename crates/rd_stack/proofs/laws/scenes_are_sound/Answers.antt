use Rattle.rd_stack.proofs.Sound.{table-sound}
use Rattle.rd_stack.proofs.laws.scenes_are_sound.Goals as goal

pub returns : goal.returns
returns c = λ settings objects files sound least most. record { table = table-sound objects sound settings.table; tab = (least, most) }

use Rattle.rd_visual.proofs.Covered.{comes-back}
use Rattle.rd_visual.proofs.laws.a_hit_comes_back.Goals as goal

pub returns : goal.returns
returns c = comes-back

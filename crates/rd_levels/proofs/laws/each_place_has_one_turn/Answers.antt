use Rattle.rd_levels.proofs.Turns.{one-turn}
use Rattle.rd_levels.proofs.laws.each_place_has_one_turn.Goals as goal

pub returns : goal.returns
returns c = one-turn

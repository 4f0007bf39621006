use Rattle.std.proofs.Common.{◌≡◌, ℕ, get_or, arith}
use Rattle.std.proofs.lemmas.Grind.{common_steps}
use Rattle.rd_text.proofs.gap.GapText.make_room.Goals as goal

pub returns-clause-right : goal.returns-clause-right
returns-clause-right c =
    let same : (k : ℕ) → get_or c.resize-2.new.self.items k 0 ≡ get_or c.move_gap.new.self.codes.items k 0 = λ k. grind (arith, common_steps) in
    grind (arith, common_steps, same)

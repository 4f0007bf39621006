use Rattle.std.proofs.Common.{ℕ, rules, eqb, get_or}
use Rattle.rd_lanes.proofs.Places.{is-last}
use Rattle.rd_lanes.proofs.search.rfind.Goals as goal

pub returns : goal.returns
returns c =
    let list = c.args.list.now in
    let p = λ (y : ℕ). eqb y c.args.x in
    is-last p list 0 c.last_place.result (c.last_place.ensures (λ k. p (get_or list k 0)) (λ k answer within told. search rules))

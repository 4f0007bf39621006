use Rattle.std.proofs.Common.{rules, leb, get_or}
use Rattle.rd_lanes.proofs.Places.{none-reaches}
use Rattle.rd_lanes.proofs.tally.all_below.Goals as goal

pub returns : goal.returns
returns c =
    let list = c.args.list.now in
    let limit = c.args.limit in
    let first = c.first_place.ensures (λ k. leb limit (get_or list k 0)) (λ k answer within told. search rules) in
    none-reaches limit list c.first_place.result c.is_none.result first c.is_none.ensures

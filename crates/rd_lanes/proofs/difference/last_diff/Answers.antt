use Rattle.std.proofs.Common.{rules, ◌∙◌}
use Rattle.rd_lanes.proofs.Places.{last-differs, differ, differs_at}
use Rattle.rd_lanes.proofs.difference.last_diff.Goals as goal

pub returns : goal.returns
returns c =
    let a = c.args.a.now in
    let b = c.args.b.now in
    last-differs a b c.last_place.result c.requires (c.last_place.ensures (differ a b) (λ k answer within told. differs_at a b k c.requires within ∙ search rules))

use Rattle.std.proofs.Common.{rules, ◌∙◌}
use Rattle.rd_lanes.proofs.Places.{first-differs, differ, differs_at}
use Rattle.rd_lanes.proofs.difference.first_diff.Goals as goal

pub returns : goal.returns
returns c =
    let a = c.args.a.now in
    let b = c.args.b.now in
    first-differs a b c.first_place.result c.requires (c.first_place.ensures (differ a b) (λ k answer within told. differs_at a b k c.requires within ∙ search rules))

use Rattle.std.proofs.Common.{eqb, sym, ◌∙◌}
use Rattle.std.proofs.lemmas.Bool.{eqb-true, not-false}
use Rattle.std.proofs.lemmas.Simd.{none_from_empty_mask}
use Rattle.rd_lanes.proofs.groups.may_equal.Goals as goal

pub returns : goal.returns
returns c h k from to =
    none_from_empty_mask (λ y. eqb y c.args.x) c.args.list.now c.args.at 8 0 c.requires (sym c.equal.ensures ∙ eqb-true _ 0 (not-false _ h)) k from to

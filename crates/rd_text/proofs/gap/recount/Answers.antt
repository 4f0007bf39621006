use Rattle.std.proofs.Common.{inl, inr, arith}
use Rattle.std.proofs.lemmas.Bool.{cases_lt}
use Rattle.rd_text.proofs.gap.recount.Goals as goal

pub returns : goal.returns
returns c =
    let inv = c.loop-k.invariant in
    let high = c.loop-k.auto.k-end in
    let stop = c.loop-k-test.false in
    record {
      size = c.loop-k.auto.stretches;
      counted = λ k d low less. inv.counted k d low (omega arith);
      below = inv.below;
      above = λ k d more. elim (cases_lt c.args.last c.args.first) [
        | inl none ↦ let e = inv.edge none in elim (cases_lt k c.args.first) [
          | inl less ↦ inv.below k d less
          | inr past ↦ inv.above k d (omega arith)
        ]
        | inr some ↦ inv.above k d (omega arith)
      ];
    }

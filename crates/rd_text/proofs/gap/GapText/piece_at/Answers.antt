use Rattle.std.proofs.Common.{◌+◌, ◌-◌, List, ℕ, subst, arith}
use Rattle.rd_text.specs.Pieces.{IsPart}
use Rattle.rd_text.proofs.Ranges.{part_front, part_back}
use Rattle.rd_text.proofs.gap.GapText.piece_at.Goals as goal

pub returns-then-at-self-clause-part : goal.returns-then-at-self-clause-part
returns-then-at-self-clause-part c =
    let g = c.args.self.now in
    let r = c.requires.right in
    let piece = c.around.result.codes.now in
    let min = c.min.ensures in
    part_front g.codes.items g.front g.back c.args.at c.args.from c.args.to piece r.order r.within c.requires.last c.min.result (omega arith) (omega arith)
    (subst (λ (xs : List ℕ). IsPart xs c.args.at c.args.from c.min.result piece) c.as_slice-codes.ensures.value c.around.ensures.part)

pub returns-clause-part : goal.returns-clause-part
returns-clause-part c =
    let g = c.args.self.now in
    let r = c.requires.right in
    let piece = c.around-2.result.codes.now in
    let max = c.max.ensures in
    let gap : ℕ = g.back - g.front in
    part_back g.codes.items g.front g.back c.args.at c.args.from c.args.to piece r.order r.within c.requires.last c.max.result (omega arith) (omega arith)
    (subst (λ (xs : List ℕ). IsPart xs (c.args.at + gap) (c.max.result + gap) (c.args.to + gap) piece) c.as_slice-codes.ensures.value c.around-2.ensures.part)

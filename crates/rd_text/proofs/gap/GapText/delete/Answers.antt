use Rattle.std.proofs.Common.{◌+◌, ◌-◌, ◌++◌, ℕ, take, drop, sym, ap, ◌∙◌, arith}
use Rattle.rd_text.specs.Gaps.{text_of}
use Rattle.rd_text.proofs.Moves.{taken_text}
use Rattle.rd_text.proofs.gap.GapText.delete.Goals as goal

pub returns-clause-text : goal.returns-clause-text
returns-clause-text c =
    let m = c.move_gap.new.self in
    let e = c.move_gap.ensures.front in
    let order = c.move_gap.ensures.right.order in
    let within = c.move_gap.ensures.right.within in
    let back : ℕ = m.back + (c.args.to - c.args.from) in
    ap (λ (n : ℕ). take n m.codes.items ++ drop back m.codes.items) e
    ∙ taken_text m.codes.items (text_of c.args.self.now) c.args.from c.args.to m.back (omega arith) c.requires.order
    (sym c.move_gap.ensures.text ∙ ap (λ (n : ℕ). take n m.codes.items ++ drop m.back m.codes.items) e)

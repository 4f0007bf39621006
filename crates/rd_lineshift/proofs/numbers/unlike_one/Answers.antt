use Rattle.std.proofs.Common.{List, ℕ, length, ap, ◌∙◌}
use Rattle.std.proofs.lemmas.List.{take-replicate}
use Rattle.rd_lineshift.specs.Numbers.{unlike}
use Rattle.rd_lineshift.proofs.numbers.unlike_one.Goals as goal

pub returns-clause-value : goal.returns-clause-value
returns-clause-value c =
    let others = c.args.others.now in
    c.unlike.ensures.value ∙ ap (λ (xs : List ℕ). unlike xs others) (take-replicate (length others) 200 c.args.number c.requires.few)

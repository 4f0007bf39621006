use Rattle.std.proofs.Common.{◌≡◌, ℕ, List, ◌<◌, ◌+◌, ◌∷◌, length, drop, ap, sym, ◌∙◌, arith}
use Rattle.rd_resolve.specs.Places.{types_at}
use Rattle.rd_brackets.specs.Pairs.{roles}
use Rattle.rd_brackets.specs.Sides.{codes_at}
use Rattle.rd_brackets.specs.declared.role.Role.{Role}
use Rattle.rd_brackets.proofs.Steps.{roles-read, pairs-next, no-pairs}
use Rattle.rd_brackets.proofs.matching.bd16_pairs_of.Goals as goal
use Rattle.rd_brackets.proofs.matching.bd16_pairs_of.Goals.{After-add}

-- the roles from the place on, and those behind it
abbrev left : goal.After-add → ℕ → List Role
left c k = let is = drop k c.args.seq.now.indexes in roles c.args.brackets.now (types_at is c.args.line.now.types) (codes_at is c.args.codes.now)

read : (c : goal.After-add) → left c c.loop-place.place ≡ c.bd14_bd15_role-role.result ∷ left c (c.loop-place.place + 1)
read c =
    roles-read c.args.brackets.now c.args.seq.now.indexes c.loop-place.place c.at-i.result c.args.line.now.types c.args.codes.now c.at.result c.at-i.ensures c.at.ensures
    ∙ ap (λ r. r ∷ left c (c.loop-place.place + 1)) (sym c.bd14_bd15_role-role.ensures)

pub returns-then-not-branch-clause-pairs : goal.returns-then-not-branch-clause-pairs
returns-then-not-branch-clause-pairs c =
    let at = (goal.at.returns-then-not-branch-clause-pairs c).After-add in
    let k = c.loop-place.place in
    c.new-then-not-branch.ensures
    ∙ sym (no-pairs c.loop-place.matching c.add.new.self k c.bd14_bd15_role-role.result c.in_ok-add.field-0 c.in_ok-add.ensures.pairs c.if-not-branch.true _ (left at (k + 1)) (roles c.args.brackets.now (types_at c.args.seq.now.indexes c.args.line.now.types) (codes_at c.args.seq.now.indexes c.args.codes.now)) (read at) c.loop-place.invariant.all)

pub loop-place-preserved : goal.loop-place-preserved
loop-place-preserved c =
    let at = (goal.at.loop-place-preserved c).After-add in
    let k = c.loop-place.place in
    let within : k < length c.args.seq.now.indexes = omega (arith, c.loop-place-test.true, c.len-place-end.ensures) in
    record {
      all = pairs-next c.loop-place.matching c.add.new.self k c.bd14_bd15_role-role.result c.in_ok-add.field-0 c.in_ok-add.ensures.pairs c.if-not-branch.false _ (left at (k + 1)) _ (read at) c.loop-place.invariant.all;
      opened = λ j d h. let below = c.in_ok-add.ensures.opened_before j d h in omega arith;
      pairs = λ j d h. let below = c.in_ok-add.ensures.pairs_before j d h in let one = below.0 in let two = below.1 in (omega arith, omega arith);
    }

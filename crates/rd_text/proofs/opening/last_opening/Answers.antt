use Rattle.std.proofs.Common.{◌≡◌, false, true, List, ℕ, ◌++◌, drop, subst, arith}
use Rattle.rd_text.specs.Stretches.{opens, separated}
use Rattle.rd_text.proofs.Openings.{some_opening}
use Rattle.rd_text.proofs.opening.last_opening.Goals as goal

pub returns : goal.returns
returns c =
    let e : c.loop-at.at ≡ 0 = omega (arith, c.loop-at-test.false) in
    let C : ℕ → Type 0 = λ n. (rest : List ℕ) → opens rest ≡ c.args.opened → separated rest ≡ false → separated (drop n c.args.codes.now ++ rest) ≡ false in
    let never : false ≡ true = some_opening c.args.codes.now c.args.opened c.requires (subst C e c.loop-at.invariant.clear) in
    absurd cc

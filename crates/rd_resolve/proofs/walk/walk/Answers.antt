use Rattle.std.proofs.Common.{◌≡◌, ◌+◌, ◌∷◌, drop, ap, ap₂, sym, subst, ◌∙◌}
use Rattle.rd_resolve.specs.Places.{types_at, levels_at}
use Rattle.rd_resolve.proofs.Places.{types-read, levels-read, walk-step, keeps-on}
use Rattle.rd_resolve.proofs.walk.walk.Goals as goal

pub step-given-requires-clause-known : goal.step-given-requires-clause-known
step-given-requires-clause-known g c = subst (g.R.WalkRules.is_known c.loop-k.rules) c.walked_character-walked.ensures.left.0 c.loop-k.invariant.known

pub loop-k-preserved : goal.loop-k-preserved
loop-k-preserved g c =
    let is = c.args.seq.now.indexes in
    let k = c.loop-k.k in
    let walked = c.walked_character-walked in
    let level = walked.result.level in
    let line = c.set_type.new.self in
    let left = g.R.WalkRules.left c.loop-k.rules in
    let new = c.step-given.new.self in
    let inv = c.loop-k.invariant in
    let vs = types_at walked.result.rest.now walked.result.types.now in
    let CS = types_at (drop (k + 1) is) line.classes in
    let LS = levels_at (drop (k + 1) is) line.levels in
    let classes : types_at (drop k is) c.loop-k.line.classes ≡ walked.result.original ∷ CS =
    types-read is k walked.result.index walked.ensures.index c.loop-k.line.classes walked.result.original walked.ensures.original
    ∙ ap (λ cs. walked.result.original ∷ types_at (drop (k + 1) is) cs) (sym c.set_type.ensures.rest.classes) in
    let levels : levels_at (drop k is) c.loop-k.line.levels ≡ level ∷ LS =
    levels-read is k walked.result.index walked.ensures.index c.loop-k.line.levels level walked.ensures.level ∙ ap (λ ms. level ∷ levels_at (drop (k + 1) is) ms) (sym c.set_type.ensures.levels) in
    let (step, stays) = walk-step is k walked.result.index walked.ensures.index c.requires.ascend
    (λ us. left (types_at (drop k is) c.loop-k.line.classes) us (levels_at (drop k is) c.loop-k.line.levels))
    (λ us. g.R.WalkRules.left new CS us LS)
    c.loop-k.line.types line.types c.step-given.result walked.result.class vs walked.ensures.left
    (ap₂ (λ cs ls. left cs (walked.result.class ∷ vs) ls) classes levels ∙ c.step-given.ensures.left CS LS) c.set_type.ensures.types in
    record {
      left = step ∙ inv.left;
      known = subst (g.R.WalkRules.is_known new) stays c.step-given.ensures.known;
      levels = c.set_type.ensures.levels ∙ inv.levels;
      keeps = keeps-on _ _ _ inv.keeps c.set_type.ensures.rest;
    }

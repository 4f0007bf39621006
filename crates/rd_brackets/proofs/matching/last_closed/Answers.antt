use Rattle.std.proofs.Common.{◌≡◌, ◌-◌, ◌∙◌, Some, take, reverse, refl, ap, sym, arith}
use Rattle.std.proofs.lemmas.List.{get_or_default}
use Rattle.rd_brackets.specs.Pairs.{opener, below}
use Rattle.rd_brackets.specs.declared.matching.Opened.{Opened}
use Rattle.rd_brackets.proofs.Stacks.{fits, unlike}
use Rattle.rd_brackets.proofs.matching.last_closed.Goals as goal

abbrev nothing : Opened
nothing = record { place = 0; partner = 0 }

pub returns-then-opened-count : goal.returns-then-opened-count
returns-then-opened-count c =
    let inv = c.loop-count.invariant in
    let within = inv.within in
    let some = c.loop-count-test.true in
    let os = c.args.opened.now in
    let n = c.loop-count.count in (
      omega arith,
      λ d. sym inv.opener ∙ fits (opener c.args.code) (λ o _. Some o.place) c.args.code (λ _ _. refl)
          os n (n - 1) nothing (omega arith) (omega arith) c.if-opened-count.true
          ∙ ap (λ (o : Opened). Some o.place) (get_or_default os (n - 1) nothing d (omega arith)),
      sym inv.below ∙ fits (below c.args.code) (λ _ rest. rest) c.args.code (λ _ _. refl)
          os n (n - 1) nothing (omega arith) (omega arith) c.if-opened-count.true,
    )

pub loop-count-preserved : goal.loop-count-preserved
loop-count-preserved c =
    let inv = c.loop-count.invariant in
    let within = inv.within in
    let some = c.loop-count-test.true in
    let os = c.args.opened.now in
    let n = c.loop-count.count in
    record {
      within = omega arith;
      opener = unlike (opener c.args.code) (λ o _. Some o.place) c.args.code (λ _ _. refl)
          os n (n - 1) nothing (omega arith) (omega arith) c.if-opened-count.false ∙ inv.opener;
      below = unlike (below c.args.code) (λ _ rest. rest) c.args.code (λ _ _. refl)
          os n (n - 1) nothing (omega arith) (omega arith) c.if-opened-count.false ∙ inv.below;
    }

pub returns : goal.returns
returns c =
    let none : c.loop-count.count ≡ 0 = omega arith in
    sym c.loop-count.invariant.opener ∙ ap (λ k. opener c.args.code (reverse (take k c.args.opened.now))) none

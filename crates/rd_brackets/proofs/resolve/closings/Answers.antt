use Rattle.std.proofs.Common.{◌≡◌, ℕ, ◌-◌, ◌+◌, ◌<◌, ◌∷◌, length, drop, get_or, set, Option, None, Some, All, ap, sym, subst, ◌∙◌, arith}
use Rattle.std.specs.Prelude.{IfSome, replicate}
use Rattle.std.proofs.lemmas.List.{drop_more, drop_all}
use Rattle.std.proofs.lemmas.List.FromFn.{length-map-range_with_len}
use Rattle.std.proofs.lemmas.List.Elements.{All-replicate, All-set}
use Rattle.rd_brackets.specs.Pairs.{closing_of, closings}
use Rattle.rd_brackets.specs.declared.matching.Pair.{Pair}
use Rattle.rd_brackets.proofs.Closings.{none-close, close-more}
use Rattle.rd_brackets.proofs.resolve.closings.Goals as goal

abbrev nothing : Pair
nothing = record { opening = 0; closing = 0 }

pub loop-left-init : goal.loop-left-init
loop-left-init c =
    let pairs = c.args.pairs.now in
    let n = c.args.count in
    let made : c.in_ok-found.found ≡ replicate n None = c.in_ok-found.ensures in
    record {
      within = omega arith;
      found = made ∙ sym (none-close 0 n) ∙ sym (ap (λ ps. closings ps n) (drop_all (length pairs) pairs (omega arith)));
      inside = subst (All (λ (closing : Option ℕ). IfSome closing (λ place. place < n))) (sym made)
          (All-replicate (λ (closing : Option ℕ). IfSome closing (λ place. place < n)) n None tt);
    }

pub set-requires : goal.set-requires
set-requires c =
    let inv = c.loop-left.invariant in
    let within = inv.within in
    let some = c.loop-left-test.true in
    let before = c.requires (c.loop-left.left - 1) nothing (omega arith) in
    let opening = before.0 in
    let size = ap length inv.found ∙ length-map-range_with_len (closing_of (drop c.loop-left.left c.args.pairs.now)) 0 c.args.count in
    omega arith

pub loop-left-preserved : goal.loop-left-preserved
loop-left-preserved c =
    let inv = c.loop-left.invariant in
    let within = inv.within in
    let some = c.loop-left-test.true in
    let pairs = c.args.pairs.now in
    let left = c.loop-left.left in
    let n = c.args.count in
    let p = get_or pairs (left - 1) nothing in
    let before = c.requires (left - 1) nothing (omega arith) in
    let next : left - 1 + 1 ≡ left = omega arith in
    let front : drop (left - 1) pairs ≡ p ∷ drop left pairs = drop_more pairs (left - 1) nothing (omega arith) ∙ ap (λ k. p ∷ drop k pairs) next in
    record {
      within = omega arith;
      found = c.set.ensures ∙ ap (λ l. set l p.opening (Some p.closing)) inv.found
          ∙ close-more p (drop left pairs) 0 n p.opening (omega arith) before.0
          ∙ sym (ap (λ ps. closings ps n) front);
      inside = subst (All (λ (closing : Option ℕ). IfSome closing (λ place. place < n))) (sym c.set.ensures)
          (All-set (λ (closing : Option ℕ). IfSome closing (λ place. place < n)) c.loop-left.found p.opening (Some p.closing) before.1 inv.inside);
    }

use Rattle.std.proofs.Common.{◌≡◌, ◌<◌, ◌+◌, length, drop, ap, ap₂, sym, ◌∙◌, arith}
use Rattle.rd_resolve.proofs.Places.{keeps-on}
use Rattle.rd_brackets.specs.Sides.{n0_brackets_in}
use Rattle.rd_levels.specs.Levels.{x10_resolved, resolved_in, weak_in, neutral_in}
use Rattle.rd_levels.proofs.Sequences.{x10_resolved-step}
use Rattle.rd_levels.proofs.fill.x10_resolve.Goals as goal

pub loop-k-preserved : goal.loop-k-preserved
loop-k-preserved c =
    let found = c.args.found.now in
    let k = c.loop-k.k in
    let s = c.get-seq.result.now in
    let ts = c.loop-k.line.types in
    let classes = c.args.line.now.classes in
    let codes = c.args.codes.now in
    let entries = c.args.brackets.now in
    let levels = c.args.line.now.levels in
    let inv = c.loop-k.invariant in
    let within : k < length found = omega (arith, c.loop-k-test.true, c.len-k-end.ensures) in
    let weak_levels = c.weak.ensures.levels ∙ inv.levels in
    let weak_classes = c.weak.ensures.rest.classes ∙ inv.keeps.classes in
    let paired : c.pair.new.line.types ≡ n0_brackets_in entries classes codes levels s (weak_in s ts) =
    c.in_ok-pair.ensures.types
    ∙ ap₂ (λ cs ls. n0_brackets_in entries cs codes ls s c.weak.new.line.types) weak_classes weak_levels
    ∙ ap (n0_brackets_in entries classes codes levels s) c.weak.ensures.types in
    let given : c.neutral.new.line.types ≡ resolved_in entries classes codes levels s ts =
    c.neutral.ensures.types ∙ ap₂ (λ ls us. neutral_in ls s us) (c.pair.ensures.levels ∙ weak_levels) paired in
    record {
      types = ap (x10_resolved entries classes codes levels (drop (k + 1) found)) given
          ∙ sym (x10_resolved-step entries classes codes levels found k s ts c.get-seq.ensures) ∙ inv.types;
      levels = c.neutral.ensures.levels ∙ c.pair.ensures.levels ∙ weak_levels;
      keeps = keeps-on _ _ _ inv.keeps (keeps-on _ _ _ c.weak.ensures.rest (keeps-on _ _ _ c.pair.ensures.rest c.neutral.ensures.rest));
    }

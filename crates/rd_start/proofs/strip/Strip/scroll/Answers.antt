use Rattle.std.specs.Int.{is_negative}
use Rattle.std.specs.Prelude.{unsigned_abs}
use Rattle.std.proofs.lemmas.Int.{to_z-of_z}
use Rattle.std.proofs.Common.{rules, w64, ◌≡◌, ℕ, ◌+◌, ◌-◌, min, length, refl, sym, ap, ◌∙◌, arith}
use Rattle.rd_start.specs.Strips.{IsStrip}
use Rattle.rd_start.specs.declared.strip.Edge.TheVariants.{Bottom, Top}
use Rattle.rd_start.specs.declared.strip.Strip.{Strip}
use Rattle.rd_start.proofs.Reaching.{pays-failed}
use Rattle.rd_start.proofs.Scrolling.{Scrolls, scrolled-down, scrolled-up}
use Rattle.rd_start.proofs.strip.Strip.scroll.Given as given
use Rattle.rd_start.proofs.strip.Strip.scroll.Goals as goal
use Rattle.rd_start.proofs.strip.Strip.scroll.Goals.{Else-is_negative, Then-is_negative}

-- where the start is scrolled up, and where it is scrolled down
up : (g : given.Over) (c : goal.Then-is_negative g) (s : Strip) → IsStrip (g.B.BlockSource.meaning c.args.source.now) s
    → Scrolls Top (g.B.BlockSource.meaning c.args.source.now) s c.args.wanted.pending c.unsigned_abs-rows.result (s.home - c.unsigned_abs-rows.result)
up g c s strip =
    let whole = to_z-of_z w64 c.args.wanted.pending (search rules) in
    scrolled-up (g.B.BlockSource.meaning c.args.source.now) s c.args.wanted.pending c.unsigned_abs-rows.result strip
    (sym (ap is_negative whole) ∙ (sym c.is_negative.ensures ∙ c.if-is_negative.true)) (c.unsigned_abs-rows.ensures.value ∙ ap unsigned_abs whole)

down : (g : given.Over) (c : goal.Else-is_negative g) (s : Strip) (place : ℕ) → place ≡ s.home + c.unsigned_abs-rows.result → IsStrip (g.B.BlockSource.meaning c.args.source.now) s
    → Scrolls Bottom (g.B.BlockSource.meaning c.args.source.now) s c.args.wanted.pending (place + 1) (min place (length s.strip_rows.items - 1))
down g c s place at strip =
    let whole = to_z-of_z w64 c.args.wanted.pending (search rules) in
    scrolled-down (g.B.BlockSource.meaning c.args.source.now) s c.args.wanted.pending c.unsigned_abs-rows.result place strip
    (sym (ap is_negative whole) ∙ (sym c.is_negative.ensures ∙ c.if-is_negative.false)) (c.unsigned_abs-rows.ensures.value ∙ ap unsigned_abs whole) at

pub returns-in_err-reach-clause-paid : goal.returns-in_err-reach-clause-paid
returns-in_err-reach-clause-paid g c =
    let s = c.args.self.now in
    let scrolls = up g (goal.at.returns-in_err-reach-clause-paid g c).Then-is_negative s c.requires in
    pays-failed c.from_residual.result (g.B.BlockSource.meaning c.args.source.now) s c.reach.new.self c.args.steps.now c.reach.new.steps c.from_residual.ensures.0
    (λ kind base paid asks. c.in_err-reach.ensures.paid kind base paid (scrolls.1 kind asks))

pub returns-then-is_negative-clause-place : goal.returns-then-is_negative-clause-place
returns-then-is_negative-clause-place g c =
    let scrolls = up g (goal.at.returns-then-is_negative-clause-place g c).Then-is_negative c.reach.new.self c.in_ok-reach.ensures.strip in
    scrolls.0 c.args.self.now.sweep c.saturating_sub.result c.in_ok-reach.ensures.reached c.in_ok-reach.ensures.sweep c.saturating_sub.ensures

pub returns-then-is_negative-clause-paid : goal.returns-then-is_negative-clause-paid
returns-then-is_negative-clause-paid g c = λ kind base paid asks.
    c.in_ok-reach.ensures.paid kind base paid ((up g (goal.at.returns-then-is_negative-clause-paid g c).Then-is_negative c.args.self.now c.requires).1 kind asks)

pub returns-in_err-reach-2-clause-paid : goal.returns-in_err-reach-2-clause-paid
returns-in_err-reach-2-clause-paid g c =
    let s = c.args.self.now in
    let scrolls = down g (goal.at.returns-in_err-reach-2-clause-paid g c).Else-is_negative s (s.home + c.unsigned_abs-rows.result) refl c.requires in
    pays-failed c.from_residual-in_err-reach-2.result (g.B.BlockSource.meaning c.args.source.now) s c.reach-2.new.self c.args.steps.now c.reach-2.new.steps c.from_residual-in_err-reach-2.ensures.0
    (λ kind base paid asks. c.in_err-reach-2.ensures.paid kind base paid (scrolls.1 kind asks))

pub returns-clause-place : goal.returns-clause-place
returns-clause-place g c =
    let new = c.reach-2.new.self in
    let home = c.in_ok-reach-2.ensures.grows.0 in
    let size = new.strip_rows.ok.0 in
    let scrolls = down g (goal.at.returns-clause-place g c).Else-is_negative new (c.args.self.now.home + c.unsigned_abs-rows.result) (omega (arith, home)) c.in_ok-reach-2.ensures.strip in
    scrolls.0 c.args.self.now.sweep c.min.result c.in_ok-reach-2.ensures.reached c.in_ok-reach-2.ensures.sweep (omega (arith, c.min.ensures, c.len.ensures, size))

pub returns-clause-paid : goal.returns-clause-paid
returns-clause-paid g c = λ kind base paid asks.
    let s = c.args.self.now in
    let scrolls = down g (goal.at.returns-clause-paid g c).Else-is_negative s (s.home + c.unsigned_abs-rows.result) refl c.requires in
    c.in_ok-reach-2.ensures.paid kind base paid (scrolls.1 kind asks)

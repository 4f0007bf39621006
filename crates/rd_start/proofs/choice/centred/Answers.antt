use Rattle.std.proofs.Common.{◌≡◌, ℕ, ◌+◌, ◌-◌, ◌/◌, ap, subst, ◌∙◌, arith}
use Rattle.rd_matrix.specs.Sources.{SourceValues}
use Rattle.rd_start.specs.Strips.{IsStrip, BeginsAbove, all_costs, first_row, point_row}
use Rattle.rd_start.specs.declared.strip.Edge.TheVariants.{Top}
use Rattle.rd_start.proofs.Reaching.{EdgeFails, pays}
use Rattle.rd_start.proofs.Moving.{CentredPays, asks-above, centre-place, costs-same, value-centre}
use Rattle.rd_start.proofs.choice.centred.Given as given
use Rattle.rd_start.proofs.choice.centred.Goals as goal
use Rattle.rd_start.proofs.choice.centred.Goals.{After-saturating_sub-above}

pub returns-in_err-strip-clause-steps : goal.returns-in_err-strip-clause-steps
returns-in_err-strip-clause-steps g c = λ kind base paid asks.
    let p = point_row (g.B.BlockSource.meaning c.args.source.now) c.args.window.strip.sweep in
    c.in_err-strip.ensures.paid kind base paid (asks p (omega arith) (omega arith))

-- what is spent where the strip grows to so many rows above point's row
spent : (g : given.Over) (c : goal.After-saturating_sub-above g) (steps : ℕ)
    → EdgeFails Top (g.B.BlockSource.meaning c.with_point.new.source) c.in_ok-strip.strip c.with_point.new.steps steps c.saturating_sub-above.result
    → CentredPays (g.B.BlockSource.meaning c.args.source.now) c.args.window.strip c.args.window.wanted c.args.steps.now steps
spent g c steps fails = λ kind base paid asks.
    let m = g.B.BlockSource.meaning c.args.source.now in
    let old = c.args.window.strip.sweep in
    let w = c.args.window.wanted in
    let s = c.in_ok-strip.strip in
    let row = c.in_ok-strip.row in
    let up = c.saturating_sub-above.result in
    let found = c.in_ok-strip.ensures.strip in
    let at = c.in_ok-strip.ensures.place in
    let rows : up ≡ s.home + w.height / 2 - row = omega (arith, c.saturating_sub-above.ensures, c.home-home.ensures) in
    let had = c.in_ok-strip.ensures.paid kind base paid (asks (point_row m old) (omega arith) (omega arith)) in
    let above = asks-above kind m old s w row (w.height / 2) up found.0 at.0 at.1 (omega arith) rows found.1 found.2 asks in
    let here = subst (λ (x : SourceValues). EdgeFails Top x s c.with_point.new.steps steps up) c.with_point.ensures.stays fails in
    let bound = here kind (base + all_costs kind m old) had above in
    let costs = costs-same kind m old s.sweep found.2 in
    omega (arith, bound, costs)

pub returns-in_err-reach-clause-steps : goal.returns-in_err-reach-clause-steps
returns-in_err-reach-clause-steps g c =
    spent g (goal.at.returns-in_err-reach-clause-steps g c).After-saturating_sub-above c.reach.new.steps c.in_err-reach.ensures.paid

pub returns-clause-value : goal.returns-clause-value
returns-clause-value g c =
    let m = g.B.BlockSource.meaning c.args.source.now in
    let old = c.args.window.strip.sweep in
    let s = c.in_ok-strip.strip in
    let new = c.reach.new.self in
    let w = c.args.window.wanted in
    let half = w.height / 2 in
    let found = c.in_ok-strip.ensures.strip in
    let row = c.in_ok-strip.row in
    let at = c.in_ok-strip.ensures.place in
    let up = c.saturating_sub-above.result in
    let rows : up ≡ s.home + half - row = omega (arith, c.saturating_sub-above.ensures, c.home-home.ensures) in
    let strip = subst (λ (x : SourceValues). IsStrip x new) c.with_point.ensures.stays c.in_ok-reach.ensures.strip in
    let begins = subst (λ n. BeginsAbove m new n) rows (subst (λ (x : SourceValues). BeginsAbove x new up) c.with_point.ensures.stays c.in_ok-reach.ensures.reached) in
    let grows = c.in_ok-reach.ensures.grows in
    let place = centre-place m s new row half found.0 strip c.in_ok-reach.ensures.sweep at.0 at.1 grows.0 grows.1 begins in
    let start = c.saturating_sub.result in
    let is : start ≡ row + (new.home - s.home) - half = omega (arith, c.saturating_sub.ensures, c.home-home.ensures, c.home.ensures) in
    value-centre m old.shape s new w start c.starting_at.result c.in_ok-reach.ensures.sweep found.2 (found.1 ∙ c.requires.point)
    (ap (λ n. first_row m new + n) is ∙ place.1) (c.starting_at.ensures m strip)

pub returns-clause-steps : goal.returns-clause-steps
returns-clause-steps g c =
    spent g (goal.at.returns-clause-steps g c).After-saturating_sub-above c.reach.new.steps (λ kind base paid asks.
    pays kind base (g.B.BlockSource.meaning c.with_point.new.source) c.in_ok-strip.strip.sweep c.reach.new.self c.reach.new.steps c.in_ok-reach.ensures.sweep
    (c.in_ok-reach.ensures.paid kind base paid asks))

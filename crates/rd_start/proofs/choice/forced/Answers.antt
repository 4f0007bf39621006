use Rattle.std.proofs.Common.{ℕ, ◌+◌, subst, ap, ◌∙◌, arith}
use Rattle.rd_matrix.specs.Sources.{SourceValues}
use Rattle.rd_start.specs.Strips.{IsStrip, AsksAt, Reaches, all_costs}
use Rattle.rd_start.specs.declared.strip.Edge.TheVariants.{Bottom}
use Rattle.rd_start.specs.declared.strip.Sweep.{Sweep}
use Rattle.rd_start.proofs.Reaching.{EdgeFails, EdgePays, pays}
use Rattle.rd_start.proofs.Moving.{NearPaid, asks-forced, asks-scrolled, first-same, near_of, value-forced}
use Rattle.rd_start.proofs.choice.forced.Given as given
use Rattle.rd_start.proofs.choice.forced.Goals as goal
use Rattle.rd_start.proofs.choice.forced.Goals.{In_ok-start}

pub returns-in_err-start-clause-steps : goal.returns-in_err-start-clause-steps
returns-in_err-start-clause-steps g c = λ base paid.
    let m = g.B.BlockSource.meaning c.args.source.now in
    let win = c.args.window in
    let bound = c.in_err-start.ensures.paid (near_of m win.strip.sweep win.wanted) base paid (asks-scrolled m win.strip.sweep win.wanted c.requires.of c.requires.kind c.requires.height) in
    omega (arith, bound)

-- what was paid once the start is scrolled, and what is asked for below it
scrolled : (g : given.Over) (c : goal.In_ok-start g) (base : ℕ) → NearPaid (g.B.BlockSource.meaning c.args.source.now) c.args.window c.args.window.strip base c.args.steps.now
    → NearPaid (g.B.BlockSource.meaning c.args.source.now) c.args.window c.scroll.new.self base c.scroll.new.steps
scrolled g c base paid =
    let m = g.B.BlockSource.meaning c.args.source.now in
    let win = c.args.window in
    c.in_ok-start.ensures.paid (near_of m win.strip.sweep win.wanted) base paid (asks-scrolled m win.strip.sweep win.wanted c.requires.of c.requires.kind c.requires.height)

asks : (g : given.Over) (c : goal.In_ok-start g)
    → AsksAt Bottom (near_of (g.B.BlockSource.meaning c.args.source.now) c.args.window.strip.sweep c.args.window.wanted) (g.B.BlockSource.meaning c.args.source.now) c.scroll.new.self (c.in_ok-start.start + c.args.window.wanted.height)
asks g c =
    let m = g.B.BlockSource.meaning c.args.source.now in
    let win = c.args.window in
    let place = c.in_ok-start.ensures.place in
    asks-forced m win.strip.sweep c.scroll.new.self win.wanted c.in_ok-start.start c.in_ok-start.ensures.strip c.in_ok-start.ensures.sweep c.requires.of c.requires.kind place.0 place.1

pub returns-in_err-reach-clause-steps : goal.returns-in_err-reach-clause-steps
returns-in_err-reach-clause-steps g c = λ base paid.
    let m = g.B.BlockSource.meaning c.args.source.now in
    let win = c.args.window in
    let kind = near_of m win.strip.sweep win.wanted in
    let start = goal.at.returns-in_err-reach-clause-steps g c in
    let fails = subst (λ (x : SourceValues). EdgeFails Bottom x c.scroll.new.self c.scroll.new.steps c.reach.new.steps (c.in_ok-start.start + win.wanted.height)) c.scroll.ensures.stays
    c.in_err-reach.ensures.paid in
    let bound = fails kind base (scrolled g start.In_ok-start base paid) (asks g start.In_ok-start) in
    let costs = ap (λ (x : Sweep). all_costs kind m x) c.in_ok-start.ensures.sweep in
    omega (arith, bound, costs)

pub returns-clause-value : goal.returns-clause-value
returns-clause-value g c =
    let m = g.B.BlockSource.meaning c.args.source.now in
    let win = c.args.window in
    let new = c.reach.new.self in
    let start = c.in_ok-start.start in
    let strip = subst (λ (x : SourceValues). IsStrip x new) c.scroll.ensures.stays c.in_ok-reach.ensures.strip in
    let reached = subst (λ (x : SourceValues). Reaches x new (start + win.wanted.height)) c.scroll.ensures.stays c.in_ok-reach.ensures.reached in
    let first = first-same m c.scroll.new.self new c.in_ok-reach.ensures.sweep c.in_ok-reach.ensures.grows.0 in
    value-forced m win.strip.sweep new win.wanted start c.forced_point.result c.anchor.result (c.in_ok-reach.ensures.sweep ∙ c.in_ok-start.ensures.sweep) c.requires.of c.requires.kind
    (ap (λ n. n + start) first ∙ c.in_ok-start.ensures.place.1) (c.anchor.ensures m strip) (c.forced_point.ensures m strip reached)

pub returns-clause-steps : goal.returns-clause-steps
returns-clause-steps g c = λ base paid.
    let m = g.B.BlockSource.meaning c.args.source.now in
    let win = c.args.window in
    let new = c.reach.new.self in
    let start = goal.at.returns-clause-steps g c in
    let paying = subst (λ (x : SourceValues). EdgePays Bottom x c.scroll.new.self new c.scroll.new.steps c.reach.new.steps (c.in_ok-start.start + win.wanted.height)) c.scroll.ensures.stays
    c.in_ok-reach.ensures.paid in
    let bound = pays (near_of m win.strip.sweep win.wanted) base m win.strip.sweep new c.reach.new.steps (c.in_ok-reach.ensures.sweep ∙ c.in_ok-start.ensures.sweep)
    (paying (near_of m win.strip.sweep win.wanted) base (scrolled g start.In_ok-start base paid) (asks g start.In_ok-start)) in
    omega (arith, bound)

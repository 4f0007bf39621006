use Rattle.std.proofs.Common.{◌≡◌, ℕ, ◌+◌, refl, subst, sym, ap, ◌∙◌, arith}
use Rattle.std.specs.Prelude.{IfOk}
use Rattle.rd_matrix.specs.Sources.{SourceValues}
use Rattle.rd_start.specs.Strips.{FindsNear, IsStrip, IsUnsuited, all_costs, centred_chosen}
use Rattle.rd_start.specs.declared.strip.Edge.TheVariants.{Bottom}
use Rattle.rd_start.specs.declared.strip.Sweep.{Sweep}
use Rattle.rd_start.specs.declared.wanted.Chosen.{Chosen}
use Rattle.rd_start.specs.declared.window.Window.{Window}
use Rattle.rd_start.proofs.Reaching.{EdgeFails, EdgePays}
use Rattle.rd_start.proofs.Moving.{CentredPays, NearPaid, asks-far, asks-point, far-above, far-below, follows-centre, follows-near, near_of, result-centred, spent-near, unsuited-on, value-free}
use Rattle.rd_start.proofs.choice.moving.Given as given
use Rattle.rd_start.proofs.choice.moving.Goals as goal
use Rattle.rd_start.proofs.choice.moving.Goals.{In_ok-reach-2, In_ok-start}

pub returns-in_err-reach-clause-steps : goal.returns-in_err-reach-clause-steps
returns-in_err-reach-clause-steps g c = λ base paid.
    let m = g.B.BlockSource.meaning c.args.source.now in
    let win = c.args.window in
    let asks = asks-far m win c.requires win.strip refl in
    let bound = c.in_err-reach.ensures.paid (near_of m win.strip.sweep win.wanted) base paid asks in
    omega (arith, bound)

pub returns-in_err-reach-2-clause-steps : goal.returns-in_err-reach-2-clause-steps
returns-in_err-reach-2-clause-steps g c = λ base paid.
    let m = g.B.BlockSource.meaning c.args.source.now in
    let win = c.args.window in
    let up = c.reach.new.self in
    let same = c.in_ok-reach.ensures.sweep in
    let count = c.home.result + win.wanted.conservatively + win.wanted.height + 1 in
    let fails = subst (λ (x : SourceValues). EdgeFails Bottom x up c.reach.new.steps c.reach-2.new.steps count) c.reach.ensures.stays c.in_err-reach-2.ensures.paid in
    let bound = fails (near_of m win.strip.sweep win.wanted) base (far-above m win up c.args.steps.now c.reach.new.steps base c.requires c.in_ok-reach.ensures.paid paid)
    (far-below m win up c.home.result c.requires c.in_ok-reach.ensures.strip same c.home.ensures) in
    let costs = ap (λ (x : Sweep). all_costs (near_of m win.strip.sweep win.wanted) m x) same in
    omega (arith, bound, costs)

-- what was paid once the rows are laid out to which the start may be moved
laid : (g : given.Over) (c : goal.In_ok-reach-2 g) (base : ℕ) → NearPaid (g.B.BlockSource.meaning c.args.source.now) c.args.window c.args.window.strip base c.args.steps.now
    → NearPaid (g.B.BlockSource.meaning c.args.source.now) c.args.window c.reach-2.new.self base c.reach-2.new.steps
laid g c base paid =
    let m = g.B.BlockSource.meaning c.args.source.now in
    let win = c.args.window in
    let up = c.reach.new.self in
    let count = c.home.result + win.wanted.conservatively + win.wanted.height + 1 in
    let paying = subst (λ (x : SourceValues). EdgePays Bottom x up c.reach-2.new.self c.reach.new.steps c.reach-2.new.steps count) c.reach.ensures.stays c.in_ok-reach-2.ensures.paid in
    paying (near_of m win.strip.sweep win.wanted) base (far-above m win up c.args.steps.now c.reach.new.steps base c.requires c.in_ok-reach.ensures.paid paid)
    (far-below m win up c.home.result c.requires c.in_ok-reach.ensures.strip c.in_ok-reach.ensures.sweep c.home.ensures)

strip : (g : given.Over) (c : goal.In_ok-reach-2 g) → IsStrip (g.B.BlockSource.meaning c.args.source.now) c.reach-2.new.self
strip g c = subst (λ (x : SourceValues). IsStrip x c.reach-2.new.self) c.reach.ensures.stays c.in_ok-reach-2.ensures.strip

same : (g : given.Over) (c : goal.In_ok-reach-2 g) → c.reach-2.new.self.sweep ≡ c.args.window.strip.sweep
same g c = c.in_ok-reach-2.ensures.sweep ∙ c.in_ok-reach.ensures.sweep

pub nearest-requires-clause-moves : goal.nearest-requires-clause-moves
nearest-requires-clause-moves g c =
    let m = g.B.BlockSource.meaning c.args.source.now in
    let win : Window = record { wanted = c.args.window.wanted; strip = c.reach-2.new.self } in
    subst (λ (x : SourceValues). IsUnsuited x win) (sym (c.reach-2.ensures.stays ∙ c.reach.ensures.stays))
    (unsuited-on m c.args.window c.reach-2.new.self c.requires (strip g (goal.at.nearest-requires-clause-moves g c).In_ok-reach-2) (c.in_ok-reach-2.ensures.sweep ∙ c.in_ok-reach.ensures.sweep))

pub returns-in_err-start-clause-steps : goal.returns-in_err-start-clause-steps
returns-in_err-start-clause-steps g c = λ base paid.
    let at = (goal.at.returns-in_err-start-clause-steps g c).In_ok-reach-2 in
    spent-near (g.B.BlockSource.meaning c.args.source.now) c.args.window c.reach-2.new.self base c.reach-2.new.steps (same g at) (laid g at base paid)

-- the nearest row that suits
found : (g : given.Over) (c : goal.In_ok-start g)
    → let win : Window = record { wanted = c.args.window.wanted; strip = c.reach-2.new.self } in
    FindsNear (g.B.BlockSource.meaning c.args.source.now) win c.in_ok-start.field-0
found g c =
    let win : Window = record { wanted = c.args.window.wanted; strip = c.reach-2.new.self } in
    subst (λ (x : SourceValues). FindsNear x win c.in_ok-start.field-0) (c.reach-2.ensures.stays ∙ c.reach.ensures.stays) c.in_ok-start.ensures.value

pub returns-in-Some-clause-value : goal.returns-in-Some-clause-value
returns-in-Some-clause-value g c =
    let m = g.B.BlockSource.meaning c.args.source.now in
    let win = c.args.window in
    let down = c.reach-2.new.self in
    let at = goal.at.returns-in-Some-clause-value g c in
    let follows = follows-near m win.strip.sweep down win.wanted (strip g at.In_ok-reach-2) (same g at.In_ok-reach-2) c.requires.laid.of c.in_ok-start.field-0 c.in-Some.start c.in-Some.is (found g at.In_ok-start) in
    value-free m win.strip.sweep down win.wanted c.in-Some.start c.starting_at.result (same g at.In_ok-reach-2) c.requires.laid.kind follows (c.starting_at.ensures m (strip g at.In_ok-reach-2))

pub returns-in-Some-clause-steps : goal.returns-in-Some-clause-steps
returns-in-Some-clause-steps g c = λ base paid.
    let at = (goal.at.returns-in-Some-clause-steps g c).In_ok-reach-2 in
    spent-near (g.B.BlockSource.meaning c.args.source.now) c.args.window c.reach-2.new.self base c.reach-2.new.steps (same g at) (laid g at base paid)

pub returns-in-None-clause-value : goal.returns-in-None-clause-value
returns-in-None-clause-value g c =
    let m = g.B.BlockSource.meaning c.args.source.now in
    let win = c.args.window in
    let down = c.reach-2.new.self in
    let at = goal.at.returns-in-None-clause-value g c in
    let follows = follows-centre m win.strip.sweep down win.wanted (strip g at.In_ok-reach-2) (same g at.In_ok-reach-2) c.requires.laid.of c.in_ok-start.field-0 c.in-None.is (found g at.In_ok-start) in
    let centre = subst (λ (x : SourceValues). IfOk c.centred.result (λ (chosen : Chosen). chosen ≡ centred_chosen x down.sweep.shape win.wanted)) (c.nearest.ensures.stays ∙ (c.reach-2.ensures.stays ∙ c.reach.ensures.stays)) c.centred.ensures.value in
    result-centred c.centred.result m win.strip.sweep down win.wanted (same g at.In_ok-reach-2) c.requires.laid.kind follows centre

pub returns-in-None-clause-steps : goal.returns-in-None-clause-steps
returns-in-None-clause-steps g c = λ base paid.
    let m = g.B.BlockSource.meaning c.args.source.now in
    let win = c.args.window in
    let kind = near_of m win.strip.sweep win.wanted in
    let down = c.reach-2.new.self in
    let both = c.in_ok-reach-2.ensures.sweep ∙ c.in_ok-reach.ensures.sweep in
    let has = laid g (goal.at.returns-in-None-clause-steps g c).In_ok-reach-2 base paid in
    let told = subst (λ (x : SourceValues). CentredPays x down win.wanted c.reach-2.new.steps c.centred.new.steps) (c.nearest.ensures.stays ∙ (c.reach-2.ensures.stays ∙ c.reach.ensures.stays)) c.centred.ensures.steps in
    let bound = told kind base has (asks-point m win c.requires down both) in
    let costs = ap (λ (x : Sweep). all_costs kind m x) both in
    omega (arith, bound, costs)

use Rattle.std.proofs.Common.{◌≡◌, ℕ, ◌+◌, true, false, sym, ap, subst, ◌∙◌, arith}
use Rattle.rd_matrix.specs.Entries.{all_rows}
use Rattle.rd_matrix.specs.Sources.{SourceValues}
use Rattle.rd_start.specs.Chosen.{anchor_at, places_of}
use Rattle.rd_start.specs.Starts.{suits}
use Rattle.rd_start.specs.Strips.{IsLaidOut, IsUnsuited, first_row, rows_in}
use Rattle.rd_start.specs.declared.strip.Sweep.{Sweep}
use Rattle.rd_start.specs.declared.window.Window.{Window}
use Rattle.rd_start.proofs.Moving.{NearPaid, affords-same, chosen-same, follows-home, laid-on, near_of, spent-near, value-free, view-below}
use Rattle.rd_start.proofs.choice.following.Given as given
use Rattle.rd_start.proofs.choice.following.Goals as goal
use Rattle.rd_start.proofs.choice.following.Goals.{In_ok-home_suits, In_ok-reach}

pub returns-in_err-reach-clause-steps : goal.returns-in_err-reach-clause-steps
returns-in_err-reach-clause-steps g c = λ base paid.
    let m = g.B.BlockSource.meaning c.args.source.now in
    let win = c.args.window in
    let bound = c.in_err-reach.ensures.paid (near_of m win.strip.sweep win.wanted) base paid (view-below m win c.home.result c.requires c.home.ensures) in
    omega (arith, bound)

-- what was paid once the view from the old start is laid out
viewed : (g : given.Over) (c : goal.In_ok-reach g) (base : ℕ) → NearPaid (g.B.BlockSource.meaning c.args.source.now) c.args.window c.args.window.strip base c.args.steps.now
    → NearPaid (g.B.BlockSource.meaning c.args.source.now) c.args.window c.reach.new.self base c.reach.new.steps
viewed g c base paid =
    let m = g.B.BlockSource.meaning c.args.source.now in
    let win = c.args.window in
    c.in_ok-reach.ensures.paid (near_of m win.strip.sweep win.wanted) base paid (view-below m win c.home.result c.requires c.home.ensures)

pub returns-in_err-home_suits-clause-steps : goal.returns-in_err-home_suits-clause-steps
returns-in_err-home_suits-clause-steps g c = λ base paid.
    spent-near (g.B.BlockSource.meaning c.args.source.now) c.args.window c.reach.new.self base c.reach.new.steps c.in_ok-reach.ensures.sweep
    (viewed g (goal.at.returns-in_err-home_suits-clause-steps g c).In_ok-reach base paid)

pub returns-then-branch-clause-steps : goal.returns-then-branch-clause-steps
returns-then-branch-clause-steps g c = λ base paid.
    spent-near (g.B.BlockSource.meaning c.args.source.now) c.args.window c.reach.new.self base c.reach.new.steps c.in_ok-reach.ensures.sweep
    (viewed g (goal.at.returns-then-branch-clause-steps g c).In_ok-reach base paid)

-- whether the old start suits
suited : (g : given.Over) (c : goal.In_ok-home_suits g) → c.in_ok-home_suits.field-0
    ≡ suits c.args.window.wanted (places_of (g.B.BlockSource.meaning c.args.source.now) c.reach.new.self.sweep.shape c.args.window.wanted) (first_row (g.B.BlockSource.meaning c.args.source.now) c.reach.new.self + c.reach.new.self.home)
suited g c =
    let w = c.args.window.wanted in
    let new = c.reach.new.self in
    subst (λ (x : SourceValues). c.in_ok-home_suits.field-0 ≡ suits w (places_of x new.sweep.shape w) (first_row x new + new.home)) c.reach.ensures.stays c.in_ok-home_suits.ensures.value

pub home_suits-requires-clause-laid : goal.home_suits-requires-clause-laid
home_suits-requires-clause-laid g c =
    let m = g.B.BlockSource.meaning c.args.source.now in
    let win : Window = record { wanted = c.args.window.wanted; strip = c.reach.new.self } in
    subst (λ (x : SourceValues). IsLaidOut x win false) (sym c.reach.ensures.stays)
    (laid-on m c.args.window false c.reach.new.self c.requires c.in_ok-reach.ensures.strip c.in_ok-reach.ensures.sweep)

pub returns-then-branch-clause-value : goal.returns-then-branch-clause-value
returns-then-branch-clause-value g c =
    let m = g.B.BlockSource.meaning c.args.source.now in
    let win = c.args.window in
    let w = win.wanted in
    let sweep = win.strip.sweep in
    let new = c.reach.new.self in
    let same = c.in_ok-reach.ensures.sweep in
    let strip = c.in_ok-reach.ensures.strip in
    let shape = ap (λ (x : Sweep). suits w (places_of m x.shape w) (first_row m new + new.home)) same in
    let here : suits w (places_of m sweep.shape w) (first_row m new + new.home) ≡ true =
    sym shape ∙ (sym (suited g (goal.at.returns-then-branch-clause-value g c).In_ok-home_suits) ∙ c.if-branch.true) in
    value-free m sweep new w new.home c.starting_at.result same c.requires.kind (follows-home m sweep new w strip same c.requires.of here)
    (subst (λ n. c.starting_at.result ≡ record { anchor = anchor_at (all_rows (rows_in m new.sweep) m.blocks) (first_row m new + n); point = w.point }) c.home-then-branch.ensures (c.starting_at.ensures m strip))

pub moving-requires : goal.moving-requires
moving-requires g c =
    let m = g.B.BlockSource.meaning c.args.source.now in
    let new = c.reach.new.self in
    let win : Window = record { wanted = c.args.window.wanted; strip = new } in
    subst (λ (x : SourceValues). IsUnsuited x win) (sym (c.home_suits.ensures.stays ∙ c.reach.ensures.stays)) (record {
      laid = laid-on m c.args.window false new c.requires c.in_ok-reach.ensures.strip c.in_ok-reach.ensures.sweep;
      home = sym (suited g (goal.at.moving-requires g c).In_ok-home_suits) ∙ c.if-branch.false;
    })

pub returns-clause-value : goal.returns-clause-value
returns-clause-value g c =
    let m = g.B.BlockSource.meaning c.args.source.now in
    let win = c.args.window in
    chosen-same m _ win.strip.sweep c.reach.new.self win.wanted c.moving.result (c.home_suits.ensures.stays ∙ c.reach.ensures.stays) c.in_ok-reach.ensures.sweep c.moving.ensures.value

pub returns-clause-steps : goal.returns-clause-steps
returns-clause-steps g c = λ base paid.
    let m = g.B.BlockSource.meaning c.args.source.now in
    let win = c.args.window in
    let had = viewed g (goal.at.returns-clause-steps g c).In_ok-reach base paid in
    affords-same 2 m _ win.strip.sweep win.wanted c.reach.new.self c.reach.new.steps c.moving.new.steps base (c.home_suits.ensures.stays ∙ c.reach.ensures.stays)
    c.in_ok-reach.ensures.sweep c.moving.ensures.steps had

use Rattle.std.proofs.Common.{◌≡◌, ℕ, ◌+◌, ◌*◌, ◌≤◌, inl, Bool, true, false, refl, sym, subst, arith}
use Rattle.rd_matrix.specs.Sources.{SourceValues}
use Rattle.rd_start.specs.Near.{near_costs}
use Rattle.rd_start.specs.Strips.{Affords, IsFor, IsLaidOut, IsPaid}
use Rattle.rd_start.specs.declared.strip.Sweep.{Sweep}
use Rattle.rd_start.specs.declared.wanted.Wanted.{Wanted}
use Rattle.rd_start.specs.declared.window.Window.{Window}
use Rattle.rd_rows.specs.Shapes.{ShapeValues}
use Rattle.rd_start.proofs.Moving.{affords-same, asks-home, chosen-same, near_of}
use Rattle.rd_start.proofs.choice.choose.Given as given
use Rattle.rd_start.proofs.choice.choose.Goals as goal
use Rattle.rd_start.proofs.choice.choose.Goals.{In_ok-strip}

abbrev sweep_of : Wanted → ShapeValues → Sweep
sweep_of w shape = record { anchor = w.anchor; point = w.point; shape = shape }

is-for : (w : Wanted) (shape : ShapeValues) → IsFor w (sweep_of w shape)
is-for w shape = record { anchor = refl; point = refl }

-- the window that is laid out
laid : (g : given.Over) (c : goal.In_ok-strip g) (forced : Bool) → c.args.wanted.forced ≡ forced → IsLaidOut (g.B.BlockSource.meaning c.around.new.source) (record { wanted = c.args.wanted; strip = c.in_ok-strip.strip }) forced
laid g c forced kind =
    let w = c.args.wanted in
    let win : Window = record { wanted = w; strip = c.in_ok-strip.strip } in
    subst (λ (x : SourceValues). IsLaidOut x win forced) (sym c.around.ensures.stays) (record {
      strip = c.in_ok-strip.ensures.strip.0;
      of = subst (IsFor w) (sym c.in_ok-strip.ensures.strip.1) (is-for w c.args.shape);
      height = c.requires.height;
      kind = kind;
    })

pub forced-requires : goal.forced-requires
forced-requires g c = laid g (goal.at.forced-requires g c).In_ok-strip true c.if-wanted.true

pub following-requires : goal.following-requires
following-requires g c = laid g (goal.at.following-requires g c).In_ok-strip false c.if-wanted.false

pub returns-in_err-strip-clause-steps : goal.returns-in_err-strip-clause-steps
returns-in_err-strip-clause-steps g c =
    let m = g.B.BlockSource.meaning c.args.source.now in
    let w = c.args.wanted in
    let sweep = sweep_of w c.args.shape in
    let bound = c.in_err-strip.ensures.paid (near_of m sweep w) (inl (asks-home m sweep w (is-for w c.args.shape) c.requires.height)) in
    omega (arith, bound)

-- what was paid for the block of the old start
had : (g : given.Over) (c : goal.In_ok-strip g)
    → IsPaid (near_of (g.B.BlockSource.meaning c.args.source.now) (sweep_of c.args.wanted c.args.shape) c.args.wanted) c.args.steps.now (g.B.BlockSource.meaning c.args.source.now) c.in_ok-strip.strip c.around.new.steps
had g c =
    let m = g.B.BlockSource.meaning c.args.source.now in
    let w = c.args.wanted in
    let sweep = sweep_of w c.args.shape in
    c.in_ok-strip.ensures.paid (near_of m sweep w) (inl (asks-home m sweep w (is-for w c.args.shape) c.requires.height))

-- a choice that goes on with the strip costs what is left of the whole
afforded : (g : given.Over) (c : goal.In_ok-strip g) (times steps : ℕ)
    → Affords times (g.B.BlockSource.meaning c.around.new.source) c.in_ok-strip.strip.sweep.shape c.args.wanted c.in_ok-strip.strip c.around.new.steps steps
    → steps ≤ c.args.steps.now + times * near_costs (g.B.BlockSource.meaning c.args.source.now) c.args.shape c.args.wanted
afforded g c times steps told =
    let m = g.B.BlockSource.meaning c.args.source.now in
    let w = c.args.wanted in
    let s = c.in_ok-strip.strip in
    affords-same times m _ (sweep_of w c.args.shape) w s c.around.new.steps steps c.args.steps.now c.around.ensures.stays c.in_ok-strip.ensures.strip.1 told (had g c)

pub returns-then-wanted-clause-value : goal.returns-then-wanted-clause-value
returns-then-wanted-clause-value g c =
    let m = g.B.BlockSource.meaning c.args.source.now in
    let w = c.args.wanted in
    chosen-same m _ (sweep_of w c.args.shape) c.in_ok-strip.strip w c.forced.result c.around.ensures.stays c.in_ok-strip.ensures.strip.1 c.forced.ensures.value

pub returns-then-wanted-clause-steps : goal.returns-then-wanted-clause-steps
returns-then-wanted-clause-steps g c =
    let bound = afforded g (goal.at.returns-then-wanted-clause-steps g c).In_ok-strip 1 c.forced.new.steps c.forced.ensures.steps in
    omega (arith, bound)

pub returns-clause-value : goal.returns-clause-value
returns-clause-value g c =
    let m = g.B.BlockSource.meaning c.args.source.now in
    let w = c.args.wanted in
    chosen-same m _ (sweep_of w c.args.shape) c.in_ok-strip.strip w c.following.result c.around.ensures.stays c.in_ok-strip.ensures.strip.1 c.following.ensures.value

pub returns-clause-steps : goal.returns-clause-steps
returns-clause-steps g c = afforded g (goal.at.returns-clause-steps g c).In_ok-strip 2 c.following.new.steps c.following.ensures.steps

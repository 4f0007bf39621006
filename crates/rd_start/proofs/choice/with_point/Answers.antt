use Rattle.std.proofs.Common.{◌+◌, ◌*◌, ◌≤◌, None, Some, inl, inr, refl, sym, ap, ◌∙◌, arith}
use Rattle.std.proofs.lemmas.Result.{MatchResult-from_err}
use Rattle.std.specs.Prelude.{ℕ}
use Rattle.rd_start.specs.Strips.{IsPaid, all_costs, point_row}
use Rattle.rd_start.specs.declared.strip.Strip.{Strip}
use Rattle.rd_start.specs.declared.strip.Sweep.{Sweep}
use Rattle.rd_start.proofs.Reaching.{pays}
use Rattle.rd_start.proofs.Sides.{point-told}
use Rattle.rd_start.proofs.choice.with_point.Goals as goal

pub returns-in-Some-clause-place : goal.returns-in-Some-clause-place
returns-in-Some-clause-place g c =
    point-told (g.B.BlockSource.meaning c.args.source.now) c.args.strip (Some c.in-Some.row) c.requires.strip
    (sym c.point_row.ensures ∙ c.in-Some.is)

pub returns-in_err-found-clause-paid : goal.returns-in_err-found-clause-paid
returns-in_err-found-clause-paid g c = λ kind base paid here.
    let m = g.B.BlockSource.meaning c.args.source.now in
    let s = c.args.strip in
    let spent = c.in_err-found.ensures.paid kind (inr (refl, ap (λ (x : Sweep). kind (point_row m x)) c.sweep-sweep.ensures ∙ here)) in
    let costs = ap (λ (x : Sweep). all_costs kind m x) c.sweep-sweep.ensures in
    let before = pays kind base m s.sweep s c.args.steps.now refl paid in
    MatchResult-from_err c.from_residual.result (λ (f : Strip × ℕ). IsPaid kind (base + all_costs kind m s.sweep) m f.0 c.around.new.steps)
    (λ _. c.around.new.steps ≤ base + 2 * all_costs kind m s.sweep) c.from_residual.ensures.0 (λ _. omega (arith, spent, costs, before))

pub unreachable-requires : goal.unreachable-requires
unreachable-requires g c =
    let m = g.B.BlockSource.meaning c.args.source.now in
    let has = c.in_ok-found.ensures.point refl in
    elim (point-told m c.in_ok-found.found None has.strip (sym c.point_row-2.ensures ∙ c.in-None.is)) [
      | inl above ↦ omega (arith, above, has.from)
      | inr below ↦ omega (arith, below.0, has.to)
    ]

pub returns-clause-place : goal.returns-clause-place
returns-clause-place g c =
    point-told (g.B.BlockSource.meaning c.args.source.now) c.in_ok-found.found (Some c.in-Some-point_row.row) c.in_ok-found.ensures.strip.0
    (sym c.point_row-2.ensures ∙ c.in-Some-point_row.is)

pub returns-clause-paid : goal.returns-clause-paid
returns-clause-paid g c = λ kind base paid here.
    let m = g.B.BlockSource.meaning c.args.source.now in
    let s = c.args.strip in
    let spent = c.in_ok-found.ensures.paid kind (inr (refl, ap (λ (x : Sweep). kind (point_row m x)) c.sweep-sweep.ensures ∙ here)) in
    let costs = ap (λ (x : Sweep). all_costs kind m x) c.sweep-sweep.ensures in
    let before = pays kind base m s.sweep s c.args.steps.now refl paid in
    (spent.0, record { have = spent.1.have; paid = omega (arith, spent.1.paid, before) })

use Rattle.std.proofs.Common.{◌≡◌, inr, length, None, Some, refl, subst, sym, ap, ◌∙◌, arith}
use Rattle.std.proofs.lemmas.Result.{IfOk-from_err}
use Rattle.rd_matrix.specs.Blocks.{IsAmong}
use Rattle.rd_matrix.specs.Sources.{SourceValues}
use Rattle.rd_rows.specs.Copies.{shown_rows}
use Rattle.rd_start.specs.Strips.{IsStrip, GrowsAt}
use Rattle.rd_start.proofs.Reaching.{Asked, EdgeFails, beyond-given, cost-same, grown-fails, grown-more, grown-none, grown-pays, grown-smaller, grown-stops, pays-failed, rows-same}
use Rattle.rd_start.proofs.strip.Strip.reach.Given as given
use Rattle.rd_start.proofs.strip.Strip.reach.Goals as goal
use Rattle.rd_start.proofs.strip.Strip.reach.Goals.{After-rows}

pub growing-init : goal.growing-init
growing-init g c = record {
  source = refl;
  grown = grown-none c.args.edge (g.B.BlockSource.meaning c.args.source.now) c.args.self.now c.args.steps.now c.args.count c.requires;
}

pub beyond-requires : goal.beyond-requires
beyond-requires g c =
    let inv = c.growing.invariant in
    subst (λ (x : SourceValues). IsStrip x c.growing.self) (sym inv.source) inv.grown.strip

pub returns-in_err-block-clause-paid : goal.returns-in_err-block-clause-paid
returns-in_err-block-clause-paid g c =
    let m = g.B.BlockSource.meaning c.args.source.now in
    let s = c.growing.self in
    pays-failed c.from_residual.result m c.args.self.now s c.args.steps.now c.growing.steps c.from_residual.ensures.0
    (grown-stops c.args.edge m c.args.self.now s c.args.steps.now c.growing.steps c.args.count c.growing.invariant.grown)

pub returns-in_default-clause-reached : goal.returns-in_default-clause-reached
returns-in_default-clause-reached g c =
    let m = g.B.BlockSource.meaning c.args.source.now in
    inr (beyond-given c.args.edge m (g.B.BlockSource.meaning c.growing.source) c.growing.self c.in_ok-block.field-0 None c.growing.invariant.source c.in_ok-block.ensures.value c.in_default.is)

pub returns-in_default-clause-paid : goal.returns-in_default-clause-paid
returns-in_default-clause-paid g c =
    grown-pays c.args.edge (g.B.BlockSource.meaning c.args.source.now) c.args.self.now c.growing.self c.args.steps.now c.growing.steps c.args.count c.growing.invariant.grown

pub rows-requires : goal.rows-requires
rows-requires g c =
    let m = g.B.BlockSource.meaning c.args.source.now in
    let inv = c.growing.invariant in
    let next = beyond-given c.args.edge m (g.B.BlockSource.meaning c.growing.source) c.growing.self c.in_ok-block.field-0 (Some c.in-Some.block) inv.source c.in_ok-block.ensures.value c.in-Some.is in
    subst (λ (x : SourceValues). IsAmong x.blocks c.in-Some.block) (sym (c.beyond.ensures.stays ∙ inv.source)) next.among

-- the block whose rows were asked for, and the steps that were taken for them
asked : (g : given.Over) (c : goal.After-rows g) → Asked c.args.edge (g.B.BlockSource.meaning c.args.source.now) c.growing.self c.growing.steps c.rows.new.steps c.args.count c.in-Some.block
asked g c =
    let m = g.B.BlockSource.meaning c.args.source.now in
    let s = c.growing.self in
    let inv = c.growing.invariant in
    record {
      low = omega arith;
      next = beyond-given c.args.edge m (g.B.BlockSource.meaning c.growing.source) s c.in_ok-block.field-0 (Some c.in-Some.block) inv.source c.in_ok-block.ensures.value c.in-Some.is;
      cost = cost-same m (g.B.BlockSource.meaning c.beyond.new.source) s.sweep c.in-Some.block c.rows.new.steps c.growing.steps (c.beyond.ensures.stays ∙ inv.source) c.rows.ensures.steps;
    }

fails : (g : given.Over) (c : goal.After-rows g) → EdgeFails c.args.edge (g.B.BlockSource.meaning c.args.source.now) c.args.self.now c.args.steps.now c.rows.new.steps c.args.count
fails g c =
    grown-fails c.args.edge (g.B.BlockSource.meaning c.args.source.now) c.args.self.now c.growing.self c.args.steps.now c.growing.steps c.rows.new.steps c.args.count c.in-Some.block
    c.growing.invariant.grown (asked g c)

pub returns-in_err-rows-clause-paid : goal.returns-in_err-rows-clause-paid
returns-in_err-rows-clause-paid g c =
    let m = g.B.BlockSource.meaning c.args.source.now in
    pays-failed c.from_residual-in_err-rows.result m c.args.self.now c.growing.self c.args.steps.now c.rows.new.steps c.from_residual-in_err-rows.ensures.0
    (fails g (goal.at.returns-in_err-rows-clause-paid g c).After-rows)

pub returns-in_err-push-clause-sweep : goal.returns-in_err-push-clause-sweep
returns-in_err-push-clause-sweep g c =
    IfOk-from_err c.from_residual-in_err-push.result (λ _. c.push.new.self.sweep ≡ c.args.self.now.sweep) c.from_residual-in_err-push.ensures.0

pub returns-in_err-push-clause-grows : goal.returns-in_err-push-clause-grows
returns-in_err-push-clause-grows g c =
    IfOk-from_err c.from_residual-in_err-push.result (λ _. GrowsAt c.args.edge c.args.self.now c.push.new.self) c.from_residual-in_err-push.ensures.0

pub returns-in_err-push-clause-paid : goal.returns-in_err-push-clause-paid
returns-in_err-push-clause-paid g c =
    let m = g.B.BlockSource.meaning c.args.source.now in
    pays-failed c.from_residual-in_err-push.result m c.args.self.now c.push.new.self c.args.steps.now c.rows.new.steps c.from_residual-in_err-push.ensures.0
    (fails g (goal.at.returns-in_err-push-clause-paid g c).After-rows)

pub growing-smaller : goal.growing-smaller
growing-smaller g c =
    let m = g.B.BlockSource.meaning c.args.source.now in
    let inv = c.growing.invariant in
    let fewer = grown-smaller c.args.edge m c.growing.self c.push.new.self c.in-Some.block (shown_rows c.as_slice.result.now) (asked g (goal.at.growing-smaller g c).After-rows).next c.in_ok-push.ensures in
    let before = ap (λ (x : SourceValues). length x.blocks) inv.source in
    let after = ap (λ (x : SourceValues). length x.blocks) (c.rows.ensures.stays ∙ (c.beyond.ensures.stays ∙ inv.source)) in
    omega (arith, fewer.0, fewer.1, before, after)

pub growing-preserved : goal.growing-preserved
growing-preserved g c =
    let m = g.B.BlockSource.meaning c.args.source.now in
    let s = c.growing.self in
    let inv = c.growing.invariant in
    let told = c.beyond.ensures.stays ∙ inv.source in
    let asked = asked g (goal.at.growing-preserved g c).After-rows in
    let same = rows-same m (g.B.BlockSource.meaning c.beyond.new.source) s.sweep c.in-Some.block (shown_rows c.as_slice.result.now) told (ap shown_rows c.as_slice.ensures.value ∙ c.in_ok-rows.ensures.rows) in
    record {
      source = c.rows.ensures.stays ∙ told;
      grown = grown-more c.args.edge m c.args.self.now s c.push.new.self c.args.steps.now c.growing.steps c.rows.new.steps c.args.count c.in-Some.block (shown_rows c.as_slice.result.now) inv.grown asked same c.in_ok-push.ensures;
    }

pub returns-clause-paid : goal.returns-clause-paid
returns-clause-paid g c =
    grown-pays c.args.edge (g.B.BlockSource.meaning c.args.source.now) c.args.self.now c.growing.self c.args.steps.now c.growing.steps c.args.count c.growing.invariant.grown

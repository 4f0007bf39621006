use Rattle.std.proofs.Common.{ℕ, ◌+◌, ◌<◌, ◌≤◌, length, All, inr, Some, None, subst, sym, ap, ◌∙◌, arith}
use Rattle.rd_matrix.specs.Blocks.{IsAmong}
use Rattle.rd_matrix.specs.Sources.{SourceValues, rows_at}
use Rattle.rd_reuse.specs.Keeping.{fresh_cost}
use Rattle.rd_reuse.specs.Views.{IsCopied, Names, fresh_costs}
use Rattle.rd_reuse.proofs.Places.{named-starts}
use Rattle.rd_reuse.proofs.Walking.{Walk, among, begins, copies-grown, ends, enough, goes-on, grows, same-next, spends}
use Rattle.rd_rows.specs.Shapes.{IsShape}
use Rattle.rd_reuse.proofs.layout.relay.Given as given
use Rattle.rd_reuse.proofs.layout.relay.Goals as goal
use Rattle.rd_reuse.proofs.layout.relay.Goals.{After-rows_of}

pub block_of-requires : goal.block_of-requires
block_of-requires g c =
    let named = c.requires.row in
    inr (named-starts (g.B.BlockSource.meaning c.args.source.now) c.args.shape c.args.anchor named.0 named.1)

pub loop-alloc-init : goal.loop-alloc-init
loop-alloc-init g c =
    let m = g.B.BlockSource.meaning c.args.source.now in
    record {
      source = c.block_of.ensures.stays;
      is = c.block_of.ensures.source;
      walk = λ place is.
          subst (λ rows. Walk m c.args.old.now c.args.change c.args.shape place c.args.height c.args.steps.now c.in_ok-block.block c.args.anchor.row rows c.args.steps.now) (sym c.in_ok-matrix.ensures)
          (begins m c.args.old.now c.args.change c.args.shape c.args.anchor place c.args.height c.args.steps.now c.in_ok-block.block c.block_of.ensures.source c.in_ok-block.ensures.found is);
    }

pub rows_of-requires-clause-among : goal.rows_of-requires-clause-among
rows_of-requires-clause-among g c =
    let inv = c.loop-alloc.invariant in
    let named = c.requires.row in
    subst (λ (x : SourceValues). IsAmong x.blocks c.loop-alloc.block) (sym inv.source) (among (inv.walk named.0 named.1))

-- the steps once the rows of a block were had
spent : (g : given.Over) (c : After-rows_of g) → let m = g.B.BlockSource.meaning c.args.source.now in
    (place : ℕ) → Names c.args.anchor (rows_at m c.args.shape) place → c.rows_of.new.steps ≤ c.args.steps.now + fresh_costs m c.args.old.now c.args.change c.args.shape place (place + c.args.height)
spent g c = λ place is.
    let inv = c.loop-alloc.invariant in
    let low : length c.loop-alloc.matrix < c.args.height = omega arith in
    spends (inv.walk place is) c.rows_of.new.steps low
    (subst (λ (x : SourceValues). c.rows_of.new.steps ≤ c.loop-alloc.steps + fresh_cost x c.args.old.now c.args.change c.args.shape c.loop-alloc.block) inv.source c.rows_of.ensures.steps)

pub returns-in_err-rows-clause-steps : goal.returns-in_err-rows-clause-steps
returns-in_err-rows-clause-steps g c = spent g (goal.at.returns-in_err-rows-clause-steps g c).After-rows_of

pub returns-in_err-add_rows-clause-steps : goal.returns-in_err-add_rows-clause-steps
returns-in_err-add_rows-clause-steps g c = spent g (goal.at.returns-in_err-add_rows-clause-steps g c).After-rows_of

pub next-requires : goal.next-requires
next-requires g c =
    let inv = c.loop-alloc.invariant in
    let named = c.requires.row in
    subst (λ (x : SourceValues). IsAmong x.blocks c.loop-alloc.block) (sym (c.rows_of.ensures.stays ∙ inv.source)) (among (inv.walk named.0 named.1))

pub returns-in_err-next-clause-steps : goal.returns-in_err-next-clause-steps
returns-in_err-next-clause-steps g c = spent g (goal.at.returns-in_err-next-clause-steps g c).After-rows_of

pub returns-in_default-clause-rows : goal.returns-in_default-clause-rows
returns-in_default-clause-rows g c = λ place is.
    let m = g.B.BlockSource.meaning c.args.source.now in
    let inv = c.loop-alloc.invariant in
    let b = c.loop-alloc.block in
    ends (inv.walk place is) c.in_ok-rows.rows.items c.add_rows.new.matrix (c.in_ok-rows.ensures.rows ∙ ap (λ (x : SourceValues). x.rows_of b c.args.shape) inv.source) c.in_ok-add_rows.ensures
    (same-next m (g.B.BlockSource.meaning c.rows_of.new.source) b c.in_ok-next.field-0 None (c.rows_of.ensures.stays ∙ inv.source) c.in_default.is c.in_ok-next.ensures.next)

pub returns-in_default-clause-copies : goal.returns-in_default-clause-copies
returns-in_default-clause-copies g c =
    let m = g.B.BlockSource.meaning c.args.source.now in
    let inv = c.loop-alloc.invariant in
    let named = c.requires.row in
    subst (All (IsCopied c.args.old.now c.args.change m.blocks)) (sym c.in_ok-add_rows.ensures)
    (copies-grown (inv.walk named.0 named.1) inv.is c.in_ok-rows.rows.items c.in_ok-rows.ensures.copies)

pub returns-in_default-clause-steps : goal.returns-in_default-clause-steps
returns-in_default-clause-steps g c = spent g (goal.at.returns-in_default-clause-steps g c).After-rows_of

pub loop-alloc-smaller : goal.loop-alloc-smaller
loop-alloc-smaller g c =
    let inv = c.loop-alloc.invariant in
    let named = c.requires.row in
    let b = c.loop-alloc.block in
    let low : length c.loop-alloc.matrix < c.args.height = omega arith in
    let more = grows (inv.walk named.0 named.1) c.in_ok-rows.rows.items c.add_rows.new.matrix (c.in_ok-rows.ensures.rows ∙ ap (λ (x : SourceValues). x.rows_of b c.args.shape) inv.source) low c.in_ok-add_rows.ensures in
    omega (arith, low, more)

pub loop-alloc-preserved : goal.loop-alloc-preserved
loop-alloc-preserved g c =
    let m = g.B.BlockSource.meaning c.args.source.now in
    let inv = c.loop-alloc.invariant in
    let b = c.loop-alloc.block in
    let low : length c.loop-alloc.matrix < c.args.height = omega arith in
    let shaped : IsShape c.args.shape = record { least = omega arith; most = omega arith } in
    record {
      source = c.next.ensures.stays ∙ (c.rows_of.ensures.stays ∙ inv.source);
      is = inv.is;
      walk = λ place is.
          goes-on (inv.walk place is) c.in_ok-rows.rows.items c.add_rows.new.matrix c.in-Some.next c.rows_of.new.steps inv.is shaped
          (c.in_ok-rows.ensures.rows ∙ ap (λ (x : SourceValues). x.rows_of b c.args.shape) inv.source) c.in_ok-rows.ensures.copies low c.in_ok-add_rows.ensures
          (subst (λ (x : SourceValues). c.rows_of.new.steps ≤ c.loop-alloc.steps + fresh_cost x c.args.old.now c.args.change c.args.shape b) inv.source c.rows_of.ensures.steps)
          (same-next m (g.B.BlockSource.meaning c.rows_of.new.source) b c.in_ok-next.field-0 (Some c.in-Some.next) (c.rows_of.ensures.stays ∙ inv.source) c.in-Some.is c.in_ok-next.ensures.next);
    }

pub returns-clause-rows : goal.returns-clause-rows
returns-clause-rows g c = λ place is. enough (c.loop-alloc.invariant.walk place is) (omega arith)

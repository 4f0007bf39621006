use Rattle.std.proofs.Common.{◌≡◌, Some, arith, refl, subst, sym}
use Rattle.std.specs.Prelude.{slice_get}
use Rattle.std.proofs.lemmas.Option.{slice_get_read}
use Rattle.rd_matrix.specs.Blocks.{IsWithin, HoldsPosition}
use Rattle.rd_matrix.specs.Held.{blocks_held}
use Rattle.rd_matrix.proofs.HeldLemmas.{block-there, passed-more, holds-found, passed-all}
use Rattle.rd_matrix.proofs.held.MemBlocks.find.Goals as goal
use Rattle.rd_matrix.proofs.held.MemBlocks.find.Goals.{After-index}

-- the block at the place
found : (c : After-index) → slice_get c.self.inside.held.items c.loop-place.place ≡ Some c.index.result.now
found c =
    let below = c.loop-place-test.true in
    let len = c.len-place-end.ensures in
    slice_get_read c.self.inside.held.items _ c.loop-place.place c.index.result.now refl (omega (arith, below, len)) c.index.ensures

pub returns-then-pos-block-clause-there : goal.returns-then-pos-block-clause-there
returns-then-pos-block-clause-there c =
    subst (λ hs. slice_get (blocks_held hs) c.loop-place.place ≡ Some c.index.result.now.block) c.self.view_is
    (block-there c.self.inside.held.items c.loop-place.place c.index.result.now (found (goal.at.returns-then-pos-block-clause-there c).After-index))

pub returns-then-pos-block-clause-holds : goal.returns-then-pos-block-clause-holds
returns-then-pos-block-clause-holds c =
    let v = c.self.view_is in
    subst (λ hs. HoldsPosition c.args.pos (blocks_held hs) c.index.result.now.block) v
    (holds-found c.self.inside.held.items c.args.pos c.loop-place.place c.index.result.now c.self.invariant (subst (λ hs. IsWithin c.args.pos (blocks_held hs)) (sym v) c.requires) c.loop-place.invariant (found (goal.at.returns-then-pos-block-clause-holds c).After-index) c.if-pos-block.true)

pub loop-place-preserved : goal.loop-place-preserved
loop-place-preserved c = passed-more c.self.inside.held.items c.args.pos c.loop-place.place c.index.result.now c.loop-place.invariant (found (goal.at.loop-place-preserved c).After-index) c.if-pos-block.false

pub unreachable-requires : goal.unreachable-requires
unreachable-requires c =
    let past = c.loop-place-test.false in
    let len = c.len-place-end.ensures in
    passed-all c.self.inside.held.items c.args.pos c.loop-place.place c.loop-place.invariant (omega (arith, past, len)) (subst (λ hs. IsWithin c.args.pos (blocks_held hs)) (sym c.self.view_is) c.requires)

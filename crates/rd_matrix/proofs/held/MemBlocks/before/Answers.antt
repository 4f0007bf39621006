use Rattle.std.proofs.Common.{ap, sym, ◌∙◌, pos_of_ne-zero}
use Rattle.rd_matrix.specs.Blocks.{block_before}
use Rattle.rd_matrix.specs.Held.{blocks_held}
use Rattle.rd_matrix.proofs.HeldLemmas.{prev-place, before-is}
use Rattle.rd_matrix.proofs.held.MemBlocks.before.Goals as goal

pub returns-then-place-eq0 : goal.returns-then-place-eq0
returns-then-place-eq0 c =
    prev-place c.args.self.now c.args.block.now c.place_of-place.result _ c.place_of-place.ensures.held c.place_of-place.ensures.there (sym (ap (block_before (blocks_held c.args.self.now)) c.if-place-eq0.true))

pub returns : goal.returns
returns c =
    prev-place c.args.self.now c.args.block.now c.place_of-place.result c.block_at.result c.place_of-place.ensures.held c.place_of-place.ensures.there
    (c.block_at.ensures ∙ sym (before-is (blocks_held c.args.self.now) c.place_of-place.result (pos_of_ne-zero c.if-place-eq0.false)))

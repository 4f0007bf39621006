use Rattle.std.proofs.Common.{◌≡◌, ℕ, ◌+◌, slice_get, Some, ap, sym, ◌∙◌, subst, arith}
use Rattle.std.proofs.lemmas.Bool.{OnTrue_at}
use Rattle.rd_matrix.specs.Blocks.{IsAmong, first_start}
use Rattle.rd_matrix.specs.Sources.{SourceValues}
use Rattle.rd_tests_lines.proofs.Rounds.{IsRight, all-right, first-round, next-round}
use Rattle.rd_tests_lines.proofs.reuse.right.are_right.Goals as goal

pub turns-init : goal.turns-init
turns-init g c =
    let m = g.B.BlockSource.meaning c.args.source.now in
    let found = c.in_ok-block.ensures.found in
    let from = found.from in
    let first = c.requires.first in
    record {
      source = c.block_of.ensures.stays;
      round = first-round m c.args.old.now c.args.change c.args.shape (first_start m.blocks) c.in_ok-block.block c.block_of.ensures.source.blocks.stand found.among (omega (arith, from, first));
    }

pub block_is_right-requires : goal.block_is_right-requires
block_is_right-requires g c =
    let inv = c.turns.invariant in
    record { among = subst (λ (x : SourceValues). IsAmong x.blocks c.turns.block) (sym inv.source) (inv.round.place, inv.round.here) }

pub returns-in_err-block_is_right-clause-stays : goal.returns-in_err-block_is_right-clause-stays
returns-in_err-block_is_right-clause-stays g c = c.block_is_right.ensures.stays ∙ c.turns.invariant.source

pub returns-then-not-branch-clause-stays : goal.returns-then-not-branch-clause-stays
returns-then-not-branch-clause-stays g c = c.block_is_right.ensures.stays ∙ c.turns.invariant.source

pub next-requires : goal.next-requires
next-requires g c =
    let inv = c.turns.invariant in
    subst (λ (x : SourceValues). IsAmong x.blocks c.turns.block) (sym (c.block_is_right.ensures.stays ∙ inv.source)) (inv.round.place, inv.round.here)

pub returns-in_err-next-clause-stays : goal.returns-in_err-next-clause-stays
returns-in_err-next-clause-stays g c = c.next.ensures.stays ∙ (c.block_is_right.ensures.stays ∙ c.turns.invariant.source)

pub returns-in_default-clause-right : goal.returns-in_default-clause-right
returns-in_default-clause-right g c =
    let m = g.B.BlockSource.meaning c.args.source.now in
    let inv = c.turns.invariant in
    let b = c.turns.block in
    let right : IsRight m c.args.old.now c.args.change c.args.shape b = λ kept. OnTrue_at c.if-not-branch.false c.in_ok-block_is_right.ensures.right kept ∙ ap (λ (x : SourceValues). x.rows_of b c.args.shape) inv.source in
    let next = subst (λ (x : SourceValues). (k : ℕ) → slice_get x.blocks k ≡ Some b → c.in_ok-next.field-0 ≡ slice_get x.blocks (k + 1)) (c.block_is_right.ensures.stays ∙ inv.source) c.in_ok-next.ensures.next in
    all-right m c.args.old.now c.args.change c.args.shape b c.in_ok-next.field-0 inv.round right next c.in_default.is

pub returns-in_default-clause-stays : goal.returns-in_default-clause-stays
returns-in_default-clause-stays g c = c.next.ensures.stays ∙ (c.block_is_right.ensures.stays ∙ c.turns.invariant.source)

pub turns-preserved : goal.turns-preserved
turns-preserved g c =
    let m = g.B.BlockSource.meaning c.args.source.now in
    let inv = c.turns.invariant in
    let b = c.turns.block in
    let right : IsRight m c.args.old.now c.args.change c.args.shape b = λ kept. OnTrue_at c.if-not-branch.false c.in_ok-block_is_right.ensures.right kept ∙ ap (λ (x : SourceValues). x.rows_of b c.args.shape) inv.source in
    let next = subst (λ (x : SourceValues). (k : ℕ) → slice_get x.blocks k ≡ Some b → c.in_ok-next.field-0 ≡ slice_get x.blocks (k + 1)) (c.block_is_right.ensures.stays ∙ inv.source) c.in_ok-next.ensures.next in
    record {
      source = c.next.ensures.stays ∙ (c.block_is_right.ensures.stays ∙ inv.source);
      round = next-round m c.args.old.now c.args.change c.args.shape b c.in-Some.next c.in_ok-next.field-0 inv.round right next c.in-Some.is;
    }

pub returns-clause-stays : goal.returns-clause-stays
returns-clause-stays g c = c.turns.invariant.source

use Rattle.std.proofs.Common.{◌≡◌, ◌+◌, ℕ, get_or, sym, ap, subst, ◌∙◌, arith}
use Rattle.std.specs.Prelude.{IsTrue, slice_set}
use Rattle.std.proofs.lemmas.List.Edits.{paste_more}
use Rattle.std.proofs.lemmas.List.{get_or_read}
use Rattle.rd_base.proofs.Lists.{read-or}
use Rattle.rd_base.specs.Chars.{is_code}
use lib.Seq.{paste}
use Rattle.rd_text.proofs.gap.write.Goals as goal

pub loop-i-preserved : goal.loop-i-preserved
loop-i-preserved c =
    let at : ℕ = c.args.at + c.loop-i.i in
    let old = c.args.codes.now in
    let size = c.loop-i.auto.codes in
    let inside = c.loop-i-test.true in
    let room = c.requires.room in
    let value = c.code.ensures.value in
    let read : c.code.result ≡ get_or c.args.text.now c.loop-i.i 0 = value ∙ get_or_read c.args.text.now c.loop-i.i c.index-text-i.result inside c.index-text-i.is 0 in (
      ap (λ xs. slice_set xs at c.code.result) c.loop-i.invariant.0 ∙ ap (slice_set (paste old c.args.at c.args.text.now c.loop-i.i) at) read
          ∙ paste_more old c.args.at c.args.text.now c.loop-i.i 0 (omega arith) inside,
      λ k. read-or (λ x. IsTrue (is_code x)) c.loop-i.codes at k c.code.result 0 (λ _. subst (λ (x : ℕ). IsTrue (is_code x)) (sym value) c.code.ensures.right) (c.loop-i.invariant.1 k),
    )

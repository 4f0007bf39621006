use Rattle.std.proofs.Common.{ap, sym, ◌∙◌, option_map, Bor, arith}
use Rattle.rd_matrix.specs.declared.matrix.Entry.{Entry}
use Rattle.rd_reuse.proofs.Taking.{whole-none, whole-not, whole-ends, whole-more}
use Rattle.rd_reuse.proofs.keeping.are_whole.Goals as goal

pub returns-in_default : goal.returns-in_default
returns-in_default c =
    let b = c.args.block.now in
    sym (whole-none b.base c.args.old.now c.args.change b.start c.loop-number.number (omega arith) (sym c.entry_under.ensures ∙ ap (option_map (λ (e : Bor Entry). e.now)) c.in_default.is)) ∙ c.loop-number.invariant

pub returns-then-not-has_base : goal.returns-then-not-has_base
returns-then-not-has_base c =
    let b = c.args.block.now in
    sym (whole-not b.base c.args.old.now c.args.change b.start c.loop-number.number c.in-Some.entry.now (omega arith) (sym c.entry_under.ensures ∙ ap (option_map (λ (e : Bor Entry). e.now)) c.in-Some.is)
    (sym c.has_base.ensures ∙ c.if-not-has_base.true)) ∙ c.loop-number.invariant

pub returns-then-ends_block : goal.returns-then-ends_block
returns-then-ends_block c =
    let b = c.args.block.now in
    sym (whole-ends b.base c.args.old.now c.args.change b.start c.loop-number.number c.in-Some.entry.now (omega arith) (sym c.entry_under.ensures ∙ ap (option_map (λ (e : Bor Entry). e.now)) c.in-Some.is)
    (sym c.has_base.ensures ∙ c.if-not-has_base.false) (sym c.ends_block.ensures ∙ c.if-ends_block.true)) ∙ c.loop-number.invariant

pub loop-number-preserved : goal.loop-number-preserved
loop-number-preserved c =
    let b = c.args.block.now in
    whole-more b.base c.args.old.now c.args.change b.start c.loop-number.number c.in-Some.entry.now (omega arith) (sym c.entry_under.ensures ∙ ap (option_map (λ (e : Bor Entry). e.now)) c.in-Some.is)
    (sym c.has_base.ensures ∙ c.if-not-has_base.false) (sym c.ends_block.ensures ∙ c.if-ends_block.false) ∙ c.loop-number.invariant

use Rattle.std.proofs.Common.{sym, ◌∙◌, arith}
use Rattle.rd_spans.specs.Values.{values_opened}
use Rattle.rd_props.specs.Buffers.{values_of}
use Rattle.rd_state.proofs.Opening.{one-more, all-edited, none-opened, undone, unchanged, not-yet, if-no_err, if-is_err}
use Rattle.rd_state.proofs.values.open.Goals as goal

pub inserted-requires : goal.inserted-requires
inserted-requires c = λ p v h.
    let room = c.requires.room c.loop-kind.kind p v
    (sym (not-yet (λ f. values_opened f c.args.pos c.args.n) c.loop-kind.spans (values_of c.args.spans.now) c.loop-kind.kind c.index-spans-kind.result (omega arith) c.loop-kind.invariant p) ∙ h) in
    omega arith

pub loop-kind-preserved : goal.loop-kind-preserved
loop-kind-preserved c = one-more (λ f. values_opened f c.args.pos c.args.n) c.loop-kind.spans (values_of c.args.spans.now) c.loop-kind.kind c.index-spans-kind.result c.inserted.new.self
    (omega arith) (if-no_err c.inserted.result (sym c.if-is_err.false ∙ c.is_err.ensures.value) c.inserted.ensures.ok) c.loop-kind.invariant

pub returns-then-is_err-clause-err : goal.returns-then-is_err-clause-err
returns-then-is_err-clause-err c =
    let same = if-is_err c.inserted.result (sym c.if-is_err.true ∙ c.is_err.ensures.value) c.inserted.ensures.err in
    undone _ c.close_first.new.spans (values_of c.args.spans.now) c.args.pos c.args.n c.loop-kind.kind
    (unchanged (λ f. values_opened f c.args.pos c.args.n) c.loop-kind.spans (values_of c.args.spans.now) c.loop-kind.kind c.index-spans-kind.result c.inserted.new.self
    same c.loop-kind.invariant) c.close_first.ensures

pub returns-clause-ok : goal.returns-clause-ok
returns-clause-ok c = all-edited (λ f. values_opened f c.args.pos c.args.n) c.loop-kind.spans c.args.spans.now c.loop-kind.kind (omega arith)
    (none-opened c.args.pos c.args.n) c.loop-kind.invariant

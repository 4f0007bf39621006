use Rattle.std.proofs.Common.{◌≡◌, ℕ, List, Option, [], sym, ◌∙◌, subst, rules, None, Ok, Err, inr}
use Rattle.std.proofs.lemmas.Bool.{eqb-true}
use Rattle.std.proofs.lemmas.List.{nil_from_length}
use Rattle.rd_io.specs.Pieces.{TakesPiece, IsLeft}
use Rattle.rd_io.proofs.Gathering.{gathers-fault, gathering-goes_on, gathers-end, unbroken-first}
use Rattle.rd_io.proofs.lines.gather.Goals as goal

pub returns-in_err-n-clause-gathers : goal.returns-in_err-n-clause-gathers
returns-in_err-n-clause-gathers g c =
    let Took : List ℕ → Type 0 = λ bytes. TakesPiece (Err c.in_err-n.field-0.0) c.loop-n.line.items c.take_piece.new.line.items bytes c.args.given in
    let came = gathers-fault c.args.chunk.now _ _ c.loop-n.line.items c.loop-n.chunk c.take_piece.new.line.items c.loop-n.chunk c.args.given c.in_err-n.field-0.0 c.loop-n.invariant.come
    (subst Took c.rest.ensures c.in_err-n.ensures) in
    (came.0, came.1, search rules, came.3)

pub returns-then-is_empty-clause-gathers : goal.returns-then-is_empty-clause-gathers
returns-then-is_empty-clause-gathers g c =
    let Took : Option ℕ → List ℕ → Type 0 = λ o bytes. TakesPiece (Ok o) c.loop-n.line.items c.take_piece.new.line.items bytes c.args.given in
    let took = subst (Took None) c.rest.ensures (subst (λ o. Took o c.rest.result.now) c.in_default.is c.in_ok-n.ensures) in
    let goes_on = gathering-goes_on c.args.chunk.now (g.S.Source.left c.args.source.now) (g.S.Source.left c.loop-n.source) (g.S.Source.left c.refill.new.source)
    c.loop-n.line.items c.loop-n.chunk c.take_piece.new.line.items c.refill.new.self c.args.given c.loop-n.invariant.come took c.in_default-refill.ensures.ok c.in_default-refill.ensures.few in
    let none : c.refill.new.self ≡ [] =
    sym c.rest-in-loop-n.ensures ∙ nil_from_length c.rest-in-loop-n.result.now (eqb-true _ 0 (sym c.is_empty.ensures ∙ c.if-is_empty.true)) in
    let Left : List ℕ → Type 0 = λ line. IsLeft c.what_is_left.result line in
    gathers-end c.args.chunk.now (g.S.Source.left c.args.source.now) (g.S.Source.left c.refill.new.source) c.take_piece.new.line.items c.refill.new.self c.args.given c.what_is_left.result
    goes_on none (c.in_default-refill.ensures.end none) (subst Left c.deref.ensures.value c.what_is_left.ensures)

pub loop-n-preserved : goal.loop-n-preserved
loop-n-preserved g c =
    let Took : Option ℕ → List ℕ → Type 0 = λ o bytes. TakesPiece (Ok o) c.loop-n.line.items c.take_piece.new.line.items bytes c.args.given in
    let took = subst (Took None) c.rest.ensures (subst (λ o. Took o c.rest.result.now) c.in_default.is c.in_ok-n.ensures) in
    record {
      come = gathering-goes_on c.args.chunk.now (g.S.Source.left c.args.source.now) (g.S.Source.left c.loop-n.source) (g.S.Source.left c.refill.new.source)
          c.loop-n.line.items c.loop-n.chunk c.take_piece.new.line.items c.refill.new.self c.args.given c.loop-n.invariant.come took c.in_default-refill.ensures.ok c.in_default-refill.ensures.few;
      unread = inr (unbroken-first c.args.chunk.now c.loop-n.chunk _ c.loop-n.invariant.unread took.1);
      count = c.in_default-refill.ensures.kept ∙ c.loop-n.invariant.count;
    }

use Rattle.std.proofs.Common.{List, ℕ, Option, arith, ap, subst, sym, ◌∙◌}
use Rattle.std.proofs.lemmas.List.{nil_from_length}
use Rattle.std.specs.Vec.{vec_capacity}
use Rattle.rd_spans.specs.Values.{value_at, values_put, IsTrimmed}
use Rattle.rd_spans.specs.Sides.{values_of_both}
use Rattle.rd_spans.proofs.Edits.{length-none, size-none, values_of_both-none, put-filled, put-nothing, put-trimmed, still-room}
use Rattle.rd_spans.proofs.gap.put.Goals as goal

pub returns-then-ends_there-clause-values : goal.returns-then-ends_there-clause-values
returns-then-ends_there-clause-values c =
    let m = c.move_to.ensures.moved in
    let a = c.move_to.new.front.items in
    let b = c.move_to.new.back.items in
    let d = c.cut.new.runs.items in
    let ends = rw c.deref.ensures.value at c.ends_there.ensures.yes in
    let there = ends c.if-ends_there.true in
    let nothing = nil_from_length d there.1 in
    let none = size-none d there.1 in
    λ p.
    ap (λ (xs : List (Option ℕ)). value_at xs p) (values_of_both-none c.trim.new.runs.items d nothing)
    ∙ (c.trim.ensures.values p
    ∙ (put-nothing a b d c.args.from c.args.to m.at c.requires.some c.cut.ensures.cut none p
    ∙ (ap (λ (v : Option ℕ). values_put (value_at (values_of_both a b)) c.args.from c.args.to v p) (sym there.0)
    ∙ ap (λ (xs : List (Option ℕ)). values_put (value_at xs) c.args.from c.args.to c.args.value p) m.same)))

pub returns-else-ends_there : goal.returns-else-ends_there
returns-else-ends_there c =
    let m = c.move_to.ensures.moved in
    let a = c.move_to.new.front.items in
    let b = c.move_to.new.back.items in
    let d = c.cut.new.runs.items in
    let new = c.fill.new.front.items in
    let t = subst IsTrimmed (sym m.same) c.requires.sides.trimmed in
    let s = c.requires.sides in
    let ends = rw c.deref.ensures.value at c.ends_there.ensures.no in
    let values = put-filled a b new d c.args.from c.args.to c.args.value m.at c.requires.some c.fill.ensures.order c.fill.ensures.size c.fill.ensures.values c.cut.ensures.cut in
    record {
      sides = record {
        rooms = still-room c.args.front.now.items c.args.back.now.items a b new d (vec_capacity c.fill.new.front) (vec_capacity c.cut.new.runs)
            (record { front_rises = c.fill.ensures.order; back_rises = c.cut.ensures.cut.rises; few = omega (arith, m.at.gap, m.size, s.rooms.runs.few, c.cut.ensures.cut.size, c.fill.ensures.size, c.requires.bound, c.requires.some) })
            m.needs (omega (arith, c.fill.ensures.count, c.cut.ensures.lighter.count))
            (omega (arith, c.fill.ensures.room, c.move_to.ensures.front_room, c.requires.front_more)) (omega (arith, c.cut.ensures.room, c.move_to.ensures.back_room, c.requires.back_more));
        trimmed = put-trimmed a b new d c.args.from c.args.to c.args.value m.at c.requires.some c.fill.ensures.order c.fill.ensures.size c.cut.ensures.cut values
            (λ none v. ends c.if-ends_there.false (length-none d c.cut.ensures.cut.rises none) v) t;
      };
      values = λ p. values p ∙ ap (λ (xs : List (Option ℕ)). values_put (value_at xs) c.args.from c.args.to c.args.value p) m.same;
    }

use Rattle.std.proofs.Common.{None, List, ℕ, Option, arith, ap, subst, sym, ◌∙◌}
use Rattle.std.specs.Vec.{vec_capacity}
use Rattle.rd_spans.specs.Values.{value_at, values_opened, CanMove, IsTrimmed}
use Rattle.rd_spans.specs.Sides.{top, has_value}
use Rattle.rd_spans.proofs.Sides.{none-or-one}
use Rattle.rd_spans.proofs.Edits.{not-empty, is-empty, size-none, open-values, open-nothing, open-trimmed, open-few, still-room}
use Rattle.rd_spans.proofs.gap.open.Goals as goal

pub push-requires-clause-bound : goal.push-requires-clause-bound
push-requires-clause-bound c =
    let m = c.move_to.ensures.moved in
    let b = c.move_to.new.back in
    let more = not-empty b.items b.len m.at.back_rises b.ok.0 (sym c.is_empty.ensures ∙ c.if-not-is_empty.true) in
    let t = subst IsTrimmed (sym m.same) c.requires.sides.trimmed in
    let can = subst (λ (xs : List (Option ℕ)). CanMove xs c.args.n) (sym m.same) c.requires.bound in
    omega (arith, open-few c.move_to.new.front.items b.items c.args.n m.at.front_rises m.at.back_rises more t can)

pub returns-then-not-is_empty : goal.returns-then-not-is_empty
returns-then-not-is_empty c =
    let m = c.move_to.ensures.moved in
    let a = c.move_to.new.front in
    let b = c.move_to.new.back in
    let new = c.push.new.runs in
    let more = not-empty b.items b.len m.at.back_rises b.ok.0 (sym c.is_empty.ensures ∙ c.if-not-is_empty.true) in
    let t = subst IsTrimmed (sym m.same) c.requires.sides.trimmed in
    let can = subst (λ (xs : List (Option ℕ)). CanMove xs c.args.n) (sym m.same) c.requires.bound in
    let values = open-values a.items b.items new.items c.args.pos c.args.n m.at more c.push.ensures.order c.push.ensures.size c.push.ensures.values in
    let one = none-or-one (has_value (top a.items) None) in
    record {
      sides = record {
        rooms = still-room c.args.front.now.items c.args.back.now.items a.items b.items new.items b.items (vec_capacity new) (vec_capacity b)
            (record { front_rises = c.push.ensures.order; back_rises = m.at.back_rises; few = omega (arith, open-few a.items b.items c.args.n m.at.front_rises m.at.back_rises more t can, c.push.ensures.size) })
            m.needs (omega (arith, one, c.push.ensures.count))
            (omega (arith, c.push.ensures.room, c.move_to.ensures.front_room, c.requires.front_more)) (omega (arith, c.move_to.ensures.back_room, c.requires.back_more));
        trimmed = open-trimmed a.items b.items new.items c.args.pos c.args.n m.at more c.push.ensures.order c.push.ensures.size values t;
      };
      values = λ p. values p ∙ ap (λ (xs : List (Option ℕ)). values_opened (value_at xs) c.args.pos c.args.n p) m.same;
    }

pub returns-else-not-is_empty-clause-values : goal.returns-else-not-is_empty-clause-values
returns-else-not-is_empty-clause-values c =
    let m = c.move_to.ensures.moved in
    let b = c.move_to.new.back in
    let none = size-none b.items (is-empty b.items b.len b.ok.0 (sym c.is_empty.ensures ∙ c.if-not-is_empty.false)) in
    λ p.
    open-nothing c.move_to.new.front.items b.items c.args.pos c.args.n m.at none p ∙ ap (λ (xs : List (Option ℕ)). values_opened (value_at xs) c.args.pos c.args.n p) m.same

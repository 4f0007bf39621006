use Rattle.std.proofs.Common.{◌≡◌, List, ℕ, Option, arith, ap, subst, sym, ◌∙◌}
use Rattle.std.proofs.lemmas.List.{nil_from_length}
use Rattle.rd_spans.specs.Values.{value_at, values_closed, IsTrimmed}
use Rattle.rd_spans.specs.Sides.{values_of_both}
use Rattle.rd_spans.proofs.Edits.{not-empty, is-empty, values_of_both-none, close-values, close-trimmed}
use Rattle.rd_spans.proofs.gap.close.Goals as goal
use Rattle.rd_spans.proofs.gap.close.Goals.{After-cut}

closed : (c : goal.After-cut) (p : ℕ) → value_at (values_of_both c.move_to.new.front.items c.cut.new.runs.items) p ≡ values_closed (value_at (values_of_both c.args.front.now.items c.args.back.now.items)) c.args.from c.args.to p
closed c p =
    close-values c.move_to.new.front.items c.move_to.new.back.items c.cut.new.runs.items c.args.from c.args.to c.move_to.ensures.moved.at c.requires.ordered c.cut.ensures.cut p
    ∙ ap (λ (xs : List (Option ℕ)). values_closed (value_at xs) c.args.from c.args.to p) c.move_to.ensures.moved.same

pub returns-then-is_empty-clause-values : goal.returns-then-is_empty-clause-values
returns-then-is_empty-clause-values c = λ p.
    let d = c.cut.new.runs in
    let nothing = nil_from_length d.items (is-empty d.items d.len d.ok.0 (sym c.is_empty.ensures ∙ c.if-is_empty.true)) in
    ap (λ (xs : List (Option ℕ)). value_at xs p) (values_of_both-none c.trim.new.runs.items d.items nothing)
    ∙ (c.trim.ensures.values p
    ∙ (ap (λ (xs : List (Option ℕ)). value_at xs p) (sym (values_of_both-none c.move_to.new.front.items d.items nothing))
    ∙ closed (goal.at.returns-then-is_empty-clause-values c).After-cut p))

pub returns-else-is_empty-clause-sides : goal.returns-else-is_empty-clause-sides
returns-else-is_empty-clause-sides c =
    let m = c.move_to.ensures.moved in
    let a = c.move_to.new.front.items in
    let b = c.move_to.new.back.items in
    let d = c.cut.new.runs in
    let more = not-empty d.items d.len c.cut.ensures.cut.rises d.ok.0 (sym c.is_empty.ensures ∙ c.if-is_empty.false) in
    let t = subst IsTrimmed (sym m.same) c.requires.sides.trimmed in
    let s = c.requires.sides in
    record {
      rooms = record {
        runs = record { front_rises = m.at.front_rises; back_rises = c.cut.ensures.cut.rises; few = omega (arith, m.size, s.rooms.runs.few, c.cut.ensures.cut.size) };
        front_holds = omega (arith, c.cut.ensures.lighter.needs a, m.needs, s.rooms.front_holds, c.move_to.ensures.front_room);
        back_holds = omega (arith, c.cut.ensures.lighter.needs a, m.needs, s.rooms.back_holds, c.move_to.ensures.back_room, c.cut.ensures.room);
      };
      trimmed = close-trimmed a b d.items c.args.from c.args.to m.at c.requires.ordered c.cut.ensures.cut more (close-values a b d.items c.args.from c.args.to m.at c.requires.ordered c.cut.ensures.cut) t;
    }

pub returns-else-is_empty-clause-values : goal.returns-else-is_empty-clause-values
returns-else-is_empty-clause-values c = closed (goal.at.returns-else-is_empty-clause-values c).After-cut

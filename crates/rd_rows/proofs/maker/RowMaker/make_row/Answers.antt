use Rattle.std.proofs.Common.{◌≡◌, Bool, ap, sym, ◌∙◌}
use Rattle.rd_rows.specs.declared.cutting.Cutting.{Cutting}
use Rattle.rd_rows.specs.Left.{MakerValues}
use Rattle.rd_rows.specs.Makers.{has_room, reached}
use Rattle.rd_rows.proofs.Walk.{start_of, walk-start, walk-some, walk-column, walk-used, walk-fits, walk-on, walk-less, taken-cutting, waiting-sound, waiting-on, waiting-few, walk-cells, ended-cells, leave-cuts, end-cuts}
use Rattle.rd_rows.proofs.maker.RowMaker.make_row.Given as given
use Rattle.rd_rows.proofs.maker.RowMaker.make_row.Goals as goal
use Rattle.rd_rows.proofs.maker.RowMaker.make_row.Goals.{After-has_room}

pub loop-filling-init : goal.loop-filling-init
loop-filling-init g c = walk-start c.args.self.now _ c.in_ok-filling.filling c.in_ok-filling.ensures.filling c.requires.line c.begin_row.ensures.making c.requires.going_on

pub take-requires : goal.take-requires
take-requires g c = walk-some c.args.self.now c.loop-filling.self _ _ c.loop-filling.filling c.loop-filling.invariant

pub has_room-requires-clause-column : goal.has_room-requires-clause-column
has_room-requires-clause-column g c = walk-column c.args.self.now c.loop-filling.self _ _ _ c.loop-filling.filling c.in_ok-element.element c.loop-filling.invariant c.in_ok-element.ensures.next

pub has_room-requires-clause-used : goal.has_room-requires-clause-used
has_room-requires-clause-used g c = walk-used c.args.self.now c.loop-filling.self _ _ c.loop-filling.filling c.loop-filling.invariant

-- once the test for room was made: the shape is the line's, and the test's answer is for the elements that stand in the row

shape-kept : (g : given.Over) (c : After-has_room g) → c.take.new.self.cutting.shape ≡ c.args.self.now.cutting.shape
shape-kept g c = ap (λ (x : Cutting). x.shape) (taken-cutting c.args.self.now c.loop-filling.self c.take.new.self c.loop-filling.invariant.maker c.in_ok-element.ensures.rest)

shape-inside : (g : given.Over) (c : After-has_room g) → c.self.inside.cutting.shape ≡ c.args.self.now.cutting.shape
shape-inside g c = ap (λ (x : MakerValues). x.cutting.shape) c.self.view_is ∙ shape-kept g c

room-told : (g : given.Over) (c : After-has_room g) (b : Bool) → c.has_room.result ≡ b
    → let m = c.args.self.now in
    let xs = c.loop-filling.invariant.xs in
    has_room m.cutting.shape xs (reached m.cutting.shape (start_of m) xs) c.in_ok-element.element ≡ b
room-told g c b is =
    sym (walk-fits c.args.self.now c.loop-filling.self _ _ c.loop-filling.filling c.loop-filling.invariant c.self.inside.cutting.shape c.has_room.result c.in_ok-element.element (shape-inside g c) c.has_room.ensures) ∙ is

pub leave-requires : goal.leave-requires
leave-requires g c =
    let at = (goal.at.leave-requires g c).After-has_room in
    let full = room-told g at _ c.if-not-has_room.true in
    record {
      sound = waiting-sound c.args.self.now c.loop-filling.self c.take.new.self _ _ _ c.loop-filling.filling c.in_ok-element.element c.loop-filling.invariant c.in_ok-element.ensures.next;
      on = waiting-on c.args.self.now c.loop-filling.self c.take.new.self _ _ c.loop-filling.filling c.loop-filling.invariant c.in_ok-element.element full c.in_ok-element.ensures.making.on;
      few = waiting-few c.args.self.now c.loop-filling.self c.take.new.self _ _ c.loop-filling.filling c.loop-filling.invariant c.in_ok-element.element full c.in_ok-element.ensures.less;
      cells = walk-cells c.args.self.now c.loop-filling.self _ _ c.loop-filling.filling c.take.new.self.cutting.shape c.loop-filling.invariant (shape-kept g at);
    }

pub returns-then-not-has_room : goal.returns-then-not-has_room
returns-then-not-has_room g c =
    leave-cuts c.leave.result c.args.self.now c.loop-filling.self c.take.new.self c.leave.new.self c.in_ok-element.ensures.making.on _ _ _ c.loop-filling.filling c.loop-filling.invariant c.in_ok-element.element
    c.in_ok-element.ensures.next c.in_ok-element.ensures.rest (room-told g (goal.at.returns-then-not-has_room g c).After-has_room _ c.if-not-has_room.true) c.leave.ensures

pub place-requires-clause-column : goal.place-requires-clause-column
place-requires-clause-column g c = walk-column c.args.self.now c.loop-filling.self _ _ _ c.loop-filling.filling c.in_ok-element.element c.loop-filling.invariant c.in_ok-element.ensures.next

pub place-requires-clause-used : goal.place-requires-clause-used
place-requires-clause-used g c = walk-used c.args.self.now c.loop-filling.self _ _ c.loop-filling.filling c.loop-filling.invariant

pub end_row-requires : goal.end_row-requires
end_row-requires g c =
    let at = (goal.at.end_row-requires g c).After-has_room in
    ended-cells c.args.self.now c.loop-filling.self c.take.new.self _ _ _ c.loop-filling.filling c.place.new.self c.in_ok-element.element c.self.inside.cutting.shape c.take.new.self.cutting.shape c.loop-filling.invariant
    c.in_ok-element.ensures.next (shape-inside g at) (shape-kept g at) c.in_ok-place.ensures

pub returns-then-ends_row : goal.returns-then-ends_row
returns-then-ends_row g c =
    let at = (goal.at.returns-then-ends_row g c).After-has_room in
    end-cuts c.end_row.result c.args.self.now c.loop-filling.self c.take.new.self c.end_row.new.self c.in_ok-element.ensures.making.on _ _ _ c.loop-filling.filling c.place.new.self c.loop-filling.invariant c.in_ok-element.element
    c.self.inside.cutting.shape c.is_line_end.result c.in_ok-element.ensures.next c.in_ok-element.ensures.rest (room-told g at _ c.if-not-has_room.false) (sym c.ends_row.ensures ∙ c.if-ends_row.true) c.is_line_end.ensures
    (shape-inside g at) c.in_ok-place.ensures c.end_row.ensures

pub loop-filling-preserved : goal.loop-filling-preserved
loop-filling-preserved g c =
    let at = (goal.at.loop-filling-preserved g c).After-has_room in
    walk-on c.args.self.now c.loop-filling.self c.take.new.self _ _ _ c.loop-filling.filling c.place.new.self c.loop-filling.invariant c.in_ok-element.element c.self.inside.cutting.shape c.in_ok-element.ensures.next
    c.in_ok-element.ensures.rest c.in_ok-element.ensures.less (room-told g at _ c.if-not-has_room.false) (sym c.ends_row.ensures ∙ c.if-ends_row.false) (shape-inside g at) c.in_ok-place.ensures

pub loop-filling-smaller : goal.loop-filling-smaller
loop-filling-smaller g c = walk-less c.loop-filling.self c.take.new.self _ _ c.in_ok-element.element c.in_ok-element.ensures.next

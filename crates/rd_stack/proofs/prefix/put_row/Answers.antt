use Rattle.std.proofs.Common.{sym, ◌∙◌}
use Rattle.rd_stack.specs.Walks.{walk_left}
use Rattle.rd_stack.proofs.Prefixes.{took, prefix-goes, prefix-stops, prefix-ends}
use Rattle.rd_stack.proofs.prefix.put_row.Goals as goal

pub loop-element-preserved : goal.loop-element-preserved
loop-element-preserved c =
    let e = c.in-Some.element in
    let old = walk_left c.loop-element.walker.few c.loop-element.walker.frames.items in
    let new = walk_left c.give.new.self.few c.give.new.self.frames.items in
    prefix-goes c.loop-element.elements c.push.new.self e old new _ c.in_ok-push.ensures.ok (took c.in_ok-element.field-0 e old new c.in-Some.is c.in_ok-element.ensures)
    (sym c.is_row_end.ensures ∙ c.if-is_row_end.false) c.loop-element.invariant

pub returns-then-is_row_end : goal.returns-then-is_row_end
returns-then-is_row_end c =
    let e = c.in-Some.element in
    let old = walk_left c.loop-element.walker.few c.loop-element.walker.frames.items in
    let new = walk_left c.give.new.self.few c.give.new.self.frames.items in
    prefix-stops c.loop-element.elements e old new _ (took c.in_ok-element.field-0 e old new c.in-Some.is c.in_ok-element.ensures)
    (sym c.is_row_end.ensures ∙ c.if-is_row_end.true) c.loop-element.invariant

pub returns : goal.returns
returns c =
    prefix-ends c.in_ok-element.field-0 c.loop-element.elements (walk_left c.loop-element.walker.few c.loop-element.walker.frames.items) (walk_left c.give.new.self.few c.give.new.self.frames.items) _
    c.in_default.is c.in_ok-element.ensures c.loop-element.invariant

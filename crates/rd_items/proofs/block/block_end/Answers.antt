use Rattle.std.proofs.Common.{sym, ◌∙◌, arith}
use Rattle.rd_props.specs.Buffers.{meaning}
use Rattle.rd_items.proofs.Newlines.{next-newline, none-inside, step-on}
use Rattle.rd_items.proofs.block.block_end.Goals as goal

pub loop-newline-init : goal.loop-newline-init
loop-newline-init c =
    let s = meaning c.args.view.now.state.now in
    rw c.next_newline-newline.ensures
    (next-newline s c.end-end.ensures.right c.args.pos c.args.pos c.end-end.result c.requires.0 (omega arith) c.requires.1 c.end-end.ensures.value (none-inside s c.args.pos))

pub loop-newline-preserved : goal.loop-newline-preserved
loop-newline-preserved c =
    let s = meaning c.args.view.now.state.now in
    let range = c.in_ok-range.ensures in
    let before = c.loop-newline.invariant in
    rw c.next_newline-newline-in-loop-newline.ensures
    (next-newline s c.end-end.ensures.right c.args.pos c.in_ok-range.range.until c.end-end.result c.requires.0 (omega (arith, before.ordered, range.first, range.some)) (range.within (omega arith)) c.end-end.ensures.value
    (step-on s c.args.view.now.objects.now c.in_ok-range.range c.args.pos c.loop-newline.newline range.shown range.first (sym c.is_open.ensures ∙ c.if-is_open.false) before.inside))

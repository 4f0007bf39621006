use Rattle.std.proofs.Common.{sym, inr, ◌∙◌, ◌-◌, arith}
use Rattle.rd_props.specs.Buffers.{meaning}
use Rattle.rd_items.proofs.Newlines.{prev-newline, none-inside, step-back, open-newline}
use Rattle.rd_items.proofs.block.block_start.Goals as goal

pub loop-from-init : goal.loop-from-init
loop-from-init c =
    let s = meaning c.args.view.now.state.now in
    rw c.prev_newline-from.ensures
    (prev-newline s c.begin-begin.ensures.right c.args.pos c.args.pos c.begin-begin.result c.requires.0 (omega arith) c.requires.1 c.begin-begin.ensures.value (none-inside s c.args.pos))

pub loop-from-preserved : goal.loop-from-preserved
loop-from-preserved c =
    let s = meaning c.args.view.now.state.now in
    let range = c.in_ok-before.ensures in
    let behind = c.loop-from.invariant in
    rw c.prev_newline-from-in-loop-from.ensures
    (prev-newline s c.begin-begin.ensures.right c.args.pos c.in_ok-before.before.from c.begin-begin.result range.within (omega (arith, behind.ordered, range.last, range.some)) c.requires.1 c.begin-begin.ensures.value
    (step-back s c.args.view.now.objects.now c.in_ok-before.before c.loop-from.from c.args.pos range.shown range.last (sym c.is_open.ensures ∙ c.if-is_open.false) behind.inside))

pub returns-then-is_open : goal.returns-then-is_open
returns-then-is_open c =
    let s = meaning c.args.view.now.state.now in
    let before = c.in_ok-before.ensures in
    let last = before.last in
    let some = before.some in
    record {
      first = omega (arith, c.loop-from.invariant.within);
      last = c.loop-from.invariant.ordered;
      begins = inr (open-newline s c.args.view.now.objects.now c.in_ok-before.before (c.loop-from.from - 1) before.shown (omega arith) (omega arith) (omega arith) (sym c.is_open.ensures ∙ c.if-is_open.true) (c.loop-from.invariant.ends (omega arith)));
      inside = c.loop-from.invariant.inside;
    }

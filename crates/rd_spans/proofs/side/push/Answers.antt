use Rattle.std.proofs.Common.{◌≡◌, ◌+◌, refl, arith}
use Rattle.rd_spans.specs.Sides.{size_of}
use Rattle.rd_spans.proofs.Sides.{longer-values, rises-push, reach-push, has-top, value-decides}
use Rattle.rd_spans.proofs.side.push.Goals as goal

pub returns-clause-values : goal.returns-clause-values
returns-clause-values c =
    let end : c.size.result + c.args.n ≡ size_of c.args.runs.now.items + c.args.n = rw (c.size.ensures, c.deref.ensures.value) refl in
    rw c.push_reserved.ensures.items
    (longer-values c.args.runs.now.items c.open_end.new.runs.items (c.size.result + c.args.n) c.args.n c.args.value c.open_end.ensures.values c.open_end.ensures.less end)

pub returns-clause-order : goal.returns-clause-order
returns-clause-order c =
    let end : c.size.result ≡ size_of c.args.runs.now.items = rw c.deref.ensures.value at c.size.ensures in
    rw c.push_reserved.ensures.items
    (rises-push 0 c.open_end.new.runs.items _ c.open_end.ensures.order (omega (arith, end, c.open_end.ensures.less, c.if-n-eq0.false)))

pub returns-clause-size : goal.returns-clause-size
returns-clause-size c =
    let end : c.size.result ≡ size_of c.args.runs.now.items = rw c.deref.ensures.value at c.size.ensures in
    rw (c.push_reserved.ensures.items, reach-push 0 c.open_end.new.runs.items _, end) refl

pub returns-clause-top : goal.returns-clause-top
returns-clause-top c = λ some. rw (c.push_reserved.ensures.items, has-top c.open_end.new.runs.items _ c.args.value) ((value-decides c.args.value c.args.value).1 refl)

use Rattle.std.proofs.Common.{List, ℕ, subst, ◌∙◌}
use Rattle.rd_overlays.specs.Bounds.{IsBounded}
use Rattle.rd_overlays.proofs.Passing.{built-index}
use Rattle.rd_overlays.proofs.index.indexed.Goals as goal

pub returns : goal.returns
returns c =
    let P : List ℕ → Type 0 = λ order. IsBounded c.args.slots.now order c.in_ok-bounds.bounds in
    built-index c.args.slots.now c.in_ok-numbers.numbers.items c.sort_by_start.new.numbers.items c.in_ok-order.order c.in_ok-bounds.bounds
    c.in_ok-numbers.ensures c.sort_by_start.ensures (c.in_ok-order.ensures ∙ c.as_slice.ensures.value) (subst P c.as_slice-2.ensures c.in_ok-bounds.ensures)

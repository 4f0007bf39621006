use Rattle.std.proofs.Common.{◌≡◌, ℕ, List, map, IfOk, ap, subst, ◌∙◌}
use Rattle.std.specs.List.{filter}
use Rattle.std.specs.List.Sorted.{ties}
use Rattle.rd_overlays.specs.declared.listing.Rank.{Rank}
use Rattle.rd_overlays.specs.Overlays.{meets, precedes, number_of_rank}
use Rattle.rd_overlays.proofs.Listed.{sorted-is}
use Rattle.rd_overlays.proofs.listing.listed.Goals as goal

pub returns : goal.returns
returns c =
    let found = rw c.as_slice.ensures at c.in_ok-ranks.ensures in
    let sorted = sorted-is (meets c.args.meeting c.args.pos) c.args.store.now c.index.result.now.order c.sort.new.self.items c.index.ensures.size c.index.ensures.whole
    c.in_ok-sort.ensures.sorted (λ x. c.in_ok-sort.ensures.stable x ∙ ap (λ (ranks : List Rank). filter (ties precedes x) ranks) found) in
    subst (λ (ranks : List Rank). IfOk c.numbers.result (λ (list : List ℕ). list ≡ map number_of_rank ranks)) (c.as_slice-2.ensures.value ∙ sorted) c.numbers.ensures

use Rattle.std.proofs.Common.{◌≡◌, ◌<◌, ◌≤◌, true, false, Some, sym, ap, subst, ltb, ◌∙◌, arith, rules}
use Rattle.std.specs.List.Sorted.{IsPartitionPoint}
use Rattle.std.proofs.lemmas.List.{get_or_default}
use Rattle.std.proofs.lemmas.List.Sorted.{IsPartitionPoint-from_clause, IsPartitionedBy-ltb}
use Rattle.rd_ucd.proofs.Ranges.{entry_in-miss, entry_in-hit, not_falling}
use Rattle.rd_ucd.proofs.search.entry_at.Given as given
use Rattle.rd_ucd.proofs.search.entry_at.Goals as goal
use Rattle.rd_ucd.proofs.search.entry_at.Goals.{After-partition_point-below}

-- so many entries end below the code
point : (g : given.Over) (c : After-partition_point-below g)
    → IsPartitionPoint (λ e. ltb (g.T.Covers.last e) c.args.code ≡ true) (λ e. ltb (g.T.Covers.last e) c.args.code ≡ false) c.args.entries.now c.partition_point-below.result
point g c =
    let last = g.T.Covers.last in
    let parted = IsPartitionedBy-ltb last c.args.entries.now c.args.code (not_falling g.T.Covers.first last c.args.entries.now c.requires) in
    IsPartitionPoint-from_clause (λ e. ltb (last e) c.args.code) _ _ c.partition_point-below.ensures.partitioned parted (λ a r q k. search rules)

pub returns-then-below-entries : goal.returns-then-below-entries
returns-then-below-entries g c =
    let end = c.if-below-entries.true in
    sym (entry_in-miss _ _ _ _ _ c.requires (point g (goal.at.returns-then-below-entries g c).After-partition_point-below) (λ d within. absurd (omega arith)))

pub returns-then-first-code : goal.returns-then-first-code
returns-then-first-code g c =
    let x = c.index-entries-below.result in
    let from = subst (λ n. n ≤ c.args.code) (c.first.ensures ∙ ap g.T.Covers.first c.index-entries-below.is) c.if-first-code.true in
    ap Some c.index-entries-below.is
    ∙ sym (entry_in-hit _ _ _ _ _ c.requires (point g (goal.at.returns-then-first-code g c).After-partition_point-below) x (omega arith) from)

pub returns-else-first-code : goal.returns-else-first-code
returns-else-first-code g c =
    let x = c.index-entries-below.result in
    sym (entry_in-miss _ _ _ _ _ c.requires (point g (goal.at.returns-else-first-code g c).After-partition_point-below)
    (λ d within. subst (λ n. c.args.code < n)
    (c.first.ensures ∙ ap g.T.Covers.first (c.index-entries-below.is ∙ get_or_default c.args.entries.now c.partition_point-below.result x d within)) c.if-first-code.false))

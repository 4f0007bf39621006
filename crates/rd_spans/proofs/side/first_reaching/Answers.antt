use Rattle.std.proofs.Common.{ltb, arith, rules}
use Rattle.std.proofs.lemmas.Bool.{ltb-true, ltb-false}
use Rattle.std.proofs.lemmas.List.Sorted.{IsPartitionPoint-from_clause, IsPartitionedBy-ltb}
use Rattle.rd_spans.proofs.Sides.{rises-ends}
use Rattle.rd_spans.proofs.side.first_reaching.Goals as goal

pub returns-clause-before : goal.returns-clause-before
returns-clause-before c =
    let parted = IsPartitionedBy-ltb (λ r. r.end) c.args.runs.now c.args.end (λ i j d p q. (rises-ends 0 c.args.runs.now i j d c.requires p q).1) in
    let point = IsPartitionPoint-from_clause (λ r. ltb r.end c.args.end) _ _ c.partition_point.ensures.partitioned parted (λ a r q k. search rules) in
    λ k d h. ltb-true _ _ (point.0 k d (omega arith) h)

pub returns-clause-behind : goal.returns-clause-behind
returns-clause-behind c =
    let parted = IsPartitionedBy-ltb (λ r. r.end) c.args.runs.now c.args.end (λ i j d p q. (rises-ends 0 c.args.runs.now i j d c.requires p q).1) in
    let point = IsPartitionPoint-from_clause (λ r. ltb r.end c.args.end) _ _ c.partition_point.ensures.partitioned parted (λ a r q k. search rules) in
    λ k d h i. ltb-false _ _ (point.1 k d h i)

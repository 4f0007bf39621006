use Rattle.std.proofs.Common.{◌≡◌, drop}
use Rattle.rd_resolve.specs.Places.{types_at}
use Rattle.rd_resolve.specs.Walks.{w5_run_ends}
use Rattle.rd_resolve.proofs.weak_walk.w5_run_ends.Given as goal

abbrev pub invariant-loop-i : goal.invariant-loop-i
invariant-loop-i l = w5_run_ends l.strong (types_at (drop l.i-index l.rest) l.types) ≡ w5_run_ends l.strong (types_at l.rest l.types)

use Rattle.std.proofs.Common.{◌≡◌, drop}
use Rattle.rd_resolve.specs.Neutral.{n1_following}
use Rattle.rd_resolve.specs.Places.{types_at}
use Rattle.rd_resolve.proofs.neutral_walk.n1_following.Given as goal

abbrev pub invariant-loop-i : goal.invariant-loop-i
invariant-loop-i l = n1_following l.eos (types_at (drop l.i-index l.rest) l.types) ≡ n1_following l.eos (types_at l.rest l.types)

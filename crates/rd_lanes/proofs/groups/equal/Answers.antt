use Rattle.std.proofs.Common.{eqb, w32, arith}
use Rattle.std.proofs.lemmas.Simd.{bitmask_splat, length-chunk}
use Rattle.std.specs.Simd.Lanes.{chunk}
use Rattle.rd_lanes.proofs.groups.equal.Goals as goal

pub returns : goal.returns
returns c = bitmask_splat w32 eqb (chunk c.args.at 8 c.args.list.now) 8 c.args.x (length-chunk c.args.at 8 c.args.list.now c.requires) (omega arith)

use Rattle.rd_io.proofs.Bytes.{range-skipped}
use Rattle.rd_io.proofs.chunk.Chunk.skip.Goals as goal

pub returns : goal.returns
returns c = range-skipped c.self.inside.room.items c.self.inside.from c.self.inside.to c.args.n c.args.self.now c.self.invariant.1 c.self.view_is c.requires

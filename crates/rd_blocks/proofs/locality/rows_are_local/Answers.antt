use Rattle.rd_blocks.proofs.Local.{rows-local}
use Rattle.rd_blocks.proofs.locality.rows_are_local.Goals as goal

pub returns : goal.returns
returns c = rows-local c.made_objects_alone_are_read.ensures.reading

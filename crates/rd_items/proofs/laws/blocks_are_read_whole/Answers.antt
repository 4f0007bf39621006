use Rattle.rd_items.proofs.Reach.{block-read, reading-whole}
use Rattle.rd_items.proofs.laws.blocks_are_read_whole.Goals as goal

pub returns : goal.returns
returns c = record { reading = reading-whole; length = block-read }

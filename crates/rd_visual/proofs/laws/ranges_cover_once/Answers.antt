use Rattle.rd_visual.proofs.Counts.{block, every}
use Rattle.rd_visual.proofs.laws.ranges_cover_once.Goals as goal

pub returns : goal.returns
returns c = λ s objects files text. let are = c.blocks_are_tiled.ensures s text in record { every = every s objects files are; block = block s objects files are }

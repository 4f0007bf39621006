use Rattle.rd_items.specs.Pieces.{scene_in}
use Rattle.rd_items.specs.Readings.{reading}
use Rattle.rd_visual.proofs.Counts.{ranges-stand, tiled-block}
use Rattle.rd_visual.proofs.Reordered.{turns-permute}
use Rattle.rd_visual.proofs.laws.ranges_are_reordered.Goals as goal

pub returns-clause-stand : goal.returns-clause-stand
returns-clause-stand c = λ s objects files b text among. ranges-stand s objects files b (tiled-block s objects files (c.blocks_are_tiled.ensures s text) b among)

pub returns-clause-same : goal.returns-clause-same
returns-clause-same c = λ s objects files b test. turns-permute test (scene_in s.settings objects files) b.start b.base (reading s objects b.start)

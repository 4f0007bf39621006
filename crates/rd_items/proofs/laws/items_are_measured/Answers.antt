use Rattle.rd_items.proofs.Measured.{reading-measured}
use Rattle.rd_items.proofs.laws.items_are_measured.Goals as goal

pub returns : goal.returns
returns c = reading-measured c.marks_join_measured_glyphs.ensures

use Rattle.rd_objects.proofs.Soundness.{string_coloured}
use Rattle.rd_objects.proofs.laws.strings_have_colours.Goals as goal

pub returns : goal.returns
returns c = string_coloured

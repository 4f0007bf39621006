use Rattle.rd_props.proofs.Colours.{merged-coloured}
use Rattle.rd_props.proofs.laws.merged_faces_have_their_colours.Goals as goal

pub returns : goal.returns
returns c = merged-coloured

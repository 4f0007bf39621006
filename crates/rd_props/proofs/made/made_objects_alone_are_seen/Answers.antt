use Rattle.rd_props.proofs.Sees.{seen-made}
use Rattle.rd_props.proofs.made.made_objects_alone_are_seen.Goals as goal

pub returns : goal.returns
returns c = λ s objects p made. seen-made s objects made p

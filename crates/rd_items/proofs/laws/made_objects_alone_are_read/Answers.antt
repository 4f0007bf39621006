use Rattle.rd_props.specs.Made.{SeesMade}
use Rattle.rd_items.proofs.Naming.{items-made}
use Rattle.rd_items.proofs.Readings.{reading-each}
use Rattle.rd_items.proofs.laws.made_objects_alone_are_read.Goals as goal

pub returns-clause-reading : goal.returns-clause-reading
returns-clause-reading c = λ s objects p made. reading-each (SeesMade objects) s objects (λ q. c.made_objects_alone_are_seen.ensures s objects q made) p

pub returns-clause-items : goal.returns-clause-items
returns-clause-items c = λ s es closed. items-made s closed es

-- What C holds behind a handle's pointer: a box, or nothing.
use base.Fml.{Fml, ftrue}
use denote.RawPtr.{Ptr}
use Rattle.std.specs.Prelude.{Option, Some, None}
use Rattle.std.specs.Box.Ownership.{box_owns}
use Rattle.std.specs.declared.alloc.Global.{Global}
use Rattle.std.specs.contracts.impls.GlobalAllocator.TheImpl.{ghosts}
use Rattle.rd_embed.specs.contracts.embedded.Embedded.{the_row}
use Rattle.rd_embed.specs.declared.embedded.Embedded.{Embedded}

abbrev pub held_at : Global → Ptr → Option Embedded → Fml
held_at a p (Some x) = box_owns (ghosts.dealloc_token a) the_row p x
held_at a p None = ftrue

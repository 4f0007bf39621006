use Rattle.std.proofs.Common.{◌<◌, length, subst, sym}
use Rattle.rd_matrix.specs.Blocks.{IsAmong, MayBeAsked}
use Rattle.rd_matrix.specs.Held.{blocks_held, source_of}
use Rattle.rd_matrix.specs.Sources.{IsSource}
use Rattle.rd_matrix.proofs.HeldLemmas.{source-right, among-some, asked-some}
use Rattle.rd_matrix.proofs.held.MemBlocks.rules.Goals as goal

pub returns : goal.returns
returns c =
    let v = c.self.view_is in
    let hs = c.self.inside.held.items in
    let source = λ (some : 0 < length hs).
    subst (λ xs. IsSource (source_of xs)) v
    (source-right hs c.self.invariant some c.rows_of_every_line.ensures.last c.rows_of_every_line.ensures.begun c.prefixes_stand_before_lines.ensures) in
    record {
      among = λ block among. source (among-some hs block (subst (λ xs. IsAmong (blocks_held xs) block) (sym v) among));
      asked = λ pos asked. source (asked-some hs pos (subst (λ xs. MayBeAsked pos (blocks_held xs)) (sym v) asked));
    }

use Rattle.rd_rows.proofs.Mirroring.{made-length}
use Rattle.std.proofs.Common.{arith}
use Rattle.rd_rows.proofs.draft.Draft.finish.Goals as goal

pub made-requires : goal.made-requires
made-requires c =
    let least = c.room-room.ensures.least in
    let bound = c.room-room.ensures.bounds in
    let room = c.room-room.ensures.room in
    let sub = c.saturating_sub-missing.ensures in
    let len = c.len.ensures in
    made-length c.args.cutting.now c.args.self.spot.used c.saturating_sub-missing.result c.args.self.cells _ _ _ _ _ _
    (omega (arith, least, room)) (omega (arith, bound, room)) c.requires c.in_ok-cells.ensures (omega (arith, sub, len, room)) c.in_ok-push_copies.ensures c.in_ok-push.ensures.ok c.in_ok-cells-2.ensures

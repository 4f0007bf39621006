use Rattle.std.proofs.lemmas.Option.{slice_get_read}
use Rattle.std.proofs.Common.{refl}
use Rattle.rd_start.proofs.Places.{anchor-strip_row}
use Rattle.rd_start.proofs.strip.Strip.anchor.Goals as goal

pub returns : goal.returns
returns c = λ m h.
    let s = c.args.self.now in
    anchor-strip_row m s c.args.place c.index-row.result.now h c.requires (slice_get_read s.strip_rows.items _ c.args.place c.index-row.result.now refl c.requires c.index-row.ensures)

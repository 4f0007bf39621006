use Rattle.std.proofs.Common.{◌==◌, [], sym}
use Rattle.std.specs.List.{slice_split}
use Rattle.rd_ucd.proofs.Cuts.{first_of_pieces, pieces-cut, pieces-uncut}
use Rattle.rd_ucd.proofs.pieces.split_first.Goals as goal

pub returns-in-Some : goal.returns-in-Some
returns-in-Some c =
    let cut = pieces-cut c.args.separator c.args.bytes.now c.in-Some.front.now c.in-Some.rest.now (sym c.in-Some.ensures.value) in
    record { first = first_of_pieces c.in-Some.front.now (slice_split (λ b. b == c.args.separator) c.in-Some.rest.now) (slice_split (λ b. b == c.args.separator) c.args.bytes.now) cut; pieces = (cut, c.in-Some.ensures.shorter) }

pub returns-in-None : goal.returns-in-None
returns-in-None c =
    let cut = pieces-uncut c.args.separator c.args.bytes.now (sym c.in-None.ensures.value) in
    record { first = first_of_pieces c.args.bytes.now [] (slice_split (λ b. b == c.args.separator) c.args.bytes.now) cut; pieces = cut }

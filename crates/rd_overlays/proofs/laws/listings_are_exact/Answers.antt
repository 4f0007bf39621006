use Rattle.rd_overlays.proofs.Alike.{listing-same}
use Rattle.rd_overlays.proofs.Exact.{exact, ascends}
use Rattle.rd_overlays.proofs.laws.listings_are_exact.Goals as goal

pub returns : goal.returns
returns c = record { exact = exact; ascends = ascends; agree = listing-same }

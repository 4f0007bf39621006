use Rattle.std.proofs.Common.{rules}
use Rattle.rd_overlays.specs.Overlays.{number_of_rank}
use Rattle.rd_overlays.proofs.listing.numbers.Goals as goal

pub returns : goal.returns
returns c = c.mapped.ensures number_of_rank (λ x y told. search rules)

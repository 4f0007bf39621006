use Rattle.rd_overlays.specs.Overlays.{covers, covering}
use Rattle.rd_overlays.proofs.Exact.{exact, ascends}
use Rattle.rd_overlays.proofs.Greatest.{greatest-is-last, last-is-greatest, no-value}
use Rattle.rd_overlays.proofs.laws.last_values_are_the_greatest_overlays.Goals as goal

pub returns-clause-some : goal.returns-clause-some
returns-clause-some c = λ value slots pos given is.
    last-is-greatest value slots pos (covering pos slots) (exact (covers pos) slots) given (ascends (covers pos) slots) is

pub returns-clause-none : goal.returns-clause-none
returns-clause-none c = λ value slots pos number given overlay none gives.
    no-value value slots pos (covering pos slots) (exact (covers pos) slots) number given overlay none gives

pub returns-clause-greatest : goal.returns-clause-greatest
returns-clause-greatest c = λ value slots pos number given overlay most.
    greatest-is-last value slots pos (covering pos slots) (exact (covers pos) slots) number given overlay (ascends (covers pos) slots) most

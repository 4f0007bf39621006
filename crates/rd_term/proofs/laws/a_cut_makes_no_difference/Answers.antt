use Rattle.std.proofs.lemmas.List.Sums.{fold-append}
use Rattle.rd_term.specs.Terminals.{feed_byte}
use Rattle.rd_term.proofs.laws.a_cut_makes_no_difference.Goals as goal

pub returns : goal.returns
returns c = fold-append feed_byte

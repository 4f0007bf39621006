use Rattle.std.proofs.Common.{◌≡◌, [], drop}
use Rattle.rd_resolve.specs.Places.{types_at}
use Rattle.rd_brackets.specs.Pairs.{roles, bd16_pairs_from}
use Rattle.rd_brackets.specs.Sides.{codes_at}
use Rattle.rd_brackets.specs.Matchings.{all_pairs, AreOpenedBefore, ArePairsBefore}
use Rattle.rd_brackets.proofs.matching.bd16_pairs_of.Given as goal

abbrev pub invariant-loop-place : goal.invariant-loop-place
invariant-loop-place l = record {
  all : all_pairs l.matching l.place (roles l.brackets (types_at (drop l.place l.seq.indexes) l.line.types) (codes_at (drop l.place l.seq.indexes) l.codes))
      ≡ bd16_pairs_from 0 [] (roles l.brackets (types_at l.seq.indexes l.line.types) (codes_at l.seq.indexes l.codes));
  opened : AreOpenedBefore l.place l.matching.opened;
  pairs : ArePairsBefore l.place l.matching.pairs;
}

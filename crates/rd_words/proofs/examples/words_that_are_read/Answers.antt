use Rattle.std.proofs.Common.{refl}
use Rattle.std.specs.Str.{chars}
use Rattle.rd_words.proofs.examples.words_that_are_read.Goals as goal

pub returns : goal.returns
unfolding chars
returns c = record {
  least = refl;
  all = refl;
  odd = refl;
  most = refl;
}

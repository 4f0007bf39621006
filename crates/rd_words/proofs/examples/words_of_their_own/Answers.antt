use Rattle.std.proofs.Common.{refl}
use Rattle.std.specs.Str.{chars}
use Rattle.rd_words.proofs.examples.words_of_their_own.Goals as goal

pub returns : goal.returns
unfolding chars
returns c = record {
  name = refl;
  value = refl;
  empty_value = refl;
  no_name = refl;
  one_hyphen = refl;
  hyphens_alone = refl;
  flag = refl;
  hyphen = refl;
  no_flag = refl;
}

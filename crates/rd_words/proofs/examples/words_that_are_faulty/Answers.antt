use Rattle.std.proofs.Common.{refl}
use Rattle.std.specs.Str.{chars}
use Rattle.rd_words.proofs.examples.words_that_are_faulty.Goals as goal

pub returns : goal.returns
unfolding chars
returns c = record {
  none = refl;
  no_mirror = refl;
  twice = refl;
  flag_twice = refl;
  too_great = refl;
  no_number = refl;
  flag_value = refl;
  no_value = refl;
  flag_as_value = refl;
  help = refl;
  stray = refl;
  behind = refl;
}

use Rattle.std.proofs.Common.{refl}
use Rattle.std.specs.Char.{encode_utf8}
use Rattle.std.specs.Fmt.{digits}
use Rattle.rd_update.proofs.examples.characters_are_sent_whole.Goals as goal

pub returns : goal.returns
unfolding digits encode_utf8
returns c = record { mark = refl; letters = refl; back = refl; other = refl }

use Rattle.std.proofs.Common.{refl}
use Rattle.std.specs.Fmt.{digits}
use Rattle.std.specs.Char.{encode_utf8}
use Rattle.rd_run.proofs.examples.last_lines_are_told.Goals as goal

pub returns : goal.returns
unfolding digits encode_utf8
returns c = record {
  done = refl;
  usage = refl;
  bad_line = refl;
  too_large = refl;
  brackets = refl;
  too_long = refl;
  too_many = refl;
  no_json = refl;
  missing = refl;
  format = refl;
  read = refl;
  write = refl;
  memory = refl;
  no_memory = refl;
}

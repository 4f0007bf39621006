-- What computes on a line.
use Rattle.std.specs.Prelude.{⊤}
use Rattle.std.specs.Str.{chars, is_utf8}
use Rattle.serde_json.proofs.OnLiterals.{serde_json_on_literals}
use Rattle.rd_script.specs.Reading.{reading}

unfoldable pub on_lines : ⊤
unfolding serde_json_on_literals reading chars is_utf8
on_lines = tt

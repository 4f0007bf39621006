-- What computes where dumps are worked out.
use Rattle.std.specs.Char.{encode_utf8}
use Rattle.std.specs.Fmt.{digits}
use Rattle.std.specs.Prelude.{⊤}
use Rattle.std.specs.Str.{chars, is_utf8}
use Rattle.unicode_width.specs.Width.{char_width}

unfoldable pub on_dumps : ⊤
unfolding digits chars is_utf8 encode_utf8 char_width
on_dumps = tt

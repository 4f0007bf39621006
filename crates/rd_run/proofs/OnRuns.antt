-- What computes where runs are worked out.
use Rattle.std.specs.Char.{encode_utf8}
use Rattle.std.specs.Fmt.{digits}
use Rattle.std.specs.Prelude.{⊤}
use Rattle.std.specs.Str.{chars, is_utf8}
use Rattle.serde_json.proofs.OnLiterals.{serde_json_on_literals}
use Rattle.unicode_width.specs.Width.{char_width}
use Rattle.rd_script.specs.Reading.{reading}
use Rattle.rd_state.specs.Effects.{effect_of}
use Rattle.rd_state.specs.Steps.{step}
use Rattle.rd_tree.specs.Calls.{margins_tree, mode_tree, resize_tree, split_tree}
use Rattle.rd_layout.specs.Screens.{laid_out}
use Rattle.rd_run.specs.Runs.{dump_lines, effect}

-- one name for what is unfolded where runs of ops are computed
unfoldable pub on_ops : ⊤
unfolding char_width digits encode_utf8 effect_of step laid_out margins_tree mode_tree resize_tree split_tree dump_lines
on_ops = tt

-- one name for what is unfolded where runs of lines are computed
unfoldable pub on_lines : ⊤
unfolding on_ops serde_json_on_literals chars is_utf8 reading effect
on_lines = tt

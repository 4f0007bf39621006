use Rattle.std.proofs.Common.{refl}
use Rattle.std.specs.Char.{encode_utf8}
use Rattle.std.specs.Fmt.{digits}
use Rattle.unicode_width.specs.Width.{char_width}
use Rattle.rd_state.specs.Effects.{effect_of}
use Rattle.rd_state.specs.Steps.{step}
use Rattle.rd_tree.specs.Calls.{margins_tree, mode_tree, resize_tree, split_tree}
use Rattle.rd_layout.specs.Screens.{laid_out}
use Rattle.rd_layout.proofs.examples.point_moves_by_what_is_seen.Goals as goal

pub returns : goal.returns
unfolding char_width digits encode_utf8 effect_of step laid_out margins_tree mode_tree resize_tree split_tree
returns c = record { letter = refl; end = refl; right = refl; further = refl; left = refl; none = refl }

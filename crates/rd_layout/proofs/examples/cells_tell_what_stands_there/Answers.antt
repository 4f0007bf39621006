use Rattle.std.proofs.Common.{refl}
use Rattle.std.specs.Char.{encode_utf8}
use Rattle.std.specs.Fmt.{digits}
use Rattle.unicode_width.specs.Width.{char_width}
use Rattle.rd_state.specs.Effects.{effect_of}
use Rattle.rd_state.specs.Steps.{step}
use Rattle.rd_tree.specs.Calls.{margins_tree, mode_tree, resize_tree, split_tree}
use Rattle.rd_layout.specs.Screens.{laid_out}
use Rattle.rd_layout.proofs.examples.cells_tell_what_stands_there.Goals as goal

pub returns : goal.returns
unfolding char_width digits encode_utf8 effect_of step laid_out margins_tree mode_tree resize_tree split_tree
returns c = record { letter = refl; right = refl; blank = refl; new = refl; changed = refl; margin = refl; border = refl; mode = refl; echo = refl; below = refl; aside = refl }

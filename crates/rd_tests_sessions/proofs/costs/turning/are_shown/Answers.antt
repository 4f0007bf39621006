use Rattle.std.proofs.Common.{◌≡◌, None, Ok, codes, refl, take}
use Rattle.std.specs.Char.{encode_utf8}
use Rattle.std.specs.Fmt.{digits}
use Rattle.unicode_width.specs.Width.{char_width}
use Rattle.rd_layout.specs.Copies.{without_copies}
use Rattle.rd_layout.specs.Examples.{after, then_done, turning}
use Rattle.rd_layout.specs.Redisplays.{allowed}
use Rattle.rd_layout.specs.Screens.{laid_out}
use Rattle.rd_script.specs.declared.op.Op.{Op}
use Rattle.rd_script.specs.declared.op.Op.TheVariants.{Insert, Redisplay}
use Rattle.rd_state.specs.Examples.{told}
use Rattle.rd_state.specs.Effects.{effect_of}
use Rattle.rd_state.specs.States.{main_name}
use Rattle.rd_state.specs.Steps.{step}
use Rattle.rd_tree.specs.Calls.{margins_tree, mode_tree, resize_tree, split_tree}
use Rattle.rd_tests_sessions.proofs.Costing.{rise-behind}
use Rattle.rd_tests_sessions.proofs.costs.turning.are_shown.Goals as goal

-- the letter that is put before the lines
abbrev letter : Op
letter = Insert main_name 1 (codes "r")

cost : told allowed (then_done (then_done (after (take 2 turning)) (Redisplay None)) letter) ≡ Ok 36
unfolding char_width digits encode_utf8 effect_of step laid_out margins_tree mode_tree resize_tree split_tree
cost = refl

pub returns : goal.returns
returns g c =
    rise-behind (take 2 turning) letter (without_copies c.args.session.now) (without_copies c.make_lines.new.session) (without_copies c.is_shown.new.session) (without_copies c.insert.new.session)
    36 c.args.second.now c.is_shown-2.new.steps c.requires c.in_ok-make_lines.ensures (c.is_shown.ensures.shown c.if-not-is_shown.false) c.in_ok-insert.ensures cost c.is_shown-2.ensures.cost

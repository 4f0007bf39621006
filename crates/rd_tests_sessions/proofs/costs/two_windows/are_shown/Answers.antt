use Rattle.std.proofs.Common.{◌≡◌, ℕ, ◌+◌, ◌≤◌, None, [], ◌∷◌, Ok, refl, arith}
use Rattle.std.specs.Char.{encode_utf8}
use Rattle.std.specs.Fmt.{digits}
use Rattle.std.specs.Str.{chars}
use Rattle.unicode_width.specs.Width.{char_width}
use Rattle.rd_layout.specs.Copies.{without_copies}
use Rattle.rd_layout.specs.Examples.{after, then_done}
use Rattle.rd_layout.specs.Redisplays.{allowed}
use Rattle.rd_layout.specs.Screens.{laid_out}
use Rattle.rd_script.specs.declared.op.Op.{Op}
use Rattle.rd_script.specs.declared.op.Op.TheVariants.{Insert, Redisplay}
use Rattle.rd_state.specs.Examples.{told}
use Rattle.rd_state.specs.Effects.{effect_of}
use Rattle.rd_state.specs.States.{main_name}
use Rattle.rd_state.specs.Steps.{step}
use Rattle.rd_tree.specs.Calls.{margins_tree, mode_tree, resize_tree, split_tree}
use Rattle.rd_tests_sessions.specs.Examples.{two_windows}
use Rattle.rd_tests_sessions.proofs.Costing.{rise-behind}
use Rattle.rd_tests_sessions.proofs.costs.two_windows.are_shown.Goals as goal

-- the line that is put before what the windows show
abbrev line : Op
line = Insert main_name 1 (48 ∷ 10 ∷ [])

cost : told allowed (then_done (then_done (after two_windows) (Redisplay None)) line) ≡ Ok 0
unfolding char_width chars digits encode_utf8 effect_of step laid_out margins_tree mode_tree resize_tree split_tree
cost = refl

no-rise : (old new : ℕ) → new ≤ old + 0 → new ≤ old
no-rise old new h = omega (arith, h)

pub returns : goal.returns
returns g c = no-rise c.args.second.now c.is_shown-2.new.steps
    (rise-behind two_windows line (without_copies c.args.session.now) (without_copies c.make_windows.new.session) (without_copies c.is_shown.new.session) (without_copies c.insert.new.session)
    0 c.args.second.now c.is_shown-2.new.steps c.requires c.in_ok-make_windows.ensures (c.is_shown.ensures.shown c.if-not-is_shown.false) c.in_ok-insert.ensures cost c.is_shown-2.ensures.cost)

use Rattle.std.proofs.Common.{◌≡◌, ℕ, ◌+◌, ◌≤◌, None, [], Result, Ok, codes, refl, arith}
use Rattle.std.specs.Char.{encode_utf8}
use Rattle.std.specs.Fmt.{digits}
use Rattle.unicode_width.specs.Width.{char_width}
use Rattle.rd_layout.specs.Copies.{redisplayed, without_copies}
use Rattle.rd_layout.specs.Examples.{after, after_all, then_done}
use Rattle.rd_layout.specs.Redisplays.{allowed}
use Rattle.rd_layout.specs.Screens.{laid_out}
use Rattle.rd_layout.specs.Sessions.{SessionValue}
use Rattle.rd_script.specs.declared.op.Op.{Op}
use Rattle.rd_script.specs.declared.op.Op.TheVariants.{Insert, Redisplay}
use Rattle.rd_state.specs.Examples.{told}
use Rattle.rd_state.specs.Effects.{effect_of}
use Rattle.rd_state.specs.States.{main_name}
use Rattle.rd_state.specs.Steps.{step}
use Rattle.rd_state.specs.declared.refused.Refused.{Refused}
use Rattle.rd_tree.specs.Calls.{margins_tree, mode_tree, resize_tree, split_tree}
use Rattle.rd_tests_sessions.specs.Examples.{three_lines}
use Rattle.rd_tests_sessions.proofs.Costing.{rise-of, then-applied, then-made, then-shown}
use Rattle.rd_tests_sessions.proofs.costs.three_lines.are_shown.Goals as goal

-- the lines shown once, and twice; and with a letter more
abbrev once : Result SessionValue Refused
once = then_done (after three_lines) (Redisplay None)

abbrev twice : Result SessionValue Refused
twice = then_done once (Redisplay None)

abbrev letter : Op
letter = Insert main_name 5 (codes "x")

first-cost : told allowed (after three_lines) ≡ Ok 18
unfolding char_width digits encode_utf8 effect_of step laid_out margins_tree mode_tree resize_tree split_tree
first-cost = refl

second-cost : told allowed once ≡ Ok 0
unfolding char_width digits encode_utf8 effect_of step laid_out margins_tree mode_tree resize_tree split_tree
second-cost = refl

third-cost : told allowed (then_done twice letter) ≡ Ok 9
unfolding char_width digits encode_utf8 effect_of step laid_out margins_tree mode_tree resize_tree split_tree
third-cost = refl

-- what a redisplay of each may cost
first-rise : (v w : SessionValue) (old new : ℕ) → after [] ≡ Ok v → after_all (Ok v) three_lines ≡ Ok w → new ≤ old + allowed w → new ≤ old + 18
first-rise v w old new opens makes rises = rise-of (after three_lines) w 18 old new (then-made v w three_lines opens makes) first-cost rises

second-rise : (v w x : SessionValue) (old new : ℕ) → after [] ≡ Ok v → after_all (Ok v) three_lines ≡ Ok w → x ≡ redisplayed w None
    → new ≤ old + allowed x → new ≤ old
second-rise v w x old new opens makes shows rises =
    let h : new ≤ old + 0 = rise-of once x 0 old new (then-shown (after three_lines) w x (then-made v w three_lines opens makes) shows) second-cost rises in
    omega (arith, h)

third-rise : (v w x y z : SessionValue) (old new : ℕ) → after [] ≡ Ok v → after_all (Ok v) three_lines ≡ Ok w → x ≡ redisplayed w None → y ≡ redisplayed x None
    → then_done (Ok y) letter ≡ Ok z → new ≤ old + allowed z → new ≤ old + 9
third-rise v w x y z old new opens makes shows again leads rises =
    let shown : once ≡ Ok x = then-shown (after three_lines) w x (then-made v w three_lines opens makes) shows in
    rise-of (then_done twice letter) z 9 old new (then-applied twice y z letter (then-shown once x y shown again) leads) third-cost rises

pub returns-then-not-is_shown-clause-first : goal.returns-then-not-is_shown-clause-first
returns-then-not-is_shown-clause-first g c =
    first-rise (without_copies c.args.session.now) (without_copies c.make_lines.new.session) c.args.first.now c.is_shown.new.steps c.requires c.in_ok-make_lines.ensures c.is_shown.ensures.cost

pub returns-then-not-is_shown-2-clause-first : goal.returns-then-not-is_shown-2-clause-first
returns-then-not-is_shown-2-clause-first g c =
    first-rise (without_copies c.args.session.now) (without_copies c.make_lines.new.session) c.args.first.now c.is_shown.new.steps c.requires c.in_ok-make_lines.ensures c.is_shown.ensures.cost

pub returns-then-not-is_shown-2-clause-second : goal.returns-then-not-is_shown-2-clause-second
returns-then-not-is_shown-2-clause-second g c =
    second-rise (without_copies c.args.session.now) (without_copies c.make_lines.new.session) (without_copies c.is_shown.new.session) c.args.second.now c.is_shown-2.new.steps
    c.requires c.in_ok-make_lines.ensures (c.is_shown.ensures.shown c.if-not-is_shown.false) c.is_shown-2.ensures.cost

pub returns-in_err-insert-clause-first : goal.returns-in_err-insert-clause-first
returns-in_err-insert-clause-first g c =
    first-rise (without_copies c.args.session.now) (without_copies c.make_lines.new.session) c.args.first.now c.is_shown.new.steps c.requires c.in_ok-make_lines.ensures c.is_shown.ensures.cost

pub returns-in_err-insert-clause-second : goal.returns-in_err-insert-clause-second
returns-in_err-insert-clause-second g c =
    second-rise (without_copies c.args.session.now) (without_copies c.make_lines.new.session) (without_copies c.is_shown.new.session) c.args.second.now c.is_shown-2.new.steps
    c.requires c.in_ok-make_lines.ensures (c.is_shown.ensures.shown c.if-not-is_shown.false) c.is_shown-2.ensures.cost

pub returns-clause-first : goal.returns-clause-first
returns-clause-first g c =
    first-rise (without_copies c.args.session.now) (without_copies c.make_lines.new.session) c.args.first.now c.is_shown.new.steps c.requires c.in_ok-make_lines.ensures c.is_shown.ensures.cost

pub returns-clause-second : goal.returns-clause-second
returns-clause-second g c =
    second-rise (without_copies c.args.session.now) (without_copies c.make_lines.new.session) (without_copies c.is_shown.new.session) c.args.second.now c.is_shown-2.new.steps
    c.requires c.in_ok-make_lines.ensures (c.is_shown.ensures.shown c.if-not-is_shown.false) c.is_shown-2.ensures.cost

pub returns-clause-third : goal.returns-clause-third
returns-clause-third g c =
    third-rise (without_copies c.args.session.now) (without_copies c.make_lines.new.session) (without_copies c.is_shown.new.session) (without_copies c.is_shown-2.new.session)
    (without_copies c.insert.new.session) c.args.third.now c.is_shown-3.new.steps c.requires c.in_ok-make_lines.ensures (c.is_shown.ensures.shown c.if-not-is_shown.false)
    (c.is_shown-2.ensures.shown c.if-not-is_shown-2.false) c.in_ok-insert.ensures c.is_shown-3.ensures.cost

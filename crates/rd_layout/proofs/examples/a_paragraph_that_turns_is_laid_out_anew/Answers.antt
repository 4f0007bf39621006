use Rattle.std.proofs.Common.{◌≡◌, ℕ, ◌+◌, Result, Ok, Err, List, [], ◌∷◌, ap, refl, ◌∙◌}
use Rattle.std.specs.Char.{encode_utf8}
use Rattle.std.specs.Fmt.{digits}
use Rattle.unicode_width.specs.Width.{char_width}
use Rattle.rd_state.specs.Examples.{told}
use Rattle.rd_state.specs.Effects.{effect_of}
use Rattle.rd_state.specs.Steps.{step}
use Rattle.rd_state.specs.Windows.{window_of}
use Rattle.rd_state.specs.declared.refused.Refused.{Refused}
use Rattle.rd_tree.specs.Calls.{margins_tree, mode_tree, resize_tree, split_tree}
use Rattle.rd_tree.specs.declared.placed.Placed.{Placed}
use Rattle.rd_layout.specs.Examples.{after, turned, turning, unscreened}
use Rattle.rd_layout.specs.Redisplays.{allowance_by, allowances, allowed}
use Rattle.rd_layout.specs.Screens.{laid_out}
use Rattle.rd_layout.specs.Sessions.{SessionValue, layout_of}
use Rattle.rd_layout.specs.Windows.{places}
use Rattle.rd_layout.proofs.examples.a_paragraph_that_turns_is_laid_out_anew.Goals as goal

-- what windows may cost does not depend on the screen
without-screen : (v : SessionValue) (ps : List Placed) → allowances v ps ≡ allowances (unscreened v) ps
without-screen v [] = refl
without-screen v (p ∷ ps) =
    ap
    (λ (n : ℕ). allowance_by v.files v.state (layout_of p.number v.layouts) p (window_of p.number v.state.windows) + n)
    (without-screen v ps)

abbrev cost_in : Result SessionValue Refused → Result ℕ Refused
cost_in (Err refusal) = Err refusal
cost_in (Ok v) = Ok (allowances v (places v.state))

told-unscreened : (r : Result SessionValue Refused) → told allowed r ≡ cost_in (told unscreened r)
told-unscreened (Err refusal) = refl
told-unscreened (Ok v) = ap (λ (n : ℕ). Ok n) (without-screen v (places v.state))

is-turned : told unscreened (after turning) ≡ Ok turned
unfolding char_width digits encode_utf8 effect_of step laid_out margins_tree mode_tree resize_tree split_tree
is-turned = refl

costs : cost_in (Ok turned) ≡ Ok 36
unfolding char_width
costs = refl

pub returns-clause-session : goal.returns-clause-session
returns-clause-session c = is-turned

pub returns-clause-cost : goal.returns-clause-cost
returns-clause-cost c = told-unscreened (after turning) ∙ ap cost_in is-turned ∙ costs

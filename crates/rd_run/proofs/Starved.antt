-- Which lines it matters for that they found no memory: redisplays alone.
use Rattle.std.proofs.Common.{◌≡◌, ℕ, Bool, true, false, if◌then◌else◌, List, Option, None, Some, is_some, refl, ap, ◌∙◌}
use Rattle.rd_script.specs.declared.op.Op.{Op}
use Rattle.rd_run.proofs.Effects.{effects-pair}
use Rattle.rd_run.specs.Runs.{Input, Standing, World, after, effect, effect_by, outcome_at, run_line, input_of}

-- a redisplay has an outcome, with memory or without
has-outcome : (starved : Bool) (now : Standing) (op : Op) (stop : Option ℕ) → is_some (effect_by (Some stop) starved now op).outcome ≡ true
has-outcome true now op stop = refl
has-outcome false now op stop = refl

effect-alike : (now : Standing) (line : List ℕ) (s r : Bool) → (is_some (effect now (input_of line s)).outcome ≡ true → s ≡ r) → effect now (input_of line s) ≡ effect now (input_of line r)
effect-alike now line s r = effects-pair now line s r (λ e f. (is_some e.outcome ≡ true → s ≡ r) → e ≡ f) (λ e h. refl)
    (λ op stop h. ap (λ b. effect_by (Some stop) b now op) (h (has-outcome s now op stop)))

run_line-if : (over : Bool) (w : World) (line : List ℕ) (s r : Bool) → (is_some (if over then None else (effect w.now (input_of line s)).outcome) ≡ true → s ≡ r)
    → (if over then w else after w (effect w.now (input_of line s))) ≡ (if over then w else after w (effect w.now (input_of line r)))
run_line-if true w line s r h = refl
run_line-if false w line s r h = ap (after w) (effect-alike w.now line s r h)

-- one line is run alike where its redisplay, if it is one, finds memory alike
pub run_line-alike : (w : World) (t u : Input) → t.line ≡ u.line → (is_some (outcome_at w t) ≡ true → t.starved ≡ u.starved) → run_line w t ≡ run_line w u
run_line-alike w t u e h = run_line-if (is_some w.fault) w t.line t.starved u.starved h ∙ ap (λ line. run_line w (input_of line u.starved)) e

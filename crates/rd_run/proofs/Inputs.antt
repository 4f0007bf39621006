-- Runs over lists of lines.
use Rattle.std.proofs.Common.{◌≡◌, true, List, [], ◌∷◌, ◌++◌, length, Option, None, Some, is_some, refl, sym, ap, ◌∙◌, arith}
use Rattle.std.proofs.lemmas.List.{map-append}
use Rattle.std.proofs.lemmas.List.Sums.{fold-append}
use Rattle.std.proofs.lemmas.Bool.{cond-false, cond-true}
use Rattle.rd_run.specs.Ends.{lines_in}
use Rattle.rd_run.specs.Runs.{Input, World, run, run_line, after, effect}
use Rattle.rd_run.specs.declared.status.ScriptFault.{ScriptFault}

pub lines-length : (ts : List Input) → length (lines_in ts) ≡ length ts
lines-length [] = refl
lines-length (t ∷ ts) = omega (arith, lines-length ts)

pub lines-push : (ts : List Input) (t : Input) → lines_in (ts ++ t ∷ []) ≡ lines_in ts ++ t.line ∷ []
lines-push ts t = map-append (λ (u : Input). u.line) ts (t ∷ [])

pub run-push : (w : World) (ts : List Input) (t : Input) → run w (ts ++ t ∷ []) ≡ run_line (run w ts) t
run-push w ts t = fold-append run_line w ts (t ∷ [])

-- a run that has no fault goes on
pub run_line-goes : (w : World) (t : Input) → w.fault ≡ None → run_line w t ≡ after w (effect w.now t)
run_line-goes w t e = cond-false (is_some w.fault) w (after w (effect w.now t)) (ap is_some e)

-- a run that has ended stays as it is
run-stays : (w : World) (us : List Input) → is_some w.fault ≡ true → run w us ≡ w
run-stays w [] e = refl
run-stays w (u ∷ us) e =
    let same : run_line w u ≡ w = cond-true (is_some w.fault) w (after w (effect w.now u)) e in
    ap (λ v. run v us) same ∙ run-stays w us e

clear-if : (o : Option ScriptFault) (w : World) (ts : List Input) → w.fault ≡ o → (run w ts).fault ≡ None → w.fault ≡ None
clear-if None w ts e c = e
clear-if (Some fault) w ts e c =
    let same : w.fault ≡ None = ap (λ (v : World). v.fault) (sym (run-stays w ts (ap is_some e))) ∙ c in
    absurd (let q : Some fault ≡ None = sym e ∙ same in cc)

-- a run that has no fault had none before
pub run-clear : (w : World) (ts : List Input) → (run w ts).fault ≡ None → w.fault ≡ None
run-clear w ts c = clear-if w.fault w ts refl c

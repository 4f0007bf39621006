use Rattle.std.proofs.Common.{◌≡◌, ◌||◌, false, unwrap_or, ap, ap₂, sym, ◌∙◌}
use Rattle.rd_resolve.specs.Places.{types_at}
use Rattle.rd_resolve.specs.Weak.{strong_after, w2_european_numbers_after_arabic, w3_arabic_letters, w4_separators, w4_first_type, w5_is_en, w5_terminators, w6_remaining_separators, w7_latin_numbers, w1, w2, w3}
use Rattle.rd_resolve.specs.Walks.{w5_run_ends, w5_run_of}
use Rattle.rd_resolve.proofs.WeakSteps.{w1_type, strong_type, w3_type, w4_type, w5_type, weak-step, w5-run-known, w5-run-is, w1_type-et, w3_type-et, strong_type-et, assembled}
use Rattle.rd_resolve.proofs.weak_walk.BeforeWalkRules.step.Goals as goal
use Rattle.rd_resolve.proofs.weak_walk.BeforeWalkRules.step.Goals.{After-w4_separators-after_w4, After-w5_run_of-run}

-- the types that the first four rules give
known : (c : goal.After-w4_separators-after_w4) → let b = c.args.self.now in let cs = types_at c.args.rest.now c.args.types.now in
    (c.w1_nonspacing_marks-after_w1.result ≡ w1_type b c.args.class cs) × (c.strong_after-strong.result ≡ strong_type b c.args.class cs)
    × (c.w3_arabic_letters-after_w3.result ≡ w3_type b c.args.class cs) × (c.w4_separators-after_w4.result ≡ w4_type b c.args.class cs)
known c =
    let b = c.args.self.now in
    let cs = types_at c.args.rest.now c.args.types.now in
    let after_w1 : c.w1_nonspacing_marks-after_w1.result ≡ w1_type b c.args.class cs = c.w1_nonspacing_marks-after_w1.ensures in
    let strong : c.strong_after-strong.result ≡ strong_type b c.args.class cs = c.strong_after-strong.ensures ∙ ap (strong_after b.w2_strong) after_w1 in
    let after_w3 : c.w3_arabic_letters-after_w3.result ≡ w3_type b c.args.class cs = c.w3_arabic_letters-after_w3.ensures ∙ ap w3_arabic_letters (c.w2_european_numbers_after_arabic-after_w2.ensures ∙ ap (w2_european_numbers_after_arabic b.w2_strong) after_w1) in
    let next : c.w4_next_type-next.result ≡ w4_first_type (w3 (w2 (strong_type b c.args.class cs) (w1 (w1_type b c.args.class cs) cs))) =
    c.w4_next_type-next.ensures ∙ ap₂ (λ m s. w4_first_type (w3 (w2 s (w1 m cs)))) after_w1 strong in
    let after_w4 : c.w4_separators-after_w4.result ≡ w4_type b c.args.class cs = c.w4_separators-after_w4.ensures ∙ ap₂ (λ o n. w4_separators b.w4_before o n) after_w3 next in
    (after_w1, strong, after_w3, after_w4)

-- for W5, what is known of the run of terminators to which the type belongs, or None
run : (c : goal.After-w5_run_of-run) → let b = c.args.self.now in let cs = types_at c.args.rest.now c.args.types.now in
    c.w4_separators-after_w4.result ≡ w4_type b c.args.class cs → c.w5_run_of-run.result ≡ w5_run_of (w4_type b c.args.class cs) (w5_run_ends b.w2_strong cs)
run c after_w4 =
    let ends = w5_run_ends c.args.self.now.w2_strong (types_at c.args.rest.now c.args.types.now) in
    c.w5_run_of-run.ensures ∙ ap (λ n. w5_run_of n ends) after_w4

pub w5_run_of-run-requires-clause-run : goal.w5_run_of-run-requires-clause-run
w5_run_of-run-requires-clause-run c =
    let b = c.args.self.now in
    let cs = types_at c.args.rest.now c.args.types.now in
    let (after_w1, strong, after_w3, after_w4) = known (goal.at.w5_run_of-run-requires-clause-run c).After-w4_separators-after_w4 in
    λ e. w5-run-known b.w5_run b c.args.class cs c.requires.known (sym after_w4 ∙ e)

pub returns : goal.returns
returns c =
    let b = c.args.self.now in
    let cs = types_at c.args.rest.now c.args.types.now in
    let at = goal.at.returns c in
    let (after_w1, strong, after_w3, after_w4) = known at.After-w4_separators-after_w4 in
    let known_run = run at.After-w5_run_of-run after_w4 in
    let after_w5 : c.w5_terminators-after_w5.result ≡ w5_type b c.args.class cs =
    c.w5_terminators-after_w5.ensures ∙ ap₂ (λ r n. w5_terminators r n) (c.w5_beside.ensures ∙ ap (λ r. b.w5_number || unwrap_or r false) known_run) after_w4 in
    let after_w6 : c.w6_remaining_separators-after_w6.result ≡ w6_remaining_separators (w5_type b c.args.class cs) = c.w6_remaining_separators-after_w6.ensures ∙ ap w6_remaining_separators after_w5 in
    record {
      left = λ classes levels. assembled _ _ _ _ _ _ _ _ _ _ _ _ cs _ (weak-step b c.args.class cs c.w5_run_of-run.result)
          (c.w7_latin_numbers-given.ensures ∙ ap (w7_latin_numbers b.w7_strong) after_w6) (c.strong_after-self.ensures ∙ ap (strong_after b.w7_strong) after_w6)
          (c.w5_is_en-self.ensures ∙ ap w5_is_en after_w5) after_w3 strong after_w1;
      known = w5-run-is c.w5_run_of-run.result (w4_type b c.args.class cs) (w5_run_ends b.w2_strong cs) _ cs known_run
          (λ e. (after_w1 ∙ w1_type-et b c.args.class cs e, after_w3 ∙ w3_type-et b c.args.class cs e, ap (λ s. w5_run_ends s cs) (sym (strong ∙ strong_type-et b c.args.class cs e))));
    }

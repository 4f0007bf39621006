-- One step of the weak rules W1 to W7, with the run of ET of W5 that was looked through.
use Rattle.std.proofs.Common.{◌≡◌, Bool, true, false, ◌||◌, List, ◌∷◌, Option, None, Some, IfSome, unwrap_or, refl, ap, ap₂, sym, ◌∙◌}
use Rattle.rd_base.specs.declared.class.Class.{Class}
use Rattle.rd_base.specs.declared.class.Class.TheVariants.{AL, EN, AN, ES, ET, CS}
use Rattle.rd_resolve.specs.declared.weak_walk.Before.{Before}
use Rattle.rd_resolve.specs.Weak.{w1_nonspacing_marks, strong_after, w2_european_numbers_after_arabic, w3_arabic_letters, w4_separators, w4_first_type, w5_is_en, w5_comes_en, w5_terminators, w6_remaining_separators, w7_latin_numbers, w1, w2, w3, w4, w5, w6, w7}
use Rattle.rd_resolve.specs.Walks.{weak_left, w5_run_ends, w5_run_of, RunIs}

w4_separators-et : (before c next : Class) → w4_separators before c next ≡ ET → c ≡ ET
w4_separators-et EN ES EN h = cc
w4_separators-et EN CS EN h = cc
w4_separators-et AN CS AN h = cc
w4_separators-et before c next h = h

w3_arabic_letters-et : (c : Class) → w3_arabic_letters c ≡ ET → c ≡ ET
w3_arabic_letters-et AL h = cc
w3_arabic_letters-et c h = h

w2_european_numbers_after_arabic-et : (strong c : Class) → w2_european_numbers_after_arabic strong c ≡ ET → c ≡ ET
w2_european_numbers_after_arabic-et AL EN h = cc
w2_european_numbers_after_arabic-et strong c h = h

w5_terminators-same : (en ends comes : Bool) (c : Class) → (c ≡ ET → comes ≡ ends)
    → w5_terminators (en || unwrap_or (w5_run_of c ends) false) c ≡ w5_terminators (en || comes) c
w5_terminators-same en ends comes ET same = ap (λ b. w5_terminators (en || b) ET) (sym (same refl))
w5_terminators-same true ends comes c same = refl
w5_terminators-same false ends true c same = refl
w5_terminators-same false ends false c same = refl

-- the type of a character after W1, W3, W4 and W5, with what is left behind it, and the last strong type up to it
module _ (b : Before) (c : Class) (cs : List Class) where
  abbrev pub w1_type : Class
  w1_type = w1_nonspacing_marks b.w1_before c

  abbrev pub strong_type : Class
  strong_type = strong_after b.w2_strong w1_type

  abbrev pub w3_type : Class
  w3_type = w3_arabic_letters (w2_european_numbers_after_arabic b.w2_strong w1_type)

  abbrev pub w4_type : Class
  w4_type = w4_separators b.w4_before w3_type (w4_first_type (w3 (w2 strong_type (w1 w1_type cs))))

  -- in a run of ET the rules' states are those of the run
  pub w3_type-et : w4_type ≡ ET → w3_type ≡ ET
  w3_type-et e = w4_separators-et b.w4_before w3_type _ e

  pub w1_type-et : w4_type ≡ ET → w1_type ≡ ET
  w1_type-et e = w2_european_numbers_after_arabic-et b.w2_strong w1_type (w3_arabic_letters-et _ (w3_type-et e))

  pub strong_type-et : w4_type ≡ ET → strong_type ≡ b.w2_strong
  strong_type-et e = ap (strong_after b.w2_strong) (w1_type-et e)

  w5-comes-here : w4_type ≡ ET → w5_comes_en (w4 w3_type (w3 (w2 strong_type (w1 w1_type cs)))) ≡ w5_run_ends b.w2_strong cs
  w5-comes-here e =
      ap (λ o. w5_comes_en (w4 o (w3 (w2 strong_type (w1 w1_type cs))))) (w3_type-et e)
      ∙ ap (λ m. w5_comes_en (w4 ET (w3 (w2 strong_type (w1 m cs))))) (w1_type-et e)
      ∙ ap (λ s. w5_comes_en (w4 ET (w3 (w2 s (w1 ET cs))))) (strong_type-et e)

  abbrev pub w5_type : Class
  w5_type = w5_terminators (b.w5_number || unwrap_or (w5_run_of w4_type (w5_run_ends b.w2_strong cs)) false) w4_type

  pub weak-step : (run : Option Bool)
      → (let next : Before = record { w1_before = w1_type; w2_strong = strong_type; w4_before = w3_type; w5_number = w5_is_en w5_type; w5_run = run; w7_strong = strong_after b.w7_strong (w6_remaining_separators w5_type) } in
      weak_left b (c ∷ cs) ≡ w7_latin_numbers b.w7_strong (w6_remaining_separators w5_type) ∷ weak_left next cs)
  weak-step run =
      ap (λ e. w7_latin_numbers b.w7_strong (w6_remaining_separators e) ∷ w7 (strong_after b.w7_strong (w6_remaining_separators e)) (w6 (w5 (w5_is_en e) (w4 w3_type (w3 (w2 strong_type (w1 w1_type cs)))))))
      (sym (w5_terminators-same b.w5_number (w5_run_ends b.w2_strong cs) (w5_comes_en (w4 w3_type (w3 (w2 strong_type (w1 w1_type cs))))) w4_type w5-comes-here))

-- W5: what is known of a run is so behind each of its characters
w5-run-on : (b : Before) (c : Class) (cs : List Class) → (let inside : Before = record b { w1_before = ET; w4_before = ET } in w4_type inside c cs ≡ ET) → w5_run_ends b.w2_strong (c ∷ cs) ≡ w5_run_ends b.w2_strong cs
w5-run-on b c cs e =
    let inside : Before = record b { w1_before = ET; w4_before = ET } in
    ap (λ n. w5_comes_en (n ∷ w4 (w3_type inside c cs) (w3 (w2 (strong_type inside c cs) (w1 (w1_type inside c cs) cs))))) e ∙ w5-comes-here inside c cs e

pub w5-run-known : (run : Option Bool) (b : Before) (c : Class) (cs : List Class) → RunIs run b (c ∷ cs) → w4_type b c cs ≡ ET
    → IfSome run (λ ends. ends ≡ w5_run_ends b.w2_strong cs)
w5-run-known None b c cs known e = tt
w5-run-known (Some ends) b c cs known e =
    let F : Class → Class → Class = λ m s. (let q : Before = record b { w1_before = m; w4_before = s } in w4_type q c cs) in
    known.2 ∙ w5-run-on b c cs (sym (ap₂ F known.0 known.1) ∙ e)

w5-run-of-is : (number : Class) (ends : Bool) (b : Before) (cs : List Class)
    → (number ≡ ET → (b.w1_before ≡ ET) × (b.w4_before ≡ ET) × (ends ≡ w5_run_ends b.w2_strong cs)) → RunIs (w5_run_of number ends) b cs
w5-run-of-is ET ends b cs h = h refl
w5-run-of-is c ends b cs h = tt

pub w5-run-is : (run : Option Bool) (number : Class) (ends : Bool) (b : Before) (cs : List Class) → run ≡ w5_run_of number ends
    → (number ≡ ET → (b.w1_before ≡ ET) × (b.w4_before ≡ ET) × (ends ≡ w5_run_ends b.w2_strong cs)) → RunIs run b cs
w5-run-is run number ends b cs e h = rw e (w5-run-of-is number ends b cs h)

-- the types by W1 to W7 from a character on, with values that equal those of the rules
pub assembled : (d e : Class) (n m : Bool) (o p s t k l v w : Class) (cs all : List Class)
    → all ≡ v ∷ w7 d (w6 (w5 n (w4 o (w3 (w2 s (w1 k cs)))))) → w ≡ v → e ≡ d → m ≡ n → p ≡ o → t ≡ s → l ≡ k
    → all ≡ w ∷ w7 e (w6 (w5 m (w4 p (w3 (w2 t (w1 l cs))))))
assembled d e n m o p s t k l v w cs all h a b c f g i = rw (a, b, c, f, g, i) h

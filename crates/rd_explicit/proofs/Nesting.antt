-- The PDIs that wait for their initiators, against the matching by nesting (BD9).
use Rattle.std.proofs.Common.{◌≡◌, ℕ, zero, suc, ◌+◌, ◌<◌, ◌≤◌, nat_lt, if◌then◌else◌, List, [], ◌∷◌, ◌++◌, length, drop, reverse, Option, None, Some, MatchOption, refl, ap, sym, ◌∙◌, add-zero, inl, inr, arith}
use Rattle.std.specs.Prelude.{slice_get}
use Rattle.std.proofs.lemmas.List.{same_from_push, length-append, reverse-append}
use Rattle.std.proofs.lemmas.Bool.{cases_Bool, ltb-true, ltb-false, lt-ltb, le-ltb}
use Rattle.rd_base.proofs.Lists.{get-drop}
use Rattle.rd_base.specs.declared.class.Class.{Class}
use Rattle.rd_base.specs.declared.class.Class.TheVariants.{LRI, RLI, FSI, PDI}
use Rattle.rd_explicit.specs.Isolates.{inside}
use Rattle.rd_explicit.specs.Links.{unmatched}

shifted : (a b i : ℕ) → (if nat_lt a b then Some ((i + 1) + a) else None) ≡ (if nat_lt (suc a) (suc b) then Some (i + suc a) else None)
shifted a b i = elim (cases_Bool (nat_lt a b)) [
  | inl t ↦ let less : suc a < suc b = omega (arith, ltb-true a b t) in
      let sums : (i + 1) + a ≡ i + suc a = omega arith in
      rw (t, lt-ltb (suc a) (suc b) less, sums)
  | inr n ↦ let more : suc b ≤ suc a = omega (arith, ltb-false a b n) in rw (n, le-ltb (suc a) (suc b) more)
]

pub get-unmatched : (cs : List Class) (i depth : ℕ) → slice_get (unmatched i cs) depth ≡ (if nat_lt (length (inside cs depth)) (length cs) then Some (i + length (inside cs depth)) else None)
get-unmatched [] i depth = refl
get-unmatched (PDI ∷ cs) i zero = let some : 0 < suc (length cs) = omega arith in rw (lt-ltb 0 (suc (length cs)) some, add-zero) refl
get-unmatched (PDI ∷ cs) i (suc depth) = get-unmatched cs (i + 1) depth ∙ shifted _ _ i
get-unmatched (LRI ∷ cs) i depth =
    get-drop 1 (unmatched (i + 1) cs) (suc depth) depth (omega arith) ∙ get-unmatched cs (i + 1) (suc depth) ∙ shifted _ _ i
get-unmatched (RLI ∷ cs) i depth =
    get-drop 1 (unmatched (i + 1) cs) (suc depth) depth (omega arith) ∙ get-unmatched cs (i + 1) (suc depth) ∙ shifted _ _ i
get-unmatched (FSI ∷ cs) i depth =
    get-drop 1 (unmatched (i + 1) cs) (suc depth) depth (omega arith) ∙ get-unmatched cs (i + 1) (suc depth) ∙ shifted _ _ i
get-unmatched (c ∷ cs) i depth = get-unmatched cs (i + 1) depth ∙ shifted (length (inside cs depth)) (length cs) i

-- what a pop of the waiting PDIs gives and leaves
pub popped : (ps old new : List ℕ) (r : Option ℕ) → old ≡ reverse ps
    → MatchOption r ((old ≡ []) × (new ≡ [])) (λ last. old ≡ new ++ last ∷ [])
    → (r ≡ slice_get ps 0) × (new ≡ reverse (drop 1 ps))
popped [] old new None same h = (refl, h.1)
popped [] old new (Some last) same h = absurd (omega (arith, ap length (sym same ∙ h), length-append new (last ∷ [])))
popped (p ∷ ps) old new None same h = absurd (omega (arith, ap length (sym h.0 ∙ same ∙ reverse-append (p ∷ []) ps), length-append (reverse ps) (p ∷ [])))
popped (p ∷ ps) old new (Some last) same h =
    let both = same_from_push new (reverse ps) last p (sym h ∙ same ∙ reverse-append (p ∷ []) ps) in
    (ap Some both.1, both.0)

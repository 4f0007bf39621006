-- Where each pair closes, by the place where it opens (N0).
use Rattle.std.proofs.Common.{◌≡◌, ℕ, zero, suc, ◌+◌, ◌<◌, false, List, [], ◌∷◌, set, Option, None, Some, refl, sym, ap, ap₂, ◌∙◌, arith}
use Rattle.std.specs.Prelude.{if◌then◌else◌, map, replicate, unwrap_or}
use Rattle.std.specs.List.{range_with_len}
use Rattle.std.proofs.lemmas.Bool.{eq-eqb, ne_eqb}
use Rattle.rd_base.specs.declared.class.Class.{Class}
use Rattle.rd_base.specs.declared.class.Class.TheVariants.{NSM, ON}
use Rattle.rd_brackets.specs.Pairs.{closing_of}
use Rattle.rd_brackets.specs.Sides.{n0_with_pairs, became, followed, side_taken, n0_with_marks}
use Rattle.rd_brackets.specs.declared.matching.Pair.{Pair}

-- without pairs no pair closes that opens at a place
pub none-close : (a n : ℕ) → map (closing_of []) (range_with_len a n) ≡ replicate n None
none-close a zero = refl
none-close a (suc n) = ap (λ l. None ∷ l) (none-close (a + 1) n)

-- a pair more does not change the places behind its opening bracket
apart : (p : Pair) (ps : List Pair) (a n : ℕ) → p.opening < a → map (closing_of ps) (range_with_len a n) ≡ map (closing_of (p ∷ ps)) (range_with_len a n)
apart p ps a zero less = refl
apart p ps a (suc n) less =
    ap₂ (λ (t : Option ℕ) (l : List (Option ℕ)). t ∷ l)
    (sym (ap (λ t. if t then Some p.closing else closing_of ps a) (ne_eqb p.opening a (λ e. absurd (omega arith)))))
    (apart p ps (a + 1) n (omega arith))

-- a pair more, written at the place where it opens
pub close-more : (p : Pair) (ps : List Pair) (a n j : ℕ) → a + j ≡ p.opening → j < n → set (map (closing_of ps) (range_with_len a n)) j (Some p.closing) ≡ map (closing_of (p ∷ ps)) (range_with_len a n)
close-more p ps a zero j at inside = absurd (omega arith)
close-more p ps a (suc n) zero at inside =
    ap₂ (λ (t : Option ℕ) (l : List (Option ℕ)). t ∷ l)
    (sym (ap (λ t. if t then Some p.closing else closing_of ps a) (eq-eqb p.opening a (omega arith))))
    (apart p ps (a + 1) n (omega arith))
close-more p ps a (suc n) (suc j) at inside =
    ap₂ (λ (t : Option ℕ) (l : List (Option ℕ)). t ∷ l)
    (sym (ap (λ t. if t then Some p.closing else closing_of ps a) (ne_eqb p.opening a (λ e. absurd (omega arith)))))
    (close-more p ps (a + 1) n j (omega arith) (omega arith))

-- without pairs the types stay
pub none-taken : (embedding sos : Class) (a k n : ℕ) (ts : List Class) → n0_with_pairs embedding sos a (map (closing_of []) (range_with_len k n)) ts ≡ ts
none-taken embedding sos a k zero ts = refl
none-taken embedding sos a k (suc n) ts = none-taken embedding sos (suc a) (k + 1) n ts

became-same : (t : Class) → became t t ≡ false
became-same ON = refl
became-same t = refl

follows-none : (c t : Class) → followed None c t ≡ None
follows-none NSM ON = refl
follows-none c t = refl

taken-none : (c t : Class) → side_taken None c t t ≡ None
taken-none c t = ap (λ b. if b then Some t else followed None c t) (became-same t) ∙ follows-none c t

-- without pairs the marks keep their types
pub none-marked : (cs ts : List Class) → n0_with_marks None cs ts ts ≡ ts
none-marked [] ts = refl
none-marked (c ∷ cs) [] = refl
none-marked (c ∷ cs) (t ∷ ts) =
    ap (λ side. unwrap_or side t ∷ n0_with_marks side cs ts ts) (taken-none c t) ∙ ap (λ l. t ∷ l) (none-marked cs ts)

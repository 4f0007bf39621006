-- One character of a line after another.
use Rattle.std.proofs.Common.{◌≡◌, ℕ, suc, ◌+◌, ◌-◌, ◌<◌, ◌≤◌, List, ◌∷◌, length, get_or, take, drop, map, Option, sym, ap, ap₂, ◌∙◌, arith}
use Rattle.std.specs.Prelude.{slice_range}
use Rattle.std.specs.Option.{option_or}
use Rattle.std.proofs.lemmas.List.{drop_more}
use Rattle.rd_base.specs.Classes.{p2_p3_strong_level, p2_depth_after, p2_p3_first_strong}
use Rattle.rd_base.specs.declared.class.Class.{Class}
use Rattle.rd_ucd.specs.declared.spans.Span.{Span}
use Rattle.rd_ucd.specs.Lookup.{class_of}

-- the first character of a range
pub range_first : (xs : List ℕ) (p to : ℕ) → 1 ≤ p → p < to → to ≤ length xs + 1
    → slice_range xs (p - 1) (to - 1) ≡ get_or xs (p - 1) 0 ∷ slice_range xs (p + 1 - 1) (to - 1)
range_first xs p to first order last =
    let here : drop (p - 1) xs ≡ get_or xs (p - 1) 0 ∷ drop (p - 1 + 1) xs = drop_more xs (p - 1) 0 (omega arith) in
    let size : to - 1 - (p - 1) ≡ suc (to - 1 - (p + 1 - 1)) = omega arith in
    let next : p - 1 + 1 ≡ p + 1 - 1 = omega arith in
    ap (λ (n : ℕ). take n (drop (p - 1) xs)) size
    ∙ ap (take (suc (to - 1 - (p + 1 - 1)))) here
    ∙ ap (λ (n : ℕ). get_or xs (p - 1) 0 ∷ take (to - 1 - (p + 1 - 1)) (drop n xs)) next

-- what a line decides from a character on, by that character and the rest
pub level-step : (classes : List Span) (xs : List ℕ) (p to x depth deeper : ℕ) (class : Class) (own whole : Option ℕ)
    → 1 ≤ p → p < to → to ≤ length xs + 1 → x ≡ get_or xs (p - 1) 0 → class ≡ class_of classes x
    → own ≡ p2_p3_strong_level depth class → deeper ≡ p2_depth_after depth class
    → p2_p3_first_strong depth (map (class_of classes) (slice_range xs (p - 1) (to - 1))) ≡ whole
    → option_or own (p2_p3_first_strong deeper (map (class_of classes) (slice_range xs (p + 1 - 1) (to - 1)))) ≡ whole
level-step classes xs p to x depth deeper class own whole first order last at is decides next same =
    let rest = map (class_of classes) (slice_range xs (p + 1 - 1) (to - 1)) in
    ap₂ (λ (o : Option ℕ) (n : ℕ). option_or o (p2_p3_first_strong n rest)) decides next
    ∙ ap (λ (c : Class). p2_p3_first_strong depth (c ∷ rest)) (is ∙ ap (class_of classes) at)
    ∙ ap (λ (ys : List ℕ). p2_p3_first_strong depth (map (class_of classes) ys)) (sym (range_first xs p to first order last)) ∙ same

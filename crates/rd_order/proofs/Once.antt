-- The visual order of a line goes through each of its places once.
use Rattle.std.proofs.Common.{◌≡◌, ℕ, zero, suc, ◌+◌, ◌-◌, ◌<◌, ◌≤◌, nat_le, nat_eq, true, cond, List, [], ◌∷◌, ◌++◌, length, refl, sym, ap, ◌∙◌, arith}
use Rattle.std.specs.Prelude.{slice_index}
use Rattle.std.specs.List.{range_with_len}
use Rattle.std.proofs.lemmas.Bool.{cond_both}
use Rattle.std.proofs.lemmas.Bool.Decides.{nat_tests}
use Rattle.rd_base.proofs.Choices.{one-at-most}
use Rattle.rd_base.proofs.Lists.{between-apart, between-empty, total-append}
use Rattle.rd_base.specs.Lists.{is_between, total}
use Rattle.rd_order.specs.Order.{l2_reversed, l2_reversed_down, highest, l2_visual_order}

pub total-l2_reversed : (f : ℕ → ℕ) (levels : List ℕ) (k : ℕ) (run is : List ℕ) → total f (l2_reversed levels k run is) ≡ total f run + total f is
total-l2_reversed f levels k run [] = omega arith
total-l2_reversed f levels k run (i ∷ is) =
    let more = total-l2_reversed f levels k (i ∷ run) is in
    let fresh = total-l2_reversed f levels k [] is in
    let cut = total-append f run (i ∷ l2_reversed levels k [] is) in
    cond_both (nat_le k (slice_index levels i)) (l2_reversed levels k (i ∷ run) is) (run ++ (i ∷ l2_reversed levels k [] is)) (λ xs. total f xs ≡ total f run + total f (i ∷ is))
    (λ _. omega (arith, more)) (λ _. omega (arith, fresh, cut))

total-down : (f : ℕ → ℕ) (levels : List ℕ) (base n : ℕ) (is : List ℕ) → total f (l2_reversed_down levels base n is) ≡ total f is
total-down f levels base zero is = refl
total-down f levels base (suc n) is =
    let none : 0 + total f is ≡ total f is = omega arith in
    total-down f levels base n (l2_reversed levels (base + suc n) [] is) ∙ (total-l2_reversed f levels (base + suc n) [] is ∙ none)

-- the places of a line's visual order are all of the line's
pub total-order : (f : ℕ → ℕ) (base : ℕ) (levels : List ℕ) → total f (l2_visual_order base levels) ≡ total f (range_with_len 0 (length levels))
total-order f base levels = total-down f levels base (highest levels - base) (range_with_len 0 (length levels))

-- one place

abbrev pub is_place : ℕ → ℕ → ℕ
is_place k i = cond (nat_eq k i) 1 0

-- a place stands once among numbers in a row where it lies within them, and else not
place-once : (k from n to : ℕ) → to ≡ from + n → total (is_place k) (range_with_len from n) ≡ cond (is_between from to k) 1 0
place-once k from zero to ends = ap (λ b. cond b 1 0) (sym (between-empty k from to (omega arith)))
place-once k from (suc n) to ends =
    let one : is_place k from ≡ cond (is_between from (from + 1) k) 1 0 = grind (arith, nat_tests) in
    omega (arith, one, place-once k (from + 1) n to (omega arith), between-apart k from (from + 1) to (omega arith) (omega arith))

pub once-at-most : (k from n : ℕ) → total (is_place k) (range_with_len from n) ≤ 1
once-at-most k from n = omega (arith, place-once k from n (from + n) refl, one-at-most (is_between from (from + n) k))

pub once-at-least : (k from n : ℕ) → from ≤ k → k < from + n → 1 ≤ total (is_place k) (range_with_len from n)
once-at-least k from n low high =
    let within : is_between from (from + n) k ≡ true = grind (arith, nat_tests) in
    omega (arith, place-once k from n (from + n) refl, ap (λ b. cond {A = ℕ} b 1 0) within)

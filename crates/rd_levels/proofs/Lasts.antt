-- The last place of a line, at the base level, stays the last in visual order.
use Rattle.std.proofs.Common.{◌≡◌, ℕ, zero, suc, ◌+◌, ◌-◌, ◌≤◌, ◌<◌, Bool, true, false, List, [], ◌∷◌, ◌++◌, length, refl, sym, ap, ◌∙◌, append_assoc, arith}
use Rattle.std.specs.Prelude.{nat_le, if◌then◌else◌, slice_index, map}
use Rattle.std.proofs.lemmas.List.{map-append}
use Rattle.std.specs.List.{range_with_len, AllByRecursion as Each}
use Rattle.std.proofs.lemmas.List.Elements.{All-from_recursion, All-map}
use Rattle.std.proofs.lemmas.Bool.{cond_both, cond-false}
use Rattle.std.proofs.lemmas.Bool.Decides.{nat_tests}
use Rattle.rd_base.proofs.Lists.{each-append, range-below, range-more}
use Rattle.rd_base.specs.declared.class.Class.{Class}
use Rattle.rd_base.specs.declared.class.Class.TheVariants.{B}
use Rattle.rd_order.specs.Order.{l2_reversed, l2_reversed_down, highest, l2_visual_order}
use Rattle.rd_levels.specs.Turns.{levels_with, turn_of, turns_by, turns_of, ComesLast}
use Rattle.rd_levels.specs.declared.turn.Turn.{Turn}
use Rattle.rd_ucd.specs.declared.spans.BracketEntry.{BracketEntry}
use Rattle.rd_levels.proofs.Lengths.{with-length, with-last}

either-last : (b : Bool) (n : ℕ) (x y u v : List ℕ) → x ≡ u ++ n ∷ [] → y ≡ v ++ n ∷ [] → (if b then x else y) ≡ (if b then u else v) ++ n ∷ []
either-last true n x y u v these those = these
either-last false n x y u v these those = those

l2_reversed-last : (levels : List ℕ) (k : ℕ) (run is : List ℕ) (n : ℕ) → slice_index levels n < k → l2_reversed levels k run (is ++ n ∷ []) ≡ l2_reversed levels k run is ++ n ∷ []
l2_reversed-last levels k run [] n low =
    let below : nat_le k (slice_index levels n) ≡ false = grind (arith, nat_tests) in
    cond-false (nat_le k (slice_index levels n)) (l2_reversed levels k (n ∷ run) []) (run ++ n ∷ []) below
l2_reversed-last levels k run (i ∷ is) n low =
    either-last (nat_le k (slice_index levels i)) n
    (l2_reversed levels k (i ∷ run) (is ++ n ∷ [])) (run ++ i ∷ l2_reversed levels k [] (is ++ n ∷ []))
    (l2_reversed levels k (i ∷ run) is) (run ++ i ∷ l2_reversed levels k [] is)
    (l2_reversed-last levels k (i ∷ run) is n low)
    (ap (λ l. run ++ i ∷ l) (l2_reversed-last levels k [] is n low) ∙ sym (append_assoc run (i ∷ l2_reversed levels k [] is) (n ∷ [])))

l2_reversed_down-last : (levels : List ℕ) (base m : ℕ) (is : List ℕ) (n : ℕ) → slice_index levels n ≤ base → l2_reversed_down levels base m (is ++ n ∷ []) ≡ l2_reversed_down levels base m is ++ n ∷ []
l2_reversed_down-last levels base zero is n low = refl
l2_reversed_down-last levels base (suc m) is n low =
    ap (l2_reversed_down levels base m) (l2_reversed-last levels (base + suc m) [] is n (omega arith))
    ∙ l2_reversed_down-last levels base m (l2_reversed levels (base + suc m) [] is) n low

pub order-last : (base n : ℕ) (levels : List ℕ) → length levels ≡ suc n → slice_index levels n ≤ base → l2_visual_order base levels ≡ l2_reversed_down levels base (highest levels - base) (range_with_len 0 n) ++ n ∷ []
order-last base n levels size low =
    let more : length levels ≡ n + 1 = omega arith in
    ap (λ k. l2_reversed_down levels base (highest levels - base) (range_with_len 0 k)) more
    ∙ ap (l2_reversed_down levels base (highest levels - base)) (sym (range-more 0 n n (omega arith)))
    ∙ l2_reversed_down-last levels base (highest levels - base) (range_with_len 0 n) n low

l2_reversed-below : (levels : List ℕ) (k n : ℕ) (run is : List ℕ) → Each (λ (i : ℕ). i < n) run → Each (λ (i : ℕ). i < n) is → Each (λ (i : ℕ). i < n) (l2_reversed levels k run is)
l2_reversed-below levels k n run [] these those = these
l2_reversed-below levels k n run (i ∷ is) these those =
    cond_both (nat_le k (slice_index levels i)) (l2_reversed levels k (i ∷ run) is) (run ++ i ∷ l2_reversed levels k [] is) (Each (λ (j : ℕ). j < n))
    (λ _. l2_reversed-below levels k n (i ∷ run) is (those.0, these) those.1)
    (λ _. each-append (λ (j : ℕ). j < n) run (i ∷ l2_reversed levels k [] is) these (those.0, l2_reversed-below levels k n [] is tt those.1))

l2_reversed_down-below : (levels : List ℕ) (base m n : ℕ) (is : List ℕ) → Each (λ (i : ℕ). i < n) is → Each (λ (i : ℕ). i < n) (l2_reversed_down levels base m is)
l2_reversed_down-below levels base zero n is each = each
l2_reversed_down-below levels base (suc m) n is each =
    l2_reversed_down-below levels base m n (l2_reversed levels (base + suc m) [] is) (l2_reversed-below levels (base + suc m) n [] is tt each)

-- the turns of a line whose last place has the base level, or a lower one
last-turn : (base n : ℕ) (levels : List ℕ) → length levels ≡ suc n → slice_index levels n ≤ base → ComesLast (turns_by base levels) n
last-turn base n levels size low =
    let before = l2_reversed_down levels base (highest levels - base) (range_with_len 0 n) in
    let below = l2_reversed_down-below levels base (highest levels - base) n (range_with_len 0 n) (range-below 0 n n (omega arith)) in
    record {
      front = map (turn_of levels) before;
      last = turn_of levels n;
      whole = ap (map (turn_of levels)) (order-last base n levels size low) ∙ map-append (turn_of levels) before (n ∷ []);
      index = refl;
      others = All-map (λ (t : Turn). t.index < n) (turn_of levels) before (All-from_recursion (λ (i : ℕ). i < n) before below);
    }

-- a separator at the end of a line comes last
pub ender-last : (entries : List BracketEntry) (reorder : Bool) (base : ℕ) (cs : List Class) (codes : List ℕ) → ComesLast (turns_of entries reorder base (cs ++ B ∷ []) codes) (length cs)
ender-last entries reorder base cs codes =
    last-turn base (length cs) (levels_with entries reorder base (cs ++ B ∷ []) codes) (with-length entries base reorder cs codes) (with-last entries base reorder cs codes)

-- The turns of a line go through each of its places once, and are as many; a number for the item of each turn adds up to that for each
-- item.
use Rattle.std.proofs.Common.{◌≡◌, ℕ, suc, ◌+◌, ◌<◌, nat_eq, Bool, true, false, cond, List, [], ◌∷◌, length, map, Option, Some, refl, ap, ap₂, ◌∙◌, arith}
use Rattle.std.specs.Prelude.{◌==◌, count_by, slice_get}
use Rattle.std.specs.List.{range_with_len}
use Rattle.std.proofs.lemmas.List.{length-map, length-replicate}
use Rattle.std.proofs.lemmas.List.Sums.{sum_by-cons}
use Rattle.rd_base.specs.Lists.{total}
use Rattle.rd_base.specs.declared.class.Class.{Class}
use Rattle.rd_ucd.specs.declared.spans.BracketEntry.{BracketEntry}
use Rattle.rd_order.specs.Order.{l2_visual_order}
use Rattle.rd_order.proofs.Once.{total-order, is_place, once-at-most, once-at-least}
use Rattle.rd_order.proofs.Reversals.{l2_visual_order-length}
use Rattle.rd_levels.specs.Turns.{levels_with, turn_of, turns_of}
use Rattle.rd_levels.specs.declared.turn.Turn.{Turn}
use Rattle.rd_levels.proofs.Lengths.{line-length}

-- the sum of a number for the place of each of these turns
abbrev pub total_in : (ℕ → ℕ) → List Turn → ℕ
total_in f ts = total (λ (t : Turn). f t.index) ts

in-turns : (f : ℕ → ℕ) (levels is : List ℕ) → total_in f (map (turn_of levels) is) ≡ total f is
in-turns f levels [] = refl
in-turns f levels (i ∷ is) = ap (λ n. f i + n) (in-turns f levels is)

as-long : (entries : List BracketEntry) (reorder : Bool) (base : ℕ) (classes : List Class) (codes : List ℕ) → length (levels_with entries reorder base classes codes) ≡ length classes
as-long entries true base classes codes = line-length entries base classes codes
as-long entries false base classes codes = length-replicate (length classes) 0

pub turns-count : (entries : List BracketEntry) (reorder : Bool) (base : ℕ) (classes : List Class) (codes : List ℕ) → length (turns_of entries reorder base classes codes) ≡ length classes
turns-count entries reorder base classes codes =
    let levels = levels_with entries reorder base classes codes in
    length-map (l2_visual_order base levels) (turn_of levels) ∙ l2_visual_order-length base levels ∙ as-long entries reorder base classes codes

pub each-turn : (entries : List BracketEntry) (reorder : Bool) (base : ℕ) (classes : List Class) (codes : List ℕ) (f : ℕ → ℕ)
    → total_in f (turns_of entries reorder base classes codes) ≡ total f (range_with_len 0 (length classes))
each-turn entries reorder base classes codes f =
    let levels = levels_with entries reorder base classes codes in
    in-turns f levels (l2_visual_order base levels)
    ∙ total-order f base levels
    ∙ ap (λ n. total f (range_with_len 0 n)) (as-long entries reorder base classes codes)

-- a number for what stands at each place, in order
total-places : {X : Type 0} (g : Option X → ℕ) (f : ℕ → ℕ) (from : ℕ) (xs : List X) → ((i : ℕ) → f (from + i) ≡ g (slice_get xs i)) → total f (range_with_len from (length xs)) ≡ total (λ x. g (Some x)) xs
total-places g f from [] same = refl
total-places g f from (x ∷ xs) same =
    let here = (let e : from ≡ from + 0 = omega arith in ap f e) ∙ same 0 in
    ap₂ (λ (a b : ℕ). a + b) here (total-places g f (from + 1) xs (λ i. (let e : from + 1 + i ≡ from + suc i = omega arith in ap f e) ∙ same (suc i)))

-- a number for the item of each turn adds up to that number for each item
pub each-item : {X : Type 0} (g : Option X → ℕ) (class : X → Class) (entries : List BracketEntry) (reorder : Bool) (base : ℕ) (xs : List X) (codes : List ℕ)
    → total_in (λ i. g (slice_get xs i)) (turns_of entries reorder base (map class xs) codes) ≡ total (λ x. g (Some x)) xs
each-item g class entries reorder base xs codes =
    let f : ℕ → ℕ = λ i. g (slice_get xs i) in
    each-turn entries reorder base (map class xs) codes f
    ∙ ap (λ n. total f (range_with_len 0 n)) (length-map xs class)
    ∙ total-places g f 0 xs (λ i. let e : 0 + i ≡ i = omega arith in ap f e)

count-turns : (k : ℕ) (ts : List Turn) → count_by (λ t. k == t.index) ts ≡ total_in (is_place k) ts
count-turns k [] = refl
count-turns k (t ∷ ts) = sum_by-cons (λ (u : Turn). cond (nat_eq k u.index) 1 0) t ts ∙ ap (λ n. is_place k t.index + n) (count-turns k ts)

pub one-turn : (entries : List BracketEntry) (reorder : Bool) (base : ℕ) (classes : List Class) (codes : List ℕ) (k : ℕ)
    → k < length classes → count_by (λ t. k == t.index) (turns_of entries reorder base classes codes) ≡ 1
one-turn entries reorder base classes codes k within =
    let count = count-turns k (turns_of entries reorder base classes codes) in
    let each = each-turn entries reorder base classes codes (is_place k) in
    let most = once-at-most k 0 (length classes) in
    let least = once-at-least k 0 (length classes) (omega arith) (omega (arith, within)) in
    omega (arith, count, each, most, least)

-- The edits at the gap.
use Rattle.std.proofs.Common.{◌≡◌, ℕ, ◌+◌, ◌-◌, ◌<◌, ◌≤◌, true, false, List, [], ◌++◌, length, length-append, append-nil, replicate, Option, None, Some, inl, inr, refl, sym, ap, ◌∙◌, arith}
use Rattle.std.specs.Prelude.{nat_lt, nat_le, ◌==◌}
use Rattle.std.proofs.lemmas.Bool.Decides.{nat_tests}
use Rattle.std.proofs.lemmas.Bool.{cases_lt}
use Rattle.std.proofs.lemmas.List.{length-replicate, get_or_append_left, get_or-append_right, get_or-replicate, get_or_past, get_or-take, nil_from_length}
use Rattle.rd_base.proofs.Choices.{by-range}
use Rattle.rd_spans.specs.declared.run.ValueRun.{ValueRun}
use Rattle.rd_spans.specs.Values.{value_at, values_put, values_opened, values_closed, CanMove, IsTrimmed}
use Rattle.rd_spans.specs.Sides.{values_of, Rises, size_of, top, meet, needs, values_of_both, AtGap, IsCut, AreRuns, HaveRoom}
use Rattle.rd_spans.proofs.Beside.{opened-before, opened-behind, closed-before, closed-behind}
use Rattle.rd_spans.proofs.Sides.{size-values, few-runs, values_of_both-front, values_of_both-back, values_of_both-past, length-values_of_both, nothing-more, none-or-one}

-- where a position stands to an edit
put-low : (values : List (Option ℕ)) (from to : ℕ) (value : Option ℕ) (p : ℕ) → p < from → values_put (value_at values) from to value p ≡ value_at values p
put-low values from to value p l = let t : nat_le from p ≡ false = grind (arith, nat_tests) in rw t refl

put-here : (values : List (Option ℕ)) (from to : ℕ) (value : Option ℕ) (p : ℕ) → from ≤ p → p < to → values_put (value_at values) from to value p ≡ value
put-here values from to value p l m =
    let t : nat_le from p ≡ true = grind (arith, nat_tests) in let u : nat_lt p to ≡ true = grind (arith, nat_tests) in rw (t, u) refl

put-high : (values : List (Option ℕ)) (from to : ℕ) (value : Option ℕ) (p : ℕ) → from ≤ p → to ≤ p → values_put (value_at values) from to value p ≡ value_at values p
put-high values from to value p l m =
    let t : nat_le from p ≡ true = grind (arith, nat_tests) in let u : nat_lt p to ≡ false = grind (arith, nat_tests) in rw (t, u) refl

open-here : (values : List (Option ℕ)) (pos n p : ℕ) → pos ≤ p → p < pos + n → values_opened (value_at values) pos n p ≡ None
open-here values pos n p l m =
    let t : nat_lt p pos ≡ false = grind (arith, nat_tests) in let u : nat_lt p (pos + n) ≡ true = grind (arith, nat_tests) in rw (t, u) refl

-- a side whose last places were taken away keeps the values of the others
cut-value : (b c : List ValueRun) (n : ℕ) → IsCut b c n → (i : ℕ) → i < size_of c → value_at (values_of c) i ≡ value_at (values_of b) i
cut-value b c n k i l = ap (λ (vs : List (Option ℕ)). value_at vs i) k.values ∙ get_or-take (size_of b - n) (values_of b) i None (omega (arith, k.size))

-- what stands before the gap is in front of it
before-gap : (a b : List ValueRun) (pos p : ℕ) → AtGap a b pos → p < pos → value_at (values_of_both a b) p ≡ value_at (values_of a) p
before-gap a b pos p g l =
    elim (cases_lt p (size_of a)) [
      | inl m ↦ values_of_both-front a b p g.front_rises m
      | inr m ↦
          values_of_both-past a b p g.front_rises g.back_rises (omega (arith, g.gap))
          ∙ sym (get_or_past (values_of a) p None (omega (arith, size-values a g.front_rises)))
    ]

-- what stands behind an edit is as far from the end as before
back-same : (a b c d : List ValueRun) (p q : ℕ) → Rises 0 a → Rises 0 b → Rises 0 c → Rises 0 d → ((i : ℕ) → i < size_of d → value_at (values_of d) i ≡ value_at (values_of b) i) → size_of c ≤ p → size_of a ≤ q
    → size_of c + size_of d - p ≡ size_of a + size_of b - q → value_at (values_of_both c d) p ≡ value_at (values_of_both a b) q
back-same a b c d p q ha hb hc hd same low was e =
    elim (cases_lt p (size_of c + size_of d)) [
      | inl l ↦
          let place : size_of c + size_of d - 1 - p ≡ size_of a + size_of b - 1 - q = omega arith in
          values_of_both-back c d p hc hd low l
          ∙ (same (size_of c + size_of d - 1 - p) (omega arith) ∙ (ap (value_at (values_of b)) place ∙ sym (values_of_both-back a b q ha hb was (omega arith))))
      | inr l ↦ values_of_both-past c d p hc hd l ∙ sym (values_of_both-past a b q ha hb (omega arith))
    ]

-- the front was filled with a value from one position on
filled : (c d : List ValueRun) (front : List (Option ℕ)) (from n : ℕ) (value : Option ℕ) (new : ℕ → Option ℕ) (p : ℕ) → Rises 0 c → size_of c ≡ from + n → length front ≡ from
    → values_of c ≡ front ++ replicate n value → (p < from → value_at front p ≡ new p) → (from ≤ p → p < from + n → value ≡ new p)
    → (from + n ≤ p → value_at (values_of_both c d) p ≡ new p) → value_at (values_of_both c d) p ≡ new p
filled c d front from n value new p h size long e before here behind =
    let there : p < from + n → value_at (values_of_both c d) p ≡ value_at (front ++ replicate n value) p
    = λ m. values_of_both-front c d p h (omega arith) ∙ ap (λ (vs : List (Option ℕ)). value_at vs p) e in
    by-range from (from + n) p
    (λ l. there (omega arith) ∙ (get_or_append_left front (replicate n value) None p (omega arith) ∙ before l))
    (λ l m. there m ∙ (get_or-append_right front (replicate n value) from p None long l ∙ (get_or-replicate n (p - from) value None (omega arith) ∙ here l m)))
    (λ l m. behind m)

-- a value is put: the front is filled up to the end of its range
pub put-filled : (a b c d : List ValueRun) (from to : ℕ) (value : Option ℕ) → AtGap a b from → from < to → Rises 0 c → size_of c ≡ to
    → values_of c ≡ (values_of a ++ replicate (from - size_of a) None) ++ replicate (to - from) value → IsCut b d (to - from)
    → (p : ℕ) → value_at (values_of_both c d) p ≡ values_put (value_at (values_of_both a b)) from to value p
put-filled a b c d from to value g some h long e k p =
    let none : Option ℕ = None in
    let front = values_of a ++ replicate (from - size_of a) none in
    let size : length front ≡ from =
    omega (arith, g.gap, size-values a g.front_rises, length-append (values_of a) (replicate (from - size_of a) none), length-replicate (from - size_of a) none) in
    filled c d front from (to - from) value (values_put (value_at (values_of_both a b)) from to value) p h (omega arith) size e
    (λ l. nothing-more (values_of a) (from - size_of a) None p refl ∙ (sym (before-gap a b from p g l) ∙ sym (put-low (values_of_both a b) from to value p l)))
    (λ l m. sym (put-here (values_of_both a b) from to value p l (omega arith)))
    (λ m. back-same a b c d p p g.front_rises g.back_rises h k.rises (cut-value b d (to - from) k) (omega arith) (omega (arith, g.gap)) (omega (arith, g.gap, k.size))
    ∙ sym (put-high (values_of_both a b) from to value p (omega arith) (omega arith)))

pub put-nothing : (a b d : List ValueRun) (from to : ℕ) → AtGap a b from → from < to → IsCut b d (to - from) → size_of d ≡ 0 → (p : ℕ) → value_at (values_of a) p ≡ values_put (value_at (values_of_both a b)) from to None p
put-nothing a b d from to g some k none p =
    let past : from ≤ p → value_at (values_of a) p ≡ None = λ l. get_or_past (values_of a) p None (omega (arith, g.gap, size-values a g.front_rises)) in
    by-range from to p
    (λ l. sym (before-gap a b from p g l) ∙ sym (put-low (values_of_both a b) from to None p l))
    (λ l m. past l ∙ sym (put-here (values_of_both a b) from to None p l m))
    (λ l m. past l ∙ (sym (values_of_both-past a b p g.front_rises g.back_rises (omega (arith, g.gap, k.size))) ∙ sym (put-high (values_of_both a b) from to None p l m)))

-- positions are taken away
pub close-values : (a b d : List ValueRun) (from to : ℕ) → AtGap a b from → from ≤ to → IsCut b d (to - from) → (p : ℕ) → value_at (values_of_both a d) p ≡ values_closed (value_at (values_of_both a b)) from to p
close-values a b d from to g some k p =
    let ha = g.front_rises in
    elim (cases_lt p from) [
      | inl l ↦
          before-gap a d from p (record { front_rises = ha; back_rises = k.rises; gap = omega (arith, g.gap, k.size) }) l
          ∙ (sym (before-gap a b from p g l) ∙ closed-before (value_at (values_of_both a b)) from to p l)
      | inr l ↦
          back-same a b a d p (p + (to - from)) ha g.back_rises ha k.rises (cut-value b d (to - from) k) (omega (arith, g.gap)) (omega (arith, g.gap)) (omega (arith, k.size))
          ∙ closed-behind (value_at (values_of_both a b)) from to (p + (to - from)) p l refl
    ]

-- positions are opened
pub open-values : (a b c : List ValueRun) (pos n : ℕ) → AtGap a b pos → 0 < size_of b → Rises 0 c → size_of c ≡ size_of a + n → values_of c ≡ values_of a ++ replicate n None → (p : ℕ) → value_at (values_of_both c b) p ≡ values_opened (value_at (values_of_both a b)) pos n p
open-values a b c pos n g some h long e p =
    let ha = g.front_rises in
    let at : size_of a ≡ pos = omega (arith, g.gap) in
    filled c b (values_of a) pos n None (values_opened (value_at (values_of_both a b)) pos n) p h (omega arith) (omega (arith, size-values a ha)) e
    (λ l. sym (before-gap a b pos p g l) ∙ opened-before (value_at (values_of_both a b)) pos n p l)
    (λ l m. sym (open-here (values_of_both a b) pos n p l m))
    (λ m. back-same a b c b p (p - n) ha g.back_rises h g.back_rises (λ i l. refl) (omega arith) (omega arith) (omega arith)
    ∙ opened-behind (value_at (values_of_both a b)) pos n (p - n) p (omega arith) (omega arith))

pub open-nothing : (a b : List ValueRun) (pos n : ℕ) → AtGap a b pos → size_of b ≡ 0 → (p : ℕ) → value_at (values_of_both a b) p ≡ values_opened (value_at (values_of_both a b)) pos n p
open-nothing a b pos n g none p =
    let past : (q : ℕ) → pos ≤ q → value_at (values_of_both a b) q ≡ None = λ q l. values_of_both-past a b q g.front_rises g.back_rises (omega (arith, g.gap)) in
    by-range pos (pos + n) p
    (λ l. opened-before (value_at (values_of_both a b)) pos n p l)
    (λ l m. past p l ∙ sym (open-here (values_of_both a b) pos n p l m))
    (λ l m. past p l ∙ (sym (past (p - n) (omega arith)) ∙ opened-behind (value_at (values_of_both a b)) pos n (p - n) p (omega arith) (omega arith)))

pub length-none : (b : List ValueRun) → Rises 0 b → size_of b ≡ 0 → length b ≡ 0
length-none b h e = omega (arith, few-runs 0 b h)

pub size-none : (b : List ValueRun) → length b ≡ 0 → size_of b ≡ 0
size-none b e = ap size_of (nil_from_length b e)

pub values_of_both-none : (a b : List ValueRun) → b ≡ [] → values_of_both a b ≡ values_of a
values_of_both-none a b e = ap (values_of_both a) e ∙ append-nil (values_of a)

-- an edit keeps the list trimmed
trimmed-by : (xs ys : List (Option ℕ)) (p q : ℕ) → IsTrimmed ys → q + 1 ≡ length ys → value_at xs p ≡ value_at ys q → value_at xs p ≡ None → ⊥
trimmed-by xs ys p q t e same none = t q e (sym same ∙ none)

pub put-trimmed : (a b c d : List ValueRun) (from to : ℕ) (value : Option ℕ) → AtGap a b from → from < to → Rises 0 c → size_of c ≡ to → IsCut b d (to - from)
    → ((p : ℕ) → value_at (values_of_both c d) p ≡ values_put (value_at (values_of_both a b)) from to value p) → (size_of d ≡ 0 → value ≡ None → ⊥) → IsTrimmed (values_of_both a b) → IsTrimmed (values_of_both c d)
put-trimmed a b c d from to value g some h size k values not t p last none =
    let hb = g.back_rises in
    let long : length (values_of_both c d) ≡ size_of c + size_of d = length-values_of_both c d h k.rises in
    let was : length (values_of_both a b) ≡ size_of a + size_of b = length-values_of_both a b g.front_rises hb in
    elim (cases_lt 0 (size_of d)) [
      | inl more ↦
          trimmed-by (values_of_both c d) (values_of_both a b) p p t (omega (arith, g.gap, k.size))
          (values p ∙ put-high (values_of_both a b) from to value p (omega arith) (omega arith)) none
      | inr end ↦ not (omega arith) (sym (put-here (values_of_both a b) from to value p (omega arith) (omega arith)) ∙ (sym (values p) ∙ none))
    ]

pub close-trimmed : (a b d : List ValueRun) (from to : ℕ) → AtGap a b from → from ≤ to → IsCut b d (to - from) → 0 < size_of d
    → ((p : ℕ) → value_at (values_of_both a d) p ≡ values_closed (value_at (values_of_both a b)) from to p) → IsTrimmed (values_of_both a b) → IsTrimmed (values_of_both a d)
close-trimmed a b d from to g some k more values t p last none =
    let long : length (values_of_both a d) ≡ size_of a + size_of d = length-values_of_both a d g.front_rises k.rises in
    let was : length (values_of_both a b) ≡ size_of a + size_of b = length-values_of_both a b g.front_rises g.back_rises in
    trimmed-by (values_of_both a d) (values_of_both a b) p (p + (to - from)) t (omega (arith, g.gap, k.size)) (values p ∙ sym (closed-behind (value_at (values_of_both a b)) from to (p + (to - from)) p (omega (arith, g.gap, k.size)) refl)) none

pub open-trimmed : (a b c : List ValueRun) (pos n : ℕ) → AtGap a b pos → 0 < size_of b → Rises 0 c → size_of c ≡ size_of a + n
    → ((p : ℕ) → value_at (values_of_both c b) p ≡ values_opened (value_at (values_of_both a b)) pos n p) → IsTrimmed (values_of_both a b) → IsTrimmed (values_of_both c b)
open-trimmed a b c pos n g more h size values t p last none =
    let long : length (values_of_both c b) ≡ size_of c + size_of b = length-values_of_both c b h g.back_rises in
    let was : length (values_of_both a b) ≡ size_of a + size_of b = length-values_of_both a b g.front_rises g.back_rises in
    trimmed-by (values_of_both c b) (values_of_both a b) p (p - n) t (omega (arith, g.gap)) (values p ∙ sym (opened-behind (value_at (values_of_both a b)) pos n (p - n) p (omega (arith, g.gap)) (omega (arith, g.gap)))) none

-- the last position has a value, which can move on
last-moves : (values : List (Option ℕ)) (n last : ℕ) → IsTrimmed values → CanMove values n → last + 1 ≡ length values → last + n < 4294967296
last-moves values n last t m e = by-value (value_at values last) refl where
  by-value : (o : Option ℕ) → value_at values last ≡ o → last + n < 4294967296
  by-value None is = absurd (t last e is)
  by-value (Some v) is = m last v is

pub open-few : (a b : List ValueRun) (n : ℕ) → Rises 0 a → Rises 0 b → 0 < size_of b → IsTrimmed (values_of_both a b) → CanMove (values_of_both a b) n → size_of a + n + size_of b ≤ 4294967296
open-few a b n ha hb more t m =
    let long : length (values_of_both a b) ≡ size_of a + size_of b = length-values_of_both a b ha hb in
    omega (arith, last-moves (values_of_both a b) n (size_of a + size_of b - 1) t m (omega arith))

-- where the gap moved and then two runs were put, room for three more at first is room for them
pub still-room : (front back a b c d : List ValueRun) (front_room back_room : ℕ) → AreRuns c d → needs a b ≤ needs front back → length c + length d ≤ length a + length b + 2
    → length front + length back + 4 ≤ front_room → length front + length back + 4 ≤ back_room → HaveRoom c d front_room back_room
still-room front back a b c d front_room back_room runs lighter two front_more back_more =
    let before = none-or-one (meet (top front) (top back)) in
    let after = none-or-one (meet (top c) (top d)) in
    record { runs = runs; front_holds = omega (arith, before, after); back_holds = omega (arith, before, after) }

-- whether a side is empty
pub not-empty : (b : List ValueRun) (len : ℕ) → Rises 0 b → len ≡ length b → (len == 0) ≡ false → 0 < size_of b
not-empty b len h e t = let some : 0 < len = grind (arith, nat_tests) in omega (arith, few-runs 0 b h)

pub is-empty : (b : List ValueRun) (len : ℕ) → len ≡ length b → (len == 0) ≡ true → length b ≡ 0
is-empty b len e t = let none : len ≡ 0 = grind (arith, nat_tests) in omega arith

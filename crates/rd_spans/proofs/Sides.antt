-- The runs on one side of the gap.
use Rattle.std.proofs.Common.{◌≡◌, ℕ, zero, suc, ◌+◌, ◌-◌, ◌<◌, ◌≤◌, Bool, true, false, if◌then◌else◌, List, [], ◌∷◌, ◌++◌, length, length-append, append_assoc, append-nil, replicate, take, Option, None, Some, inl, inr, refl, sym, ap, subst, ◌∙◌, arith}
use Rattle.std.specs.Prelude.{is_some, min, nat_lt, nat_eq, slice_get, slice_index_or, reverse}
use Rattle.std.specs.Bool.{Decides}
use Rattle.std.specs.Option.{option_eq}
use Rattle.std.proofs.lemmas.Bool.Decides.{Decides-like, Decides-eqb, same_from_decides}
use Rattle.std.proofs.lemmas.Bool.{lt-ltb, le-ltb, cases_lt}
use Rattle.std.proofs.lemmas.List.{replicate-append-replicate, replicate_more, length-replicate, take_all, length-reverse, reverse-append, get_or_append_left, get_or-append_right, get_or-replicate, get_or_past, get_or-reverse, take-append-le, reverse-reverse, length_push, length-take, get_or-take}
use Rattle.std.proofs.lemmas.Option.{same_Some}
use Rattle.std.proofs.lemmas.List.Elements.{All-replicate}
use Rattle.rd_base.proofs.Choices.{either}
use Rattle.rd_base.proofs.Lists.{all-read, last-read}
use Rattle.std.proofs.lemmas.List.Sums.{fold_push}
use Rattle.rd_spans.specs.declared.run.ValueRun.{ValueRun}
use Rattle.rd_spans.specs.Values.{value_at, IsTrimmed}
use Rattle.rd_spans.specs.Sides.{values_from, values_of, Rises, reach, size_of, value_in, top, has_value, meet, needs, values_of_both, AreMoved, IsLighter, GapMoved}

-- values: whether two are one is decided

pub value-decides : (a b : Option ℕ) → Decides (option_eq nat_eq a b) (a ≡ b)
value-decides None None = (λ e. refl, λ e. refl)
value-decides (Some a) (Some b) = Decides-like (nat_eq a b) (ap Some) (same_Some a b) (Decides-eqb a b)
value-decides a b = (λ e. absurd (cc), λ e. absurd (cc))

value-swap : (a b : Option ℕ) → option_eq nat_eq a b ≡ option_eq nat_eq b a
value-swap a b = same_from_decides (option_eq nat_eq a b) (option_eq nat_eq b a) (value-decides a b) (Decides-like (option_eq nat_eq b a) (λ e. sym e) (λ e. sym e) (value-decides b a))

-- where runs end with one more behind them

pub reach-push : (k : ℕ) (rs : List ValueRun) (r : ValueRun) → reach k (rs ++ r ∷ []) ≡ r.end
reach-push k rs r = fold_push _ k rs r

pub reach-least : (k : ℕ) (rs : List ValueRun) → Rises k rs → k ≤ reach k rs
reach-least k [] h = omega arith
reach-least k (r ∷ rs) h = omega (arith, h.0, reach-least r.end rs h.1)

pub rises-push : (k : ℕ) (rs : List ValueRun) (r : ValueRun) → Rises k rs → reach k rs < r.end → Rises k (rs ++ r ∷ [])
rises-push k [] r h p = (p, tt)
rises-push k (q ∷ rs) r h p = (h.0, rises-push q.end rs r h.1 p)

pub rises-parts : (k : ℕ) (rs : List ValueRun) (r : ValueRun) → Rises k (rs ++ r ∷ []) → Rises k rs × (reach k rs < r.end)
rises-parts k [] r h = (tt, h.0)
rises-parts k (q ∷ rs) r h = let rest = rises-parts q.end rs r h.1 in ((h.0, rest.0), rest.1)

pub values-push : (k : ℕ) (rs : List ValueRun) (r : ValueRun) → values_from k (rs ++ r ∷ []) ≡ values_from k rs ++ replicate (r.end - reach k rs) r.value
values-push k [] r = append-nil (replicate (r.end - k) r.value)
values-push k (q ∷ rs) r = rw (values-push q.end rs r, append_assoc) refl

pub top-push : (rs : List ValueRun) (r : ValueRun) → top (rs ++ r ∷ []) ≡ Some r
top-push [] r = refl
top-push (q ∷ []) r = refl
top-push (q ∷ (s ∷ rs)) r = top-push (s ∷ rs) r

pub length-values : (k : ℕ) (rs : List ValueRun) → Rises k rs → length (values_from k rs) + k ≡ reach k rs
length-values k [] h = omega arith
length-values k (r ∷ rs) h =
    omega (arith, length-append (replicate (r.end - k) r.value) (values_from r.end rs), length-replicate (r.end - k) r.value, length-values r.end rs h.1, h.0)

pub size-values : (rs : List ValueRun) → Rises 0 rs → length (values_of rs) ≡ size_of rs
size-values rs h = omega (arith, length-values 0 rs h)

pub few-runs : (k : ℕ) (rs : List ValueRun) → Rises k rs → length rs + k ≤ reach k rs
few-runs k [] h = omega arith
few-runs k (r ∷ rs) h = omega (arith, few-runs r.end rs h.1, h.0)

pub size-top : (rs : List ValueRun) (r : ValueRun) → top rs ≡ Some r → (k : ℕ) → reach k rs ≡ r.end
size-top [] r e k = absurd (cc)
size-top (q ∷ []) r e k = let s : q ≡ r = cc in ap (λ (x : ValueRun). x.end) s
size-top (q ∷ (s ∷ rs)) r e k = size-top (s ∷ rs) r e q.end

-- the value of a place

pub value_in-values : (k : ℕ) (rs : List ValueRun) (p : ℕ) → Rises k rs → k ≤ p → value_at (values_from k rs) (p - k) ≡ value_in rs p
value_in-values k [] p h low = refl
value_in-values k (r ∷ rs) p h low =
    let here = replicate (r.end - k) r.value in
    let rest = values_from r.end rs in
    let long : length here ≡ r.end - k = length-replicate (r.end - k) r.value in
    elim (cases_lt p r.end) as (λ x. value_at (here ++ rest) (p - k) ≡ (if nat_lt p r.end then r.value else value_in rs p)) [
      | inl less ↦
          rw (lt-ltb p r.end less)
          (get_or_append_left here rest None (p - k) (omega (arith, h.0)) ∙ get_or-replicate (r.end - k) (p - k) r.value None (omega (arith, h.0)))
      | inr more ↦
          let e : (p - k) - (r.end - k) ≡ p - r.end = omega (arith, h.0) in
          rw (le-ltb p r.end more)
          (get_or-append_right here rest (r.end - k) (p - k) None long (omega arith) ∙ (ap (value_at rest) e ∙ value_in-values r.end rs p h.1 more))
    ]

pub value-of-place : (rs : List ValueRun) (p : ℕ) → Rises 0 rs → value_at (values_of rs) p ≡ value_in rs p
value-of-place rs p h = let e : p ≡ p - 0 = omega arith in ap (value_at (values_of rs)) e ∙ value_in-values 0 rs p h (omega arith)

pub rises-ends : (k : ℕ) (es : List ValueRun) (i j : ℕ) (d : ValueRun) → Rises k es → i ≤ j → j < length es → (k < (slice_index_or es i d).end) × ((slice_index_or es i d).end ≤ (slice_index_or es j d).end)
rises-ends k [] i j d h p q = absurd (omega arith)
rises-ends k (r ∷ rs) zero zero d h p q = (h.0, omega arith)
rises-ends k (r ∷ rs) zero (suc j) d h p q = let rest = rises-ends r.end rs j j d h.1 (omega arith) (omega arith) in (h.0, omega (arith, rest.0))
rises-ends k (r ∷ rs) (suc i) zero d h p q = absurd (omega arith)
rises-ends k (r ∷ rs) (suc i) (suc j) d h p q = let rest = rises-ends r.end rs i j d h.1 (omega arith) (omega arith) in (omega (arith, rest.0, h.0), rest.1)

-- the first run that ends behind a place gives its value
found-run : (es : List ValueRun) (i p : ℕ) (d : ValueRun) → ((k : ℕ) (d : ValueRun) → k < i → (slice_index_or es k d).end ≤ p) → p < (slice_index_or es i d).end → i < length es
    → value_in es p ≡ (slice_index_or es i d).value
found-run [] i p d below high h = absurd (omega arith)
found-run (q ∷ es) zero p d below high h = rw (lt-ltb p q.end high) refl
found-run (q ∷ es) (suc i) p d below high h =
    rw (le-ltb p q.end (below 0 q (omega arith))) (found-run es i p d (λ k d l. below (suc k) d (omega arith)) high (omega arith))

-- a run's end, where those up to a later run end
pub end-at : (k : ℕ) (es : List ValueRun) (i : ℕ) (d : ValueRun) → Rises k es → i < length es → (slice_index_or es i d).end ≤ reach k es
end-at k [] i d h p = absurd (omega arith)
end-at k (r ∷ rs) zero d h p = reach-least r.end rs h.1
end-at k (r ∷ rs) (suc i) d h p = end-at r.end rs i d h.1 (omega arith)

rises-take : (k : ℕ) (rs : List ValueRun) (i : ℕ) → Rises k rs → Rises k (take i rs)
rises-take k rs zero h = tt
rises-take k [] (suc i) h = tt
rises-take k (r ∷ rs) (suc i) h = (h.0, rises-take r.end rs i h.1)

before-run : (k : ℕ) (es : List ValueRun) (i j : ℕ) (c : ValueRun) → Rises k es → j < i → i < length es → (slice_index_or es j c).end ≤ reach k (take i es)
before-run k es i j c h p q =
    subst (λ (r : ValueRun). r.end ≤ reach k (take i es)) (get_or-take i es j c p) (end-at k (take i es) j c (rises-take k es i h) (omega (arith, length-take i es)))

pub reach-before : (k : ℕ) (es : List ValueRun) (i p : ℕ) → k ≤ p → ((j : ℕ) (c : ValueRun) → j < i → (slice_index_or es j c).end ≤ p) → reach k (take i es) ≤ p
reach-before k es zero p low below = low
reach-before k [] (suc i) p low below = low
reach-before k (r ∷ rs) (suc i) p low below = reach-before r.end rs i p (below 0 r (omega arith)) (λ j c q. below (suc j) c (omega arith))

-- each place of a run has its value
pub run-value : (es : List ValueRun) (i p : ℕ) (d : ValueRun) → Rises 0 es → i < length es → size_of (take i es) ≤ p → p < (slice_index_or es i d).end
    → value_at (values_of es) p ≡ (slice_index_or es i d).value
run-value es i p d h l low high =
    value-of-place es p h ∙ found-run es i p d (λ k x m. omega (arith, before-run 0 es i k x h m l)) high l

-- a run is opened at its end, or a new one begins
pub has-top : (rs : List ValueRun) (r : ValueRun) (value : Option ℕ) → has_value (top (rs ++ r ∷ [])) value ≡ option_eq nat_eq r.value value
has-top rs r value = rw (top-push rs r) refl

pub opened-values : (rs : List ValueRun) (r : ValueRun) (value : Option ℕ) → option_eq nat_eq r.value value ≡ true → values_of (rs ++ r ∷ []) ≡ values_of rs ++ replicate (size_of (rs ++ r ∷ []) - size_of rs) value
opened-values rs r value e = rw (reach-push 0 rs r, ← (value-decides r.value value).0 e) (values-push 0 rs r)

-- so many of one value, in two parts
in-parts : (vs : List (Option ℕ)) (n m k : ℕ) (value : Option ℕ) → k ≡ n + m → vs ++ replicate k value ≡ (vs ++ replicate n value) ++ replicate m value
in-parts vs n m k value is =
    ap (λ (i : ℕ). vs ++ replicate i value) is
    ∙ (ap (λ (ws : List (Option ℕ)). vs ++ ws) (sym (replicate-append-replicate n m value)) ∙ sym (append_assoc vs (replicate n value) (replicate m value)))

pub longer-values : (old new : List ValueRun) (end n : ℕ) (value : Option ℕ) → values_of old ≡ values_of new ++ replicate (size_of old - size_of new) value → size_of new ≤ size_of old → end ≡ size_of old + n
    → values_of (new ++ record { end = end; value = value } ∷ []) ≡ values_of old ++ replicate n value
longer-values old new end n value e less is =
    values-push 0 new (record { end = end; value = value })
    ∙ (in-parts (values_of new) (size_of old - size_of new) n (end - size_of new) value (omega arith) ∙ ap (λ (vs : List (Option ℕ)). vs ++ replicate n value) (sym e))

-- the search for a place
pub found-within : (es : List ValueRun) (i p : ℕ) → ((k : ℕ) (d : ValueRun) → k < i → (slice_index_or es k d).end < p + 1) → p < size_of es → i < length es
found-within es i p below within =
    elim (cases_lt i (length es)) [
      | inl less ↦ less
      | inr more ↦
          let whole = ap size_of (take_all (length es) es (omega arith)) in
          absurd (omega (arith, whole, reach-before 0 es (length es) p (omega arith) (λ j d l. omega (arith, below j d (omega arith)))))
    ]

pub size-last : (rs : List ValueRun) (r : ValueRun) → Some r ≡ slice_get rs (length rs - 1) → r.end ≡ size_of rs
size-last rs r e = sym (size-top rs r (sym (last-read rs) ∙ sym e) 0)

-- the runs before the last still rise, and end before it
pub popped-rises : (old rs : List ValueRun) (r : ValueRun) → old ≡ rs ++ r ∷ [] → Rises 0 old → Rises 0 rs × ((size_of rs < r.end) × (size_of old ≡ r.end))
popped-rises old rs r e h =
    let parts = rises-parts 0 rs r (subst (Rises 0) e h) in
    (parts.0, (parts.1, ap size_of e ∙ reach-push 0 rs r))

pub popped-values : (old rs : List ValueRun) (r : ValueRun) → old ≡ rs ++ r ∷ [] → values_of old ≡ values_of rs ++ replicate (r.end - size_of rs) r.value
popped-values old rs r e = ap values_of e ∙ values-push 0 rs r

pub popped-has : (old rs : List ValueRun) (r : ValueRun) (value : Option ℕ) → old ≡ rs ++ r ∷ [] → has_value (top old) value ≡ option_eq nat_eq r.value value
popped-has old rs r value e = ap (λ (x : List ValueRun). has_value (top x) value) e ∙ has-top rs r value

pub popped-length : (old rs : List ValueRun) (r : ValueRun) → old ≡ rs ++ r ∷ [] → length old ≡ length rs + 1
popped-length old rs r e = ap length e ∙ length_push rs r

pub kept-count : (old rs : List ValueRun) (r : ValueRun) (value : Option ℕ) → old ≡ rs ++ r ∷ [] → option_eq nat_eq r.value value ≡ false → length (rs ++ r ∷ []) + (if has_value (top old) value then 1 else 0) ≡ length old
kept-count old rs r value e f = rw (popped-has old rs r value e, f, ← e) (omega arith)

pub taken-count : (old rs : List ValueRun) (r : ValueRun) (value : Option ℕ) → old ≡ rs ++ r ∷ [] → option_eq nat_eq r.value value ≡ true → length rs + (if has_value (top old) value then 1 else 0) ≡ length old
taken-count old rs r value e f = rw (popped-has old rs r value e, f) (sym (popped-length old rs r e))

pub taken-values : (old rs : List ValueRun) (r : ValueRun) (value : Option ℕ) → old ≡ rs ++ r ∷ [] → option_eq nat_eq r.value value ≡ true → values_of old ≡ values_of rs ++ replicate (size_of old - size_of rs) value
taken-values old rs r value e f = rw e (opened-values rs r value f)

-- two sides

meet-run : (run : ValueRun) (o : Option ValueRun) → meet (Some run) o ≡ has_value o run.value
meet-run run None = refl
meet-run run (Some r) = value-swap run.value r.value

meet-swap : (a b : Option ValueRun) → meet a b ≡ meet b a
meet-swap None None = refl
meet-swap None (Some b) = refl
meet-swap (Some a) None = refl
meet-swap (Some a) (Some b) = value-swap a.value b.value

-- a last run with a value meets whatever has the value
meet-value : (a b : Option ValueRun) (value : Option ℕ) → has_value b value ≡ true → meet a b ≡ has_value a value
meet-value a None value h = absurd (cc)
meet-value a (Some r) value h = ap (has_value a) ((value-decides r.value value).0 h)

pub none-or-one : (b : Bool) → (if b then 0 else 1) ≤ 1
none-or-one b = either (λ n. n ≤ 1) b 0 1 (omega arith) (omega arith)

pub needs-swap : (a b : List ValueRun) → needs a b ≡ needs b a
needs-swap a b = rw (meet-swap (top a) (top b)) (omega arith)

-- the last run is cut
cut-needs : (old rs new : List ValueRun) (r : ValueRun) (n : ℕ) → old ≡ rs ++ r ∷ [] → (n ≡ 0 → new ≡ rs) → length new ≤ length rs + (if has_value (top rs) r.value then 0 else 1)
    → (0 < n → has_value (top new) r.value ≡ true) → (other : List ValueRun) → needs other new ≤ needs other old
cut-needs old rs new r n e none count has other =
    let before : needs other old ≡ length other + (length rs + 1) + (if has_value (top other) r.value then 0 else 1) =
    rw (e, top-push rs r, length_push rs r) refl in
    elim (cases_lt 0 n) [
      | inl some ↦
          let after : needs other new ≡ length other + length new + (if has_value (top other) r.value then 0 else 1) =
          rw (meet-value (top other) (top new) r.value (has some)) refl in
          omega (arith, before, after, count, none-or-one (has_value (top rs) r.value))
      | inr all ↦
          let long : length new ≡ length rs = ap length (none (omega arith)) in
          omega (arith, before, long, none-or-one (meet (top other) (top new)))
    ]

-- the gap moves by a part of a run
pub moved-needs : (old rs to from_new to_new : List ValueRun) (r : ValueRun) (rest moved : ℕ) → old ≡ rs ++ r ∷ [] → 0 < moved
    → (rest ≡ 0 → from_new ≡ rs) → length from_new ≤ length rs + (if has_value (top rs) r.value then 0 else 1) → (0 < rest → has_value (top from_new) r.value ≡ true)
    → length to_new ≤ length to + (if has_value (top to) r.value then 0 else 1) → (0 < moved → has_value (top to_new) r.value ≡ true)
    → needs from_new to_new ≤ needs old to
moved-needs old rs to from_new to_new r rest moved e some none from_count from_top to_count to_top =
    let before : needs old to ≡ length rs + 1 + length to + (if has_value (top to) r.value then 0 else 1) =
    rw (e, top-push rs r, meet-run r (top to), length_push rs r) refl in
    let between : needs to_new old ≡ length to_new + (length rs + 1) + 0 = rw (e, top-push rs r, length_push rs r, to_top some) refl in
    omega (arith, before, between, cut-needs old rs from_new r rest e none from_count from_top to_new, needs-swap from_new to_new, to_count)

reverse-same : (n : ℕ) (a : Option ℕ) → reverse (replicate n a) ≡ replicate n a
reverse-same zero a = refl
reverse-same (suc n) a =
    let more : n + 1 ≡ suc n = omega arith in
    reverse-append (a ∷ []) (replicate n a) ∙ ap (λ (vs : List (Option ℕ)). vs ++ a ∷ []) (reverse-same n a) ∙ replicate_more n a ∙ ap (λ (m : ℕ). replicate m a) more

pub moved-values_of_both : (old rs to from_new to_new : List ValueRun) (r : ValueRun) (rest moved : ℕ) → old ≡ rs ++ r ∷ [] → rest + moved ≡ r.end - size_of rs
    → values_of from_new ≡ values_of rs ++ replicate rest r.value → values_of to_new ≡ values_of to ++ replicate moved r.value → values_of_both from_new to_new ≡ values_of_both old to
moved-values_of_both old rs to from_new to_new r rest moved e all from_values to_values =
    let a = values_of rs in
    let b = reverse (values_of to) in
    let whole : values_of old ≡ (a ++ replicate rest r.value) ++ replicate moved r.value = popped-values old rs r e ∙ in-parts a rest moved (r.end - size_of rs) r.value (sym all) in
    let turned : reverse (values_of to_new) ≡ replicate moved r.value ++ b =
    ap reverse to_values ∙ (reverse-append (values_of to) (replicate moved r.value) ∙ ap (λ (vs : List (Option ℕ)). vs ++ b) (reverse-same moved r.value)) in
    ap (λ (vs : List (Option ℕ)). vs ++ reverse (values_of to_new)) from_values
    ∙ (ap (λ (vs : List (Option ℕ)). (a ++ replicate rest r.value) ++ vs) turned
    ∙ (sym (append_assoc (a ++ replicate rest r.value) (replicate moved r.value) b) ∙ ap (λ (vs : List (Option ℕ)). vs ++ b) (sym whole)))

values_of_both-swap : (front back : List ValueRun) → values_of_both front back ≡ reverse (values_of_both back front)
values_of_both-swap front back =
    sym (reverse-append (values_of back) (reverse (values_of front)) ∙ ap (λ (vs : List (Option ℕ)). vs ++ reverse (values_of back)) (reverse-reverse (values_of front)))

pub moved-swap : (front back front_new back_new : List ValueRun) → AreMoved back front back_new front_new → AreMoved front back front_new back_new
moved-swap front back front_new back_new m = record {
  same = values_of_both-swap front_new back_new ∙ (ap reverse m.same ∙ sym (values_of_both-swap front back));
  from_rises = m.to_rises;
  to_rises = m.from_rises;
  needs = rw (needs-swap front_new back_new, needs-swap front back) m.needs;
}

pub cut-lighter : (old rs new : List ValueRun) (r : ValueRun) (n : ℕ) → old ≡ rs ++ r ∷ [] → (n ≡ 0 → new ≡ rs) → length new ≤ length rs + (if has_value (top rs) r.value then 0 else 1)
    → (0 < n → has_value (top new) r.value ≡ true) → IsLighter old new
cut-lighter old rs new r n e none count has = record {
  needs = cut-needs old rs new r n e none count has;
  count = omega (arith, ap length e, length_push rs r, count, none-or-one (has_value (top rs) r.value));
}

pub cut-values : (old rs new : List ValueRun) (r : ValueRun) (end : ℕ) → old ≡ rs ++ r ∷ [] → Rises 0 old → end < size_of old → values_of new ≡ values_of rs ++ replicate (end - size_of rs) r.value
    → take end (values_of new) ≡ take end (values_of old)
cut-values old rs new r end e h below is =
    let p = popped-rises old rs r e h in
    let long : length (values_of new) ≡ size_of rs + (end - size_of rs) =
    ap length is ∙ (length-append (values_of rs) (replicate (end - size_of rs) r.value) ∙ omega (arith, size-values rs p.0, length-replicate (end - size_of rs) r.value)) in
    let more = replicate ((r.end - size_of rs) - (end - size_of rs)) r.value in
    let whole : values_of old ≡ values_of new ++ more =
    popped-values old rs r e
    ∙ (in-parts (values_of rs) (end - size_of rs) ((r.end - size_of rs) - (end - size_of rs)) (r.end - size_of rs) r.value (omega (arith, p.1.0, p.1.1))
    ∙ ap (λ (vs : List (Option ℕ)). vs ++ more) (sym is)) in
    sym (ap (take end) whole ∙ take-append-le end (values_of new) more (omega arith))

pub cut-whole : (new old : List ValueRun) (end : ℕ) → Rises 0 new → size_of new ≡ end → take end (values_of new) ≡ take end (values_of old) → values_of new ≡ take end (values_of old)
cut-whole new old end h e is = sym (take_all end (values_of new) (omega (arith, size-values new h))) ∙ is

-- the last runs without a value are taken
pub nothing-more : (xs : List (Option ℕ)) (n : ℕ) (value : Option ℕ) (p : ℕ) → value ≡ None → value_at (xs ++ replicate n value) p ≡ value_at xs p
nothing-more [] n value p none = all-read (λ v. v ≡ None) (replicate n value) p None (All-replicate (λ v. v ≡ None) n value none) refl
nothing-more (x ∷ xs) n value zero none = refl
nothing-more (x ∷ xs) n value (suc p) none = nothing-more xs n value p none

pub trim-values : (old rs : List ValueRun) (r : ValueRun) (p : ℕ) → old ≡ rs ++ r ∷ [] → r.value ≡ None → value_at (values_of rs) p ≡ value_at (values_of old) p
trim-values old rs r p e none =
    let more = replicate (r.end - size_of rs) r.value in
    sym (ap (λ (vs : List (Option ℕ)). value_at vs p) (popped-values old rs r e) ∙ nothing-more (values_of rs) (r.end - size_of rs) r.value p none)

pub trim-lighter : (old rs : List ValueRun) (r : ValueRun) (other : List ValueRun) → old ≡ rs ++ r ∷ [] → needs rs other ≤ needs old other
trim-lighter old rs r other e = omega (arith, popped-length old rs r e, none-or-one (meet (top rs) (top other)))

pub trimmed-last : (rs : List ValueRun) (r : ValueRun) → Rises 0 (rs ++ r ∷ []) → (r.value ≡ None → ⊥) → IsTrimmed (values_of (rs ++ r ∷ []))
trimmed-last rs r h some p is none =
    let parts = rises-parts 0 rs r h in
    let long : length (values_of (rs ++ r ∷ [])) ≡ r.end = size-values (rs ++ r ∷ []) h ∙ reach-push 0 rs r in
    let front : length (values_of rs) ≡ size_of rs = size-values rs parts.0 in
    let last : value_at (values_of (rs ++ r ∷ [])) p ≡ r.value =
    ap (λ (vs : List (Option ℕ)). value_at vs p) (values-push 0 rs r)
    ∙ (get_or-append_right (values_of rs) (replicate (r.end - size_of rs) r.value) (size_of rs) p None front (omega (arith, parts.1))
    ∙ get_or-replicate (r.end - size_of rs) (p - size_of rs) r.value None (omega (arith, parts.1))) in
    some (sym last ∙ none)

-- the value at a position by both sides together
pub values_of_both-front : (front back : List ValueRun) (p : ℕ) → Rises 0 front → p < size_of front → value_at (values_of_both front back) p ≡ value_at (values_of front) p
values_of_both-front front back p h l = get_or_append_left (values_of front) (reverse (values_of back)) None p (omega (arith, size-values front h))

pub values_of_both-back : (front back : List ValueRun) (p : ℕ) → Rises 0 front → Rises 0 back → size_of front ≤ p → p < size_of front + size_of back → value_at (values_of_both front back) p ≡ value_at (values_of back) (size_of front + size_of back - 1 - p)
values_of_both-back front back p h k low high =
    let b = values_of back in
    let e : length b - 1 - (p - size_of front) ≡ size_of front + size_of back - 1 - p = omega (arith, size-values back k) in
    get_or-append_right (values_of front) (reverse b) (size_of front) p None (size-values front h) low
    ∙ (get_or-reverse b (p - size_of front) None (omega (arith, size-values back k)) ∙ ap (value_at b) e)

pub length-values_of_both : (front back : List ValueRun) → Rises 0 front → Rises 0 back → length (values_of_both front back) ≡ size_of front + size_of back
length-values_of_both front back h k =
    omega (arith, length-append (values_of front) (reverse (values_of back)), length-reverse (values_of back), size-values front h, size-values back k)

pub values_of_both-past : (front back : List ValueRun) (p : ℕ) → Rises 0 front → Rises 0 back → size_of front + size_of back ≤ p → value_at (values_of_both front back) p ≡ None
values_of_both-past front back p h k past = get_or_past (values_of_both front back) p None (omega (arith, length-values_of_both front back h k))

pub some-value : (o : Option ℕ) → is_some o ≡ true → o ≡ None → ⊥
some-value None h e = cc
some-value (Some v) h e = cc

-- after the runs were moved the gap stands at the position, or at the end
pub gap-moved : (front back a b : List ValueRun) (pos : ℕ) → AreMoved front back a b → size_of a + size_of b ≡ size_of front + size_of back → size_of a ≡ min pos (size_of front + size_of back) → GapMoved front back a b pos
gap-moved front back a b pos m size gap = record { same = m.same; at = record { front_rises = m.from_rises; back_rises = m.to_rises; gap = omega (arith, gap, size) }; needs = m.needs; size = size }

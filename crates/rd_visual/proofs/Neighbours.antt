-- Neighbours in a list of ranges.
use Rattle.std.proofs.Common.{◌≡◌, ℕ, ◌+◌, ◌<◌, ◌≤◌, ◌⊎◌, inl, inr, Bool, true, false, cond, if◌then◌else◌, List, [], ◌∷◌, ◌++◌, Option, None, Some, refl, sym, ap, subst, ◌∙◌, append_assoc, arith}
use Rattle.std.specs.Prelude.{reverse}
use Rattle.std.specs.List.{AllByRecursion, count_by}
use Rattle.std.proofs.lemmas.Bool.Decides.{nat_tests}
use Rattle.rd_base.proofs.Lists.{count-append, count-cons}
use Rattle.std.proofs.lemmas.Bool.{cond-false}
use Rattle.std.proofs.lemmas.List.{reverse-append, reverse-reverse}
use Rattle.std.proofs.lemmas.List.Sorted.{IsPermutation-reverse, sum_by-IsPermutation}
use Rattle.rd_matrix.proofs.Passing.{none-here}
use Rattle.rd_visual.specs.Motion.{behind, holds, first, least}
use Rattle.rd_visual.specs.Ways.{beside, opposite}
use Rattle.rd_visual.specs.declared.range.Range.{Range}
use Rattle.rd_visual.specs.declared.way.Way.{Way}
use Rattle.rd_visual.specs.declared.way.Way.TheVariants.{Forward, Backward}

-- what was chosen by a test is its own where the test passed, and else what was left
chosen-either : {X : Type 0} (b : Bool) (x y : X) (rest : Option X) → (if b then Some x else rest) ≡ Some y → ((b ≡ true) × (x ≡ y)) ⊎ ((b ≡ false) × (rest ≡ Some y))
chosen-either true x y rest h = inl (refl, cc)
chosen-either false x y rest h = inr (refl, h)

-- each range has a position
abbrev pub AreSome : List Range → Type 0
AreSome rs = AllByRecursion (λ (r : Range). r.from < r.to) rs

covers-first : (r : Range) → r.from < r.to → holds r.from r ≡ true
covers-first r some = grind (arith, nat_tests)

-- of ranges that have a position each, those behind the first ones have one
pub some-back : (front back : List Range) → AreSome (front ++ back) → AreSome back
some-back [] back some = some
some-back (r ∷ front) back some = some-back front back some.1

-- ranges of which at most one has each position
abbrev pub HoldOnce : List Range → Type 0
HoldOnce rs = (pos : ℕ) → count_by (holds pos) rs ≤ 1

-- of ranges of which at most one has a position: where one has it, those before it and behind it have not
alone : (pos : ℕ) (front : List Range) (r : Range) (back : List Range) → count_by (holds pos) (front ++ (r ∷ back)) ≤ 1 → holds pos r ≡ true → (count_by (holds pos) front ≡ 0) × (count_by (holds pos) back ≡ 0)
alone pos front r back few here =
    let all = count-append (holds pos) front (r ∷ back) in
    let e = count-cons (holds pos) r back ∙ ap (λ (t : Bool). cond t 1 0 + count_by (holds pos) back) here in
    (omega (arith, few, all, e), omega (arith, few, all, e))

pub behind-skip : (pos : ℕ) (r : Range) (rs : List Range) → holds pos r ≡ false → behind pos (r ∷ rs) ≡ behind pos rs
behind-skip pos r [] h = refl
behind-skip pos r (next ∷ rs) h = cond-false (holds pos r) (Some next.from) (behind pos (next ∷ rs)) h

pub behind-front : (pos : ℕ) (front rs : List Range) → count_by (holds pos) front ≡ 0 → behind pos (front ++ rs) ≡ behind pos rs
behind-front pos [] rs none = refl
behind-front pos (r ∷ front) rs none =
    let both = none-here (holds pos) r front none in
    behind-skip pos r (front ++ rs) both.0 ∙ behind-front pos front rs both.1

behind-is : (pos : ℕ) (front : List Range) (r next : Range) (back : List Range) → count_by (holds pos) (front ++ (r ∷ next ∷ back)) ≤ 1 → holds pos r ≡ true → behind pos (front ++ (r ∷ next ∷ back)) ≡ Some next.from
behind-is pos front r next back few here =
    behind-front pos front (r ∷ next ∷ back) (alone pos front r (next ∷ back) few here).0 ∙ ap (λ (t : Bool). if t then Some next.from else behind pos (next ∷ back)) here

least-front : (pos : ℕ) (front rs : List Range) → count_by (holds pos) front ≡ 0 → least pos (front ++ rs) ≡ least pos rs
least-front pos [] rs none = refl
least-front pos (r ∷ front) rs none =
    let both = none-here (holds pos) r front none in
    cond-false (holds pos r) (Some r.from) (least pos (front ++ rs)) both.0 ∙ least-front pos front rs both.1

least-is : (pos : ℕ) (front : List Range) (r : Range) (back : List Range) → count_by (holds pos) (front ++ (r ∷ back)) ≤ 1 → holds pos r ≡ true → least pos (front ++ (r ∷ back)) ≡ Some r.from
least-is pos front r back few here =
    least-front pos front (r ∷ back) (alone pos front r back few here).0 ∙ ap (λ (t : Bool). if t then Some r.from else least pos back) here

-- ranges that are turned round

pub count-reverse : (pos : ℕ) (rs : List Range) → count_by (holds pos) (reverse rs) ≡ count_by (holds pos) rs
count-reverse pos rs = sum_by-IsPermutation (λ (r : Range). cond (holds pos r) 1 0) rs (reverse rs) (IsPermutation-reverse rs)

reverse-seam : (front : List Range) (r : Range) (back : List Range) → reverse (front ++ (r ∷ back)) ≡ reverse back ++ (r ∷ reverse front)
reverse-seam front r back =
    reverse-append front (r ∷ back) ∙ ap (λ (rs : List Range). rs ++ reverse front) (reverse-append (r ∷ []) back) ∙ append_assoc (reverse back) (r ∷ []) (reverse front)

reverse-two : (front : List Range) (r next : Range) (back : List Range) → reverse (front ++ (r ∷ next ∷ back)) ≡ reverse back ++ (next ∷ r ∷ reverse front)
reverse-two front r next back =
    reverse-seam front r (next ∷ back) ∙ ap (λ (rs : List Range). rs ++ (r ∷ reverse front)) (reverse-append (next ∷ []) back) ∙ append_assoc (reverse back) (next ∷ []) (r ∷ reverse front)

-- a step there and a step back

-- the range that has a position, and the one behind it, which begins at another
record Neighbours (pos q : ℕ) (rs : List Range) : Type 0 where
  front : List Range
  r : Range
  next : Range
  back : List Range
  whole : rs ≡ front ++ (r ∷ next ∷ back)
  here : holds pos r ≡ true
  is : next.from ≡ q

neighbours : (pos q : ℕ) (rs : List Range) → behind pos rs ≡ Some q → Neighbours pos q rs
neighbours pos q [] h = absurd cc
neighbours pos q (r ∷ []) h = absurd cc
neighbours pos q (r ∷ next ∷ rs) h = elim (chosen-either (holds pos r) next.from q (behind pos (next ∷ rs)) h) [
  | inl here ↦ record { front = []; r = r; next = next; back = rs; whole = refl; here = here.0; is = here.1 }
  | inr later ↦
      let n = neighbours pos q (next ∷ rs) later.1 in
      record { front = r ∷ n.front; r = n.r; next = n.next; back = n.back; whole = ap (λ (xs : List Range). r ∷ xs) n.whole; here = n.here; is = n.is }
]

back-to : (pos q : ℕ) (rs : List Range) → HoldOnce rs → (n : Neighbours pos q rs) → n.next.from < n.next.to → behind q (reverse rs) ≡ Some n.r.from
back-to pos q rs once n some =
    let own : holds q n.next ≡ true = subst (λ (k : ℕ). holds k n.next ≡ true) n.is (covers-first n.next some) in
    let e = ap reverse n.whole ∙ reverse-two n.front n.r n.next n.back in
    let few = subst (λ (xs : List Range). count_by (holds q) xs ≤ 1) e (subst (λ (k : ℕ). k ≤ 1) (sym (count-reverse q rs)) (once q)) in
    ap (behind q) e ∙ behind-is q (reverse n.back) n.next n.r (reverse n.front) few own

pub back-again : (way : Way) (pos q : ℕ) (rs : List Range) → AreSome rs → HoldOnce rs → beside way pos rs ≡ Some q → beside (opposite way) q rs ≡ least pos rs
back-again Forward pos q rs some once h =
    let n = neighbours pos q rs h in
    let tail = some-back n.front (n.r ∷ n.next ∷ n.back) (subst AreSome n.whole some) in
    back-to pos q rs once n tail.1.0
    ∙ sym (ap (least pos) n.whole ∙ least-is pos n.front n.r (n.next ∷ n.back) (subst (λ (xs : List Range). count_by (holds pos) xs ≤ 1) n.whole (once pos)) n.here)
back-again Backward pos q rs some once h =
    let n = neighbours pos q (reverse rs) h in
    let e : rs ≡ reverse (n.front ++ (n.r ∷ n.next ∷ n.back)) = sym (reverse-reverse rs) ∙ ap reverse n.whole in
    let seam = e ∙ reverse-seam n.front n.r (n.next ∷ n.back) in
    let tail = some-back (reverse n.back) (n.next ∷ n.r ∷ reverse n.front) (subst AreSome (e ∙ reverse-two n.front n.r n.next n.back) some) in
    ap (behind q) (sym (reverse-reverse rs)) ∙ back-to pos q (reverse rs) (λ p. subst (λ (k : ℕ). k ≤ 1) (sym (count-reverse p rs)) (once p)) n tail.0
    ∙ sym (ap (least pos) seam ∙ least-is pos (reverse (n.next ∷ n.back)) n.r (reverse n.front) (subst (λ (xs : List Range). count_by (holds pos) xs ≤ 1) seam (once pos)) n.here)

-- seams: the ranges of earlier blocks, of one block, and of later ones

some-by : (b : Bool) (q : ℕ) (next : Range) (found more : Option ℕ) → (if b then Some next.from else found) ≡ Some q → (found ≡ Some q → more ≡ Some q) → (if b then Some next.from else more) ≡ Some q
some-by true q next found more h later = h
some-by false q next found more h later = later h

pub behind-some : (pos q : ℕ) (rs back : List Range) → behind pos rs ≡ Some q → behind pos (rs ++ back) ≡ Some q
behind-some pos q [] back h = absurd cc
behind-some pos q (r ∷ []) back h = absurd cc
behind-some pos q (r ∷ next ∷ rs) back h =
    some-by (holds pos r) q next (behind pos (next ∷ rs)) (behind pos (next ∷ rs ++ back)) h (λ e. behind-some pos q (next ∷ rs) back e)

last-holds : (b : Bool) → 1 ≤ cond b 1 0 + 0 → b ≡ true
last-holds true h = refl
last-holds false h = absurd (omega (arith, h))

behind-end : (pos : ℕ) (r : Range) (back : List Range) → holds pos r ≡ true → behind pos (r ∷ back) ≡ first back
behind-end pos r [] h = refl
behind-end pos r (next ∷ back) h = ap (λ (t : Bool). if t then Some next.from else behind pos (next ∷ back)) h

none-there : (b : Bool) (pos : ℕ) (next : Range) (n : ℕ) (found more there : Option ℕ) → (if b then Some next.from else found) ≡ None → 1 ≤ cond b 1 0 + n
    → (found ≡ None → 1 ≤ n → more ≡ there) → (if b then Some next.from else more) ≡ there
none-there true pos next n found more there h some later = absurd cc
none-there false pos next n found more there h some later = later h (omega (arith, some))

pub behind-none : (pos : ℕ) (rs back : List Range) → behind pos rs ≡ None → 1 ≤ count_by (holds pos) rs → behind pos (rs ++ back) ≡ first back
behind-none pos [] back h some = absurd (omega (arith, some))
behind-none pos (r ∷ []) back h some =
    let e = count-cons (holds pos) r [] in
    behind-end pos r back (last-holds (holds pos r) (omega (arith, e, some)))
behind-none pos (r ∷ next ∷ rs) back h some =
    let e = count-cons (holds pos) r (next ∷ rs) in
    none-there (holds pos r) pos next (count_by (holds pos) (next ∷ rs)) (behind pos (next ∷ rs)) (behind pos (next ∷ rs ++ back)) (first back) h (omega (arith, e, some))
    (λ g more. behind-none pos (next ∷ rs) back g more)

-- the first of ranges of several blocks
pub first-append : (xs ys : List Range) (pos : ℕ) → 1 ≤ count_by (holds pos) xs → first (xs ++ ys) ≡ first xs
first-append [] ys pos some = absurd (omega (arith, some))
first-append (x ∷ xs) ys pos some = refl

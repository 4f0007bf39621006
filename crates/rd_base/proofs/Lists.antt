-- What holds of each element of a list, and what a list is from one of its places.
use Rattle.std.proofs.Common.{◌≡◌, ◌≢◌, ◌⊎◌, ℕ, zero, suc, ◌+◌, ◌-◌, ◌<◌, ◌≤◌, ◌==◌, Bool, true, false, not, ◌||◌, List, [], ◌∷◌, ◌++◌, length, append_assoc, length-append, length-drop, take, drop, get_or, Option, None, Some, is_some, inl, inr, All, refl, sym, subst, ap, ap₂, cond, ◌∙◌, arith, map, min, set}
use Rattle.std.specs.Prelude.{IfSome, slice_get, slice_range}
use Rattle.std.specs.Option.{unwrap_or}
use Rattle.std.specs.List.{AllByRecursion, count_by, find, last_or, list_any, position_or_len, range_with_len}
use Rattle.std.proofs.lemmas.Bool.{cases_lt, ne_eqb}
use Rattle.std.proofs.lemmas.Bool.Decides.{nat_tests}
use Rattle.std.proofs.lemmas.List.{length-take, map_push, get_or_append_left, get_or_past, drop_more, drop_all, drop-set-lt, drop-drop, drop-take, take_more, take_more_set}
use Rattle.std.proofs.lemmas.List.Folds.{find_at}
use Rattle.std.proofs.lemmas.List.Sums.{passes_at_first, sum_by-append, sum_by-cons}
use Rattle.std.proofs.Math.Seq.{drop-append_seam}
use Rattle.std.proofs.lemmas.List.Elements.{All-drop, All-cons, All-nil}
use Rattle.std.proofs.lemmas.Option.{slice_get-map, slice_get_within, slice_get_cases, get_or_from_slice_get, unwrap_or-slice_get}
use Rattle.rd_base.specs.Lists.{Follow, is_between, total}
use Rattle.rd_base.proofs.Choices.{if-value, map-some, none-of}

-- equal lists have equal heads and equal rests
pub heads : {X : Type 0} {x y : X} {xs ys : List X} → x ∷ xs ≡ y ∷ ys → (x ≡ y) × (xs ≡ ys)
heads h = (cc, cc)

-- what is read at a place heads what is left there
pub drop-read : {X : Type 0} (xs : List X) (i : ℕ) (x : X) → i < length xs → x ≡ get_or xs i x → drop i xs ≡ x ∷ drop (i + 1) xs
drop-read xs i x inside here = drop_more xs i x inside ∙ ap (λ y. y ∷ drop (i + 1) xs) (sym here)

pub drop-at : {X : Type 0} (xs : List X) (i : ℕ) (x : X) → slice_get xs i ≡ Some x → drop i xs ≡ x ∷ drop (i + 1) xs
drop-at xs i x found = drop-read xs i x (slice_get_within xs i x found) (sym (get_or_from_slice_get xs i x x found))

-- the elements up to one at a place, with it, are those before it and that one
pub take-at : {X : Type 0} (xs : List X) (i : ℕ) (x : X) → slice_get xs i ≡ Some x → take (i + 1) xs ≡ take i xs ++ x ∷ []
take-at xs i x found = take_more xs i x (slice_get_within xs i x found) ∙ ap (λ y. take i xs ++ y ∷ []) (get_or_from_slice_get xs i x x found)

-- what is done and what is left, after one more write
pub written : {X : Type 0} (xs : List X) (i : ℕ) (y : X) (rest all : List X) → i < length xs
    → take i xs ++ y ∷ rest ≡ all → take (i + 1) (set xs i y) ++ rest ≡ all
written xs i y rest all within same =
    ap (λ front. front ++ rest) (take_more_set xs i y within) ∙ append_assoc (take i xs) (y ∷ []) rest ∙ same

-- one element more of a mapped list
pub mapped-more : {X Y : Type 0} (f : X → Y) (xs : List X) (k : ℕ) (x : X) (old now new : List Y) (y : Y) → slice_get xs k ≡ Some x → y ≡ f x
    → now ≡ old ++ map f (take k xs) → new ≡ now ++ y ∷ [] → new ≡ old ++ map f (take (k + 1) xs)
mapped-more f xs k x old now new y at is before pushed =
    pushed ∙ (λ i. before i ++ is i ∷ []) ∙ append_assoc old (map f (take k xs)) (f x ∷ [])
    ∙ ap (λ ys. old ++ ys) (sym (ap (map f) (take-at xs k x at) ∙ map_push f (take k xs) x))

-- where a list has no element it has ended
pub ended : {X : Type 0} (xs : List X) (i : ℕ) → slice_get xs i ≡ None → length xs ≤ i
ended xs i none = elim (slice_get_cases xs i).1 [
  | inl p ↦ absurd (let k : Some p.0 ≡ None = sym p.2 ∙ none in cc)
  | inr p ↦ p.0
]

pub none-left : {X : Type 0} (xs : List X) (i : ℕ) → slice_get xs i ≡ None → drop i xs ≡ []
none-left xs i none = drop_all i xs (ended xs i none)

-- the last element is the one at the last place
pub last-read : {X : Type 0} (xs : List X) → slice_get xs (length xs - 1) ≡ last_or None xs
last-read [] = refl
last-read (x ∷ []) = refl
last-read (x ∷ y ∷ ys) =
    let e : length (x ∷ y ∷ ys) - 1 ≡ suc (length (y ∷ ys) - 1) = omega arith in
    ap (slice_get (x ∷ y ∷ ys)) e ∙ last-read (y ∷ ys)

-- what stands at a place of two lists that are joined
pub get-first : {X : Type 0} (xs ys : List X) (i : ℕ) → i < length xs → slice_get (xs ++ ys) i ≡ slice_get xs i
get-first [] ys i p = absurd (omega arith)
get-first (x ∷ xs) ys zero p = refl
get-first (x ∷ xs) ys (suc i) p = get-first xs ys i (omega arith)

pub get-second : {X : Type 0} (xs ys : List X) (i j : ℕ) → i ≡ length xs + j → slice_get (xs ++ ys) i ≡ slice_get ys j
get-second [] ys i j e = let s : i ≡ j = omega arith in ap (slice_get ys) s
get-second (x ∷ xs) ys zero j e = absurd (omega arith)
get-second (x ∷ xs) ys (suc i) j e = get-second xs ys i j (omega arith)

-- what stands at a place of a list's first part stands there in the list
pub get-take : {X : Type 0} (n : ℕ) (xs : List X) (i : ℕ) → i < n → slice_get (take n xs) i ≡ slice_get xs i
get-take zero xs i p = absurd (omega arith)
get-take (suc n) [] i p = refl
get-take (suc n) (x ∷ xs) zero p = refl
get-take (suc n) (x ∷ xs) (suc i) p = get-take n xs i (omega arith)

pub get-drop : {X : Type 0} (n : ℕ) (xs : List X) (i j : ℕ) → i ≡ n + j → slice_get (drop n xs) j ≡ slice_get xs i
get-drop zero xs i j e = let s : j ≡ i = omega arith in ap (slice_get xs) s
get-drop (suc n) [] i j e = refl
get-drop (suc n) (x ∷ xs) zero j e = absurd (omega arith)
get-drop (suc n) (x ∷ xs) (suc i) j e = get-drop n xs i j (omega arith)

-- what stands at a place of a mapped list was made of what stands there
pub get-map : {X Y : Type 0} (f : X → Y) (xs : List X) (i : ℕ) (y : Y) → slice_get (map f xs) i ≡ Some y → (x : X) × (slice_get xs i ≡ Some x) × (f x ≡ y)
get-map f xs i y h = map-some f (slice_get xs i) y (sym (slice_get-map f xs i) ∙ h)

-- how long a list is of which the part from a place up to another gives way to a new one
pub length-replaced : {X : Type 0} (from end : ℕ) (new xs : List X)
    → length (take from xs ++ (new ++ drop end xs)) ≡ min from (length xs) + length new + (length xs - end)
length-replaced from end new xs =
    length-append (take from xs) (new ++ drop end xs)
    ∙ omega (arith, length-take from xs, length-append new (drop end xs), length-drop end xs)

-- what heads the rest from a place stands there
pub drop-cons : {X : Type 0} (xs : List X) (a : ℕ) (x : X) (rest : List X) → drop a xs ≡ x ∷ rest → (slice_get xs a ≡ Some x) × (drop (a + 1) xs ≡ rest)
drop-cons {X} xs a x rest e = (sym (get-drop a xs a 0 (omega arith)) ∙ ap (λ (l : List X). slice_get l 0) e, sym (drop-drop 1 a xs) ∙ ap (drop 1) e)

-- a range from a later place on
pub range-from : (xs : List ℕ) (a n b : ℕ) → n ≤ b - a → slice_range xs (a + n) b ≡ drop n (slice_range xs a b)
range-from xs a n b within =
    let size : b - a ≡ n + (b - (a + n)) = omega arith in
    sym (ap (λ (k : ℕ). drop n (take k (drop a xs))) size ∙ drop-take n (b - (a + n)) (drop a xs) ∙ ap (take (b - (a + n))) (drop-drop n a xs))

-- the element at a place that lies within
pub element-at : {X : Type 0} (xs : List X) (i : ℕ) → i < length xs → (x : X) × (slice_get xs i ≡ Some x)
element-at [] i low = absurd (omega (arith, low))
element-at (x ∷ xs) zero low = (x, refl)
element-at (x ∷ xs) (suc i) low = element-at xs i (omega (arith, low))

-- of two lists put together, the first element of the second stands at the length of the first
pub at-seam : {X : Type 0} (xs : List X) (y : X) (ys : List X) → slice_get (xs ++ y ∷ ys) (length xs) ≡ Some y
at-seam [] y ys = refl
at-seam (x ∷ xs) y ys = at-seam xs y ys

-- behind a place that is written all is as it was
pub drop-next : {X : Type 0} (xs whole : List X) (i : ℕ) (x : X) → drop i xs ≡ drop i whole → drop (i + 1) (set xs i x) ≡ drop (i + 1) whole
drop-next xs whole i x same = drop-set-lt (i + 1) xs i x (omega arith) ∙ sym (drop-drop 1 i xs) ∙ ap (drop 1) same ∙ drop-drop 1 i whole

-- what stands at a place of a list after a write
pub get-set : {X : Type 0} (xs : List X) (i k : ℕ) (c b : X) → slice_get (set xs i c) k ≡ Some b
    → ((k ≡ i) × (b ≡ c)) ⊎ ((k ≢ i) × (slice_get xs k ≡ Some b))
get-set [] i k c b h = absurd (cc)
get-set (x ∷ xs) zero zero c b h = inl (refl, cc)
get-set (x ∷ xs) zero (suc k) c b h = inr (λ e. absurd (omega arith), h)
get-set (x ∷ xs) (suc i) zero c b h = inr (λ e. absurd (omega arith), h)
get-set (x ∷ xs) (suc i) (suc k) c b h = elim (get-set xs i k c b h) [
  | inl p ↦ inl (ap suc p.0, p.1)
  | inr p ↦ inr (λ e. p.0 (omega arith), p.1)
]

-- what stands at a place of a list with one element more at its end
pub get-end : {X : Type 0} (xs : List X) (y : X) (k : ℕ) (b : X) → slice_get (xs ++ y ∷ []) k ≡ Some b → (slice_get xs k ≡ Some b) ⊎ ((k ≡ length xs) × (b ≡ y))
get-end [] y zero b h = inr (refl, cc)
get-end [] y (suc k) b h = absurd (cc)
get-end (x ∷ xs) y zero b h = inl h
get-end (x ∷ xs) y (suc k) b h = elim (get-end xs y k b h) [
  | inl p ↦ inl p
  | inr p ↦ inr (omega (arith, p.0), p.1)
]

-- what holds of what stands at a place, and of what is written where it is that place, holds of what stands there after the write
pub read-set : {X : Type 0} (P : Option X → Type 0) (xs : List X) (i k : ℕ) (x : X) → (k ≡ i → P (Some x)) → P (slice_get xs k) → P (slice_get (set xs i x) k)
read-set P [] i k x new old = old
read-set P (y ∷ xs) zero zero x new old = new refl
read-set P (y ∷ xs) zero (suc k) x new old = old
read-set P (y ∷ xs) (suc i) zero x new old = old
read-set P (y ∷ xs) (suc i) (suc k) x new old = read-set P xs i k x (λ e. new (ap suc e)) old

-- what holds of what is read at a place, where an element stands in for none, and of what is written, holds of what is read after the write
pub read-or : {X : Type 0} (P : X → Type 0) (xs : List X) (i k : ℕ) (x d : X) → (k ≡ i → P x) → P (get_or xs k d) → P (get_or (set xs i x) k d)
read-or P xs i k x d new old =
    subst P (unwrap_or-slice_get (set xs i x) k d)
    (read-set (λ s. P (unwrap_or s d)) xs i k x new (subst P (sym (unwrap_or-slice_get xs k d)) old))

-- what is found passes, and is an element
pub found-passes : {X : Type 0} (p : X → Bool) (xs : List X) (x : X) → find p xs ≡ Some x → (p x ≡ true) × (k : ℕ) × (slice_get xs k ≡ Some x)
found-passes p xs x found =
    let k = position_or_len p xs in
    let there : slice_get xs k ≡ Some x = sym (find_at p xs) ∙ found in
    (sym (ap p (get_or_from_slice_get xs k x x there)) ∙ passes_at_first p xs x (slice_get_within xs k x there), k, there)

-- something is found where an element passes
pub is_some-found : {X : Type 0} (p : X → Bool) (xs : List X) → is_some (find p xs) ≡ list_any p xs
is_some-found p [] = refl
is_some-found p (x ∷ xs) = elim (p x) as (λ b. is_some (cond b (Some x) (find p xs)) ≡ (b || list_any p xs)) [ true ↦ refl | false ↦ is_some-found p xs ]

pub none-found : {X : Type 0} (p : X → Bool) (xs : List X) → list_any p xs ≡ false → find p xs ≡ None
none-found p xs none = none-of (find p xs) (is_some-found p xs ∙ none)

-- how many elements pass a test
pub count-cons : {X : Type 0} (p : X → Bool) (x : X) (xs : List X) → count_by p (x ∷ xs) ≡ cond (p x) 1 0 + count_by p xs
count-cons p x xs = sum_by-cons (λ y. cond (p y) 1 0) x xs

-- nothing is counted where no element passes
counted : (first : Bool) (n : ℕ) (any : Bool) → (n == 0) ≡ not any → (cond first 1 0 + n == 0) ≡ not (first || any)
counted true n any e = ne_eqb (1 + n) 0 (λ h. absurd (omega arith))
counted false n any e = (let z : 0 + n ≡ n = omega arith in ap (λ (m : ℕ). m == 0) z) ∙ e

pub none_counted : {X : Type 0} (p : X → Bool) (xs : List X) → (count_by p xs == 0) ≡ not (list_any p xs)
none_counted p [] = refl
none_counted p (x ∷ xs) = ap (λ (n : ℕ). n == 0) (count-cons p x xs) ∙ counted (p x) (count_by p xs) (list_any p xs) (none_counted p xs)

pub count-append : {X : Type 0} (p : X → Bool) (xs ys : List X) → count_by p (xs ++ ys) ≡ count_by p xs + count_by p ys
count-append p xs ys = sum_by-append (λ x. cond (p x) 1 0) xs ys

-- the sum over two lists that are joined is that over the one and that over the other
pub total-append : {X : Type 0} (f : X → ℕ) (xs ys : List X) → total f (xs ++ ys) ≡ total f xs + total f ys
total-append f [] ys = omega arith
total-append f (x ∷ xs) ys = omega (arith, total-append f xs ys)

-- a sum of ones is how many elements there are
pub total-ones : {X : Type 0} (xs : List X) → total (λ _. 1) xs ≡ length xs
total-ones [] = refl
total-ones (x ∷ xs) = omega (arith, total-ones xs)

-- an empty stretch has no place
pub between-empty : (pos from to : ℕ) → from ≡ to → is_between from to pos ≡ false
between-empty pos from to same = grind (arith, nat_tests)

-- a place lies in a stretch exactly where it lies in one of the two parts that the stretch is cut into, and in both it never lies
pub between-apart : (pos from mid to : ℕ) → from ≤ mid → mid ≤ to → cond (is_between from mid pos) 1 0 + cond (is_between mid to pos) 1 0 ≡ cond (is_between from to pos) 1 0
between-apart pos from mid to low high = grind (arith, nat_tests)

-- stretches that stand one behind the other hold each place between once, and no other; an element's goes from its start up to its end
module _ {X : Type 0} (start end : X → ℕ) where
  pub follow-once : (pos from to : ℕ) (xs : List X) → Follow start end from to xs → (from ≤ to) × (count_by (λ x. is_between (start x) (end x) pos) xs ≡ cond (is_between from to pos) 1 0)
  follow-once pos from to [] ends = (omega (arith, ends), ap (λ (b : Bool). cond b 1 0) (sym (between-empty pos from to ends)))
  follow-once pos from to (x ∷ xs) (inl none) =
      let rest = follow-once pos from to xs none.1 in
      let all = count-cons (λ x. is_between (start x) (end x) pos) x xs ∙ ap₂ (λ (b : Bool) (n : ℕ). cond b 1 0 + n) (between-empty pos (start x) (end x) none.0) rest.1 in
      (rest.0, omega (arith, all))
  follow-once pos from to (x ∷ xs) (inr next) =
      let some = next.1 in
      let rest = follow-once pos (end x) to xs next.2 in
      let order = rest.0 in (
        omega (arith, some, order),
        count-cons (λ x. is_between (start x) (end x) pos) x xs
            ∙ ap₂ (λ (n m : ℕ). cond (is_between n (end x) pos) 1 0 + m) next.0 rest.1
            ∙ between-apart pos from (end x) to (omega (arith, some)) order,
      )

-- numbers in a row, in two parts
pub range-split : (a m n : ℕ) → range_with_len a (m + n) ≡ range_with_len a m ++ range_with_len (a + m) n
range-split a zero n =
    let none : 0 + n ≡ n = omega arith in
    let same : a ≡ a + 0 = omega arith in
    ap (range_with_len a) none ∙ ap (λ (k : ℕ). range_with_len k n) same
range-split a (suc m) n =
    let more : suc m + n ≡ suc (m + n) = omega arith in
    let same : a + 1 + m ≡ a + suc m = omega arith in
    ap (range_with_len a) more
    ∙ ap (λ (ks : List ℕ). a ∷ ks) (range-split (a + 1) m n ∙ ap (λ (k : ℕ). range_with_len (a + 1) m ++ range_with_len k n) same)

-- a range of numbers with one number more
pub range-more : (a n m : ℕ) → m ≡ a + n → range_with_len a n ++ m ∷ [] ≡ range_with_len a (n + 1)
range-more a n m same = ap (λ (k : ℕ). range_with_len a n ++ k ∷ []) same ∙ sym (range-split a n 1)

-- the numbers are below each that the last is below
pub range-below : (a n m : ℕ) → a + n ≤ m → AllByRecursion (λ (k : ℕ). k < m) (range_with_len a n)
range-below a zero m few = tt
range-below a (suc n) m few = (omega arith, range-below (a + 1) n m (omega arith))

-- what holds of all holds of the one at a place
pub all-at : {X : Type 0} (P : X → Type 0) (xs : List X) (i : ℕ) (x : X) → All P xs → slice_get xs i ≡ Some x → P x
all-at P xs i x all found = subst P (get_or_from_slice_get xs i x x found) (all i x (slice_get_within xs i x found))

-- what holds of all elements holds of the one that a search finds
pub found-each : {X : Type 0} (P : X → Type 0) (p : X → Bool) (xs : List X) → All P xs → IfSome (find p xs) P
found-each P p xs all = if-value P (find p xs) (λ x e. let at = found-passes p xs x e in all-at P xs at.1 x all at.2)

-- what holds of all elements, and of what stands in for one, holds of what is read at a place
pub all-read : {X : Type 0} (P : X → Type 0) (xs : List X) (i : ℕ) (d : X) → All P xs → P d → P (get_or xs i d)
all-read P xs i d all that = elim (cases_lt i (length xs)) as (λ _. P (get_or xs i d)) [
  | inl inside ↦ all i d inside
  | inr past ↦ subst P (sym (get_or_past xs i d past)) that
]

pub all-one : {X : Type 0} (P : X → Type 0) (x : X) → P x → All P (x ∷ [])
all-one P x holds = All-cons P x [] holds (All-nil P)

pub all-front : {X : Type 0} (P : X → Type 0) (xs ys : List X) → All P (xs ++ ys) → All P xs
all-front P xs ys all k d below =
    let size = length-append xs ys in
    subst P (get_or_append_left xs ys d k below) (all k d (omega (arith, size, below)))

pub all-back : {X : Type 0} (P : X → Type 0) (xs ys : List X) → All P (xs ++ ys) → All P ys
all-back P xs ys all = subst (All P) (drop-append_seam xs ys) (All-drop P (length xs) (xs ++ ys) all)

-- what holds of each element of two lists, gone through from the front, holds of each of both joined, and of each of a part
pub each-append : {X : Type 0} (P : X → Type 0) (xs ys : List X) → AllByRecursion P xs → AllByRecursion P ys → AllByRecursion P (xs ++ ys)
each-append P [] ys these those = those
each-append P (x ∷ xs) ys these those = (these.0, each-append P xs ys these.1 those)

pub each-take : {X : Type 0} (P : X → Type 0) (n : ℕ) (xs : List X) → AllByRecursion P xs → AllByRecursion P (take n xs)
each-take P zero xs all = tt
each-take P (suc n) [] all = tt
each-take P (suc n) (x ∷ xs) all = (all.0, each-take P n xs all.1)

pub each-drop : {X : Type 0} (P : X → Type 0) (n : ℕ) (xs : List X) → AllByRecursion P xs → AllByRecursion P (drop n xs)
each-drop P zero xs all = all
each-drop P (suc n) [] all = tt
each-drop P (suc n) (x ∷ xs) all = each-drop P n xs all.1

-- what holds of each where another thing holds of it
pub each-weaker : {X : Type 0} (P Q : X → Type 0) → ((x : X) → P x → Q x) → (xs : List X) → AllByRecursion P xs → AllByRecursion Q xs
each-weaker P Q f [] h = tt
each-weaker P Q f (x ∷ xs) h = (f x h.0, each-weaker P Q f xs h.1)

-- What was found, once it is sorted, is the listing; and what a listing holds.
use Rattle.std.proofs.Common.{◌≡◌, ℕ, suc, ◌<◌, ◌≤◌, Bool, true, false, not, ◌&&◌, if◌then◌else◌, List, [], ◌∷◌, ◌++◌, length, drop, replicate, ◌+◌, ◌-◌, Option, None, Some, refl, sym, ap, ◌∙◌, arith, append-nil, length-append, true≢false}
use Rattle.std.specs.Prelude.{nat_lt}
use Rattle.std.specs.List.{AllByRecursion, filter, sum_by, range_with_len}
use Rattle.std.specs.Option.{unwrap_or}
use Rattle.std.specs.List.Sorted.{ties, IsSortedBy, IsPermutation}
use Rattle.std.specs.Ordering.{is_lt, ordering_then, ordering_reverse, int_cmp, nat_cmp}
use Rattle.std.specs.declared.cmp.Ordering.{Ordering}
use Rattle.std.specs.declared.cmp.Ordering.TheVariants.{Less, Equal, Greater}
use Rattle.std.specs.Cmp.{IsStrictWeakOrder, IsTotalOrder}
use Rattle.std.proofs.lemmas.Cmp.{int_cmp_total, nat_cmp_total, then_total, int_ranked}
use Rattle.std.specs.Cmp.{on_total}
use Rattle.std.proofs.lemmas.Bool.{and_parts, not-true}
use Rattle.std.proofs.lemmas.Bool.Decides.{nat_tests}
use Rattle.std.proofs.lemmas.List.Elements.{filter-append}
use Rattle.std.proofs.lemmas.List.Sorted.{ranks_by, sum_by-IsPermutation}
use Rattle.std.proofs.lemmas.List.Sums.{sum_by-cons}
use Rattle.rd_base.proofs.Choices.{either}
use Rattle.rd_base.proofs.Lists.{each-weaker, drop-cons}
use Rattle.rd_overlays.specs.declared.overlay.Overlay.{Overlay}
use Rattle.rd_overlays.specs.declared.listing.Rank.{Rank}
use Rattle.rd_overlays.specs.Overlays.{overlay_at, precedes, placed, with_slot, ranked_from}
use Rattle.rd_overlays.specs.Listings.{rank_of, rank_at, found_from, found_in}
use Rattle.rd_overlays.specs.Bounds.{whole_order}
use Rattle.rd_overlays.proofs.Passing.{whole_order-whole}
use Rattle.rd_overlays.proofs.Sorting.{AllAfter, Rises, rises-never_falls, sorted-never_falls, unique}

order : IsTotalOrder (λ (a b : Rank). ordering_then (int_cmp a.priority b.priority) (nat_cmp a.number b.number))
order = then_total (on_total (λ (r : Rank). r.priority) int_cmp_total) (on_total (λ (r : Rank). r.number) nat_cmp_total)

pub weak : IsStrictWeakOrder precedes
weak = ranks_by order (λ (r : Rank). r)

by_number : (c : Ordering) (n m : ℕ) → n < m → is_lt (ordering_then c (nat_cmp m n)) ≡ false → is_lt (ordering_then (ordering_reverse c) (nat_cmp n m)) ≡ true
by_number Less n m p e = absurd (true≢false e)
by_number Equal n m p e = grind (arith, nat_tests)
by_number Greater n m p e = refl

apart : (r s : Rank) → r.number < s.number → precedes s r ≡ false → precedes r s ≡ true
apart r s p e =
    ap (λ (c : Ordering). is_lt (ordering_then c (nat_cmp r.number s.number))) (int_cmp_total.antisymm r.priority s.priority)
    ∙ by_number (int_cmp s.priority r.priority) r.number s.number p e

-- what holds of putting a rank first, and still holds behind one more, holds of placing it
pub placed-by : (P : List Rank → List Rank → Type 0) (r : Rank) → ((rs : List Rank) → P rs (r ∷ rs))
    → ((s : Rank) (ss new : List Rank) → P ss new → P (s ∷ ss) (s ∷ new)) → (rs : List Rank) → P rs (placed r rs)
placed-by P r first behind [] = first []
placed-by P r first behind (s ∷ ss) =
    either (P (s ∷ ss)) (precedes s r) _ _ (behind s ss (placed r ss) (placed-by P r first behind ss)) (first (s ∷ ss))

-- what each rank has, one more included where it is placed
each-placed : (P : Rank → Type 0) (r : Rank) (rs : List Rank) → P r → AllByRecursion P rs → AllByRecursion P (placed r rs)
each-placed P r rs p =
    placed-by (λ old new. AllByRecursion P old → AllByRecursion P new) r (λ ss h. (p, h)) (λ s ss new keeps h. (h.0, keeps h.1)) rs

each-slot : (P : Rank → Type 0) (r : Rank) (rs : List Rank) (b : Bool) → (b ≡ true → P r) → AllByRecursion P rs → AllByRecursion P (if b then placed r rs else rs)
each-slot P r rs true p h = each-placed P r rs (p refl) h
each-slot P r rs false p h = h

-- the overlay of a rank stands at its number, counted from the given one, passes the test and has its priority
pub record Stands (test : Overlay → Bool) (n : ℕ) (slots : List (Option Overlay)) (r : Rank) : Type 0 where
  pub overlay : Overlay
  pub from : n ≤ r.number
  pub at : overlay_at slots (r.number - n) ≡ Some overlay
  pub passes : test overlay ≡ true
  pub priority : r.priority ≡ overlay.priority

later : (test : Overlay → Bool) (n : ℕ) (slot : Option Overlay) (slots : List (Option Overlay)) (r : Rank) → Stands test (suc n) slots r → Stands test n (slot ∷ slots) r
later test n slot slots r s =
    let from = s.from in
    let e : r.number - n ≡ suc (r.number - suc n) = omega arith in
    record {
      overlay = s.overlay;
      from = omega arith;
      at = ap (overlay_at (slot ∷ slots)) e ∙ s.at;
      passes = s.passes;
      priority = s.priority;
    }

here : (test : Overlay → Bool) (n : ℕ) (o : Overlay) (slots : List (Option Overlay)) → test o ≡ true → Stands test n (Some o ∷ slots) (rank_of n o)
here test n o slots p =
    let e : n - n ≡ 0 = omega arith in
    record {
      overlay = o;
      from = omega arith;
      at = ap (overlay_at (Some o ∷ slots)) e;
      passes = p;
      priority = refl;
    }

pub ranked-stand : (test : Overlay → Bool) (n : ℕ) (slots : List (Option Overlay)) → AllByRecursion (Stands test n slots) (ranked_from test n slots)
ranked-stand test n [] = tt
ranked-stand test n (slot ∷ slots) =
    with-slot slot (each-weaker (Stands test (suc n) slots) (Stands test n (slot ∷ slots)) (later test n slot slots) (ranked_from test (suc n) slots) (ranked-stand test (suc n) slots)) where
      with-slot : (slot : Option Overlay) → AllByRecursion (Stands test n (slot ∷ slots)) (ranked_from test (suc n) slots) → AllByRecursion (Stands test n (slot ∷ slots)) (with_slot test n slot (ranked_from test (suc n) slots))
      with-slot None rest = rest
      with-slot (Some o) rest = each-slot (Stands test n (Some o ∷ slots)) (rank_of n o) (ranked_from test (suc n) slots) (test o) (here test n o slots) rest

-- each number is as great as this one or greater
abbrev NumbersFrom : ℕ → List Rank → Type 0
NumbersFrom n = AllByRecursion (λ r. n ≤ r.number)

ranked-numbers : (test : Overlay → Bool) (n : ℕ) (slots : List (Option Overlay)) → NumbersFrom n (ranked_from test n slots)
ranked-numbers test n slots = each-weaker (Stands test n slots) (λ r. n ≤ r.number) (λ r s. s.from) (ranked_from test n slots) (ranked-stand test n slots)

-- the order is kept when one more is placed
chain-by : (r s t : Rank) (b : Bool) → precedes r t ≡ b → precedes r s ≡ true → precedes s t ≡ true → precedes r t ≡ true
chain-by r s t true e p q = e
chain-by r s t false e p q = absurd (true≢false (sym p ∙ weak.chain r t s e (weak.one_way s t q)))

after-all : (r s : Rank) (ts : List Rank) → precedes r s ≡ true → AllAfter precedes weak s ts → AllAfter precedes weak r ts
after-all r s ts p h = each-weaker (λ t. precedes s t ≡ true) (λ t. precedes r t ≡ true) (λ t q. chain-by r s t (precedes r t) refl p q) ts h

rises-by : (r s : Rank) (ss : List Rank) (b : Bool) → precedes s r ≡ b → NumbersFrom (suc r.number) (s ∷ ss) → Rises precedes weak (s ∷ ss)
    → Rises precedes weak (placed r ss) → Rises precedes weak (if b then s ∷ placed r ss else r ∷ s ∷ ss)
rises-by r s ss true e h up rest = (each-placed (λ t. precedes s t ≡ true) r ss e up.0, rest)
rises-by r s ss false e h up rest =
    let first : precedes r s ≡ true = apart r s (omega (arith, h.0)) e in
    ((first, after-all r s ss first up.0), up)

placed-rises : (r : Rank) (rs : List Rank) → NumbersFrom (suc r.number) rs → Rises precedes weak rs → Rises precedes weak (placed r rs)
placed-rises r [] h up = (tt, tt)
placed-rises r (s ∷ ss) h up = rises-by r s ss (precedes s r) refl h up (placed-rises r ss h.1 up.1)

pub ranked-rises : (test : Overlay → Bool) (n : ℕ) (slots : List (Option Overlay)) → Rises precedes weak (ranked_from test n slots)
ranked-rises test n [] = tt
ranked-rises test n (None ∷ slots) = ranked-rises test (suc n) slots
ranked-rises test n (Some o ∷ slots) =
    let rs = ranked_from test (suc n) slots in
    let up = ranked-rises test (suc n) slots in
    either (Rises precedes weak) (test o) _ _ (placed-rises (rank_of n o) rs (ranked-numbers test (suc n) slots) up) up

-- what was found and the listing have the same elements
tied : (a b : Bool) → (not a && not b) ≡ true → (a ≡ false) × (b ≡ false)
tied a b t = let both = and_parts (not a) (not b) t in (not-true a both.0, not-true b both.1)

never_both : (x r s : Rank) (b : Bool) → r.number < s.number → ties precedes x r ≡ true → ties precedes x s ≡ b → b ≡ false
never_both x r s false p t u = refl
never_both x r s true p t u =
    let (xr, rx) = tied (precedes x r) (precedes r x) t in
    let (xs, sx) = tied (precedes x s) (precedes s x) u in
    sym (apart r s p (weak.chain s x r sx xr)) ∙ weak.chain r x s rx xs

no_other : (x r : Rank) (rs : List Rank) → NumbersFrom (suc r.number) rs → ties precedes x r ≡ true → filter (ties precedes x) rs ≡ []
no_other x r [] h t = refl
no_other x r (s ∷ ss) h t =
    ap (λ (b : Bool). if b then s ∷ filter (ties precedes x) ss else filter (ties precedes x) ss)
    (never_both x r s (ties precedes x s) (omega (arith, h.0)) t refl)
    ∙ no_other x r ss h.1 t

-- a filter that doesn't keep the one placed
not_kept : (t : Rank → Bool) (r : Rank) (rs : List Rank) → t r ≡ false → filter t (placed r rs) ≡ filter t rs
not_kept t r rs e =
    placed-by (λ old new. filter t new ≡ filter t old) r (λ ss. ap (λ (b : Bool). if b then r ∷ filter t ss else filter t ss) e)
    (λ s ss new same. ap (λ (rest : List Rank). if t s then s ∷ rest else rest) same) rs

-- a filter that keeps it alone
none_kept : (t : Rank → Bool) (s : Rank) (ss : List Rank) (b : Bool) → t s ≡ b → filter t (s ∷ ss) ≡ [] → t s ≡ false
none_kept t s ss true at none =
    let kept : s ∷ filter t ss ≡ [] = sym (ap (λ (b : Bool). if b then s ∷ filter t ss else filter t ss) at) ∙ none in
    absurd (omega (arith, ap length kept))
none_kept t s ss false at none = at

alone : (t : Rank → Bool) (r : Rank) (rs : List Rank) → t r ≡ true → filter t rs ≡ [] → filter t (placed r rs) ≡ r ∷ []
alone t r rs e =
    placed-by (λ old new. filter t old ≡ [] → filter t new ≡ r ∷ []) r
    (λ ss none. ap (λ (b : Bool). if b then r ∷ filter t ss else filter t ss) e ∙ ap (λ (kept : List Rank). r ∷ kept) none)
    (λ s ss new rest none.
    let at = none_kept t s ss (t s) refl none in
    ap (λ (b : Bool). if b then s ∷ filter t new else filter t new) at ∙ rest (sym (ap (λ (b : Bool). if b then s ∷ filter t ss else filter t ss) at) ∙ none)) rs

one_more : (x r : Rank) (rs found : List Rank) (b : Bool) → NumbersFrom (suc r.number) rs → filter (ties precedes x) rs ≡ filter (ties precedes x) found
    → ties precedes x r ≡ b → filter (ties precedes x) (placed r rs) ≡ filter (ties precedes x) (found ++ r ∷ [])
one_more x r rs found true h same e =
    let t = ties precedes x in
    let none = no_other x r rs h e in
    alone t r rs e none
    ∙ (sym (ap (λ (c : Bool). if c then r ∷ [] else []) e)
    ∙ (ap (λ (front : List Rank). front ++ filter t (r ∷ [])) (sym (sym same ∙ none)) ∙ sym (filter-append t found (r ∷ []))))
one_more x r rs found false h same e =
    let t = ties precedes x in
    not_kept t r rs e
    ∙ (same
    ∙ (sym (append-nil (filter t found))
    ∙ (ap (λ (back : List Rank). filter t found ++ back) (sym (ap (λ (c : Bool). if c then r ∷ [] else []) e)) ∙ sym (filter-append t found (r ∷ [])))))

slot_ties : (x : Rank) (n : ℕ) (o : Overlay) (rs found : List Rank) (b : Bool) → NumbersFrom (suc n) rs
    → filter (ties precedes x) rs ≡ filter (ties precedes x) found
    → filter (ties precedes x) (if b then placed (rank_of n o) rs else rs) ≡ filter (ties precedes x) (found ++ (if b then rank_of n o ∷ [] else []))
slot_ties x n o rs found true h same = one_more x (rank_of n o) rs found (ties precedes x (rank_of n o)) h same refl
slot_ties x n o rs found false h same = same ∙ ap (filter (ties precedes x)) (sym (append-nil found))

ranked-ties : (test : Overlay → Bool) (n : ℕ) (slots : List (Option Overlay)) (x : Rank)
    → filter (ties precedes x) (ranked_from test n slots) ≡ filter (ties precedes x) (found_from test n slots)
ranked-ties test n [] x = refl
ranked-ties test n (None ∷ slots) x =
    ranked-ties test (suc n) slots x ∙ ap (filter (ties precedes x)) (sym (append-nil (found_from test (suc n) slots)))
ranked-ties test n (Some o ∷ slots) x =
    slot_ties x n o (ranked_from test (suc n) slots) (found_from test (suc n) slots) (test o) (ranked-numbers test (suc n) slots) (ranked-ties test (suc n) slots x)

-- what ties with a rank is the rank
tied-number : (x r : Rank) (a b : Bool) → precedes x r ≡ false → precedes r x ≡ false → nat_lt x.number r.number ≡ a → nat_lt r.number x.number ≡ b
    → x.number ≡ r.number
tied-number x r true b p q e f = let low : x.number < r.number = grind (arith, nat_tests) in absurd (true≢false (sym (apart x r low q) ∙ p))
tied-number x r false true p q e f = let low : r.number < x.number = grind (arith, nat_tests) in absurd (true≢false (sym (apart r x low p) ∙ q))
tied-number x r false false p q e f = grind (arith, nat_tests)

tied-by : (x r : Rank) (c : Ordering) → int_cmp x.priority r.priority ≡ c → precedes x r ≡ false → precedes r x ≡ false → x.priority ≡ r.priority
tied-by x r Less e p q = absurd (true≢false (sym (ap (λ (o : Ordering). is_lt (ordering_then o (nat_cmp x.number r.number))) e) ∙ p))
tied-by x r Equal e p q = int_ranked x.priority r.priority Equal (sym e)
tied-by x r Greater e p q =
    let back : int_cmp r.priority x.priority ≡ Less = int_cmp_total.antisymm r.priority x.priority ∙ ap ordering_reverse e in
    absurd (true≢false (sym (ap (λ (o : Ordering). is_lt (ordering_then o (nat_cmp r.number x.number))) back) ∙ q))

tied-same : (x r : Rank) → ties precedes x r ≡ true → r ≡ x
tied-same x r t =
    let (p, q) = tied (precedes x r) (precedes r x) t in
    let number = tied-number x r (nat_lt x.number r.number) (nat_lt r.number x.number) p q refl refl in
    let priority = tied-by x r (int_cmp x.priority r.priority) refl p q in
    (λ i. record { priority = sym priority i; number = sym number i })

tied-cons : (x r : Rank) (rs : List Rank) (b : Bool) → ties precedes x r ≡ b → filter (ties precedes x) rs ≡ replicate (length (filter (ties precedes x) rs)) x
    → (if b then r ∷ filter (ties precedes x) rs else filter (ties precedes x) rs) ≡ replicate (length (if b then r ∷ filter (ties precedes x) rs else filter (ties precedes x) rs)) x
tied-cons x r rs true e rest = ap (λ (s : Rank). s ∷ filter (ties precedes x) rs) (tied-same x r e) ∙ ap (λ (ss : List Rank). x ∷ ss) rest
tied-cons x r rs false e rest = rest

tied-all : (x : Rank) (rs : List Rank) → filter (ties precedes x) rs ≡ replicate (length (filter (ties precedes x) rs)) x
tied-all x [] = refl
tied-all x (r ∷ rs) = tied-cons x r rs (ties precedes x r) refl (tied-all x rs)

-- how many ranks of one number tie with a rank
abbrev tied_at : (Overlay → Bool) → List (Option Overlay) → Rank → ℕ → ℕ
tied_at test slots x k = length (filter (ties precedes x) (rank_at test k (overlay_at slots k)))

tied-sum : (test : Overlay → Bool) (slots : List (Option Overlay)) (x : Rank) (numbers : List ℕ)
    → length (filter (ties precedes x) (found_in test slots numbers)) ≡ sum_by (tied_at test slots x) numbers
tied-sum test slots x [] = refl
tied-sum test slots x (k ∷ ks) =
    let found = found_in test slots ks in
    let here = rank_at test k (overlay_at slots k) in
    let t = ties precedes x in
    let parts = ap length (filter-append t found here) ∙ length-append (filter t found) (filter t here) in
    let rest = tied-sum test slots x ks in
    let sum = sum_by-cons (tied_at test slots x) k ks in
    omega (arith, parts, rest, sum)

same-ties : (test : Overlay → Bool) (slots : List (Option Overlay)) (x : Rank) (ks ls : List ℕ) → IsPermutation ks ls
    → filter (ties precedes x) (found_in test slots ls) ≡ filter (ties precedes x) (found_in test slots ks)
same-ties test slots x ks ls h =
    let t = ties precedes x in
    let count = tied-sum test slots x ls ∙ (sum_by-IsPermutation (tied_at test slots x) ks ls h ∙ sym (tied-sum test slots x ks)) in
    tied-all x (found_in test slots ls) ∙ (ap (λ (n : ℕ). replicate n x) count ∙ sym (tied-all x (found_in test slots ks)))

-- by number from the first on, what is found is what the definition finds
found-by : (test : Overlay → Bool) (all : List (Option Overlay)) (a : ℕ) (rest : List (Option Overlay)) → drop a all ≡ rest
    → found_in test all (range_with_len a (length rest)) ≡ found_from test a rest
found-by test all a [] e = refl
found-by test all a (s ∷ rest) e =
    let (at, next) = drop-cons all a s rest e in
    let later = found-by test all (a + 1) rest next in
    let n : a + 1 ≡ suc a = omega arith in
    ap (λ (rs : List Rank). rs ++ rank_at test a (overlay_at all a)) (later ∙ ap (λ (k : ℕ). found_from test k rest) n)
    ∙ ap (λ (o : Option Overlay). found_from test (suc a) rest ++ rank_at test a o) (ap (λ s. unwrap_or s None) at)

-- what was found is the listing once it is sorted
pub sorted-is : (test : Overlay → Bool) (slots : List (Option Overlay)) (order : List ℕ) (sorted : List Rank) → length order ≤ length slots
    → IsPermutation (range_with_len 0 (length order)) order → IsSortedBy precedes sorted
    → ((x : Rank) → filter (ties precedes x) sorted ≡ filter (ties precedes x) (found_in test slots (whole_order order (length slots)))) → sorted ≡ ranked_from test 0 slots
sorted-is test slots order sorted size whole rising stable =
    unique precedes weak sorted (ranked_from test 0 slots) (sorted-never_falls precedes weak sorted rising)
    (rises-never_falls precedes weak (ranked_from test 0 slots) (ranked-rises test 0 slots))
    (λ x. stable x
    ∙ (same-ties test slots x (range_with_len 0 (length slots)) (whole_order order (length slots)) (whole_order-whole slots order size whole)
    ∙ (ap (filter (ties precedes x)) (found-by test slots 0 slots refl) ∙ sym (ranked-ties test 0 slots x))))

-- What a listing holds, and in which order.
use Rattle.std.proofs.Common.{◌≡◌, ℕ, zero, suc, ◌+◌, ◌-◌, ◌<◌, Bool, true, if◌then◌else◌, List, [], ◌∷◌, length, slice_index_or, Option, None, Some, refl, sym, ap, subst, ◌∙◌, arith}
use Rattle.std.specs.Prelude.{slice_index, pos}
use Rattle.std.specs.List.{Any, Contains}
use Rattle.std.proofs.lemmas.List.{get_or-map, length-map}
use Rattle.std.proofs.lemmas.List.Elements.{All-from_recursion}
use Rattle.std.proofs.lemmas.Option.{none-some, same_Some}
use Rattle.rd_base.proofs.Choices.{either}
use Rattle.rd_overlays.specs.declared.overlay.Overlay.{Overlay}
use Rattle.rd_overlays.specs.declared.listing.Rank.{Rank}
use Rattle.rd_overlays.specs.Overlays.{overlay_at, precedes, placed, with_slot, ranked_from, number_of_rank, numbers_of}
use Rattle.rd_overlays.specs.Listings.{Passes, HoldsExactly, Ascends, rank_of}
use Rattle.rd_overlays.proofs.Sorting.{Rises}
use Rattle.rd_overlays.proofs.Listed.{weak, placed-by, Stands, ranked-stand, ranked-rises}

one-behind : (P : Rank → Type 0) (r : Rank) (rs : List Rank) → Any P rs → Any P (r ∷ rs)
one-behind P r rs (i, x, inside, at, p) = (suc i, x, omega (arith, inside), at, p)

one-later : (P : Rank → Type 0) (s : Rank) (ss new : List Rank) → (Any P ss → Any P new) → Any P (s ∷ ss) → Any P (s ∷ new)
one-later P s ss new keeps (zero, x, inside, at, p) = (0, x, omega arith, at, p)
one-later P s ss new keeps (suc i, x, inside, at, p) = one-behind P s new (keeps (i, x, omega (arith, inside), at, p))

-- the one that is placed is there, and the others still are
placed-one : (P : Rank → Type 0) (r : Rank) (rs : List Rank) → P r → Any P (placed r rs)
placed-one P r rs p = placed-by (λ old new. Any P new) r (λ ss. (0, r, omega arith, refl, p)) (λ s ss new one. one-behind P s new one) rs

placed-keeps : (P : Rank → Type 0) (r : Rank) (rs : List Rank) → Any P rs → Any P (placed r rs)
placed-keeps P r rs = placed-by (λ old new. Any P old → Any P new) r (λ ss one. one-behind P r ss one) (one-later P) rs

one-weaken : (P Q : Rank → Type 0) (rs : List Rank) → ((r : Rank) → P r → Q r) → Any P rs → Any Q rs
one-weaken P Q rs f (i, x, inside, at, p) = (i, x, inside, at, f x p)

abbrev IsNumbered : ℕ → Rank → Type 0
IsNumbered n r = r.number ≡ n

behind : (test : Overlay → Bool) (n : ℕ) (slot : Option Overlay) (rs : List Rank) (k : ℕ) → Any (IsNumbered k) rs
    → Any (IsNumbered k) (with_slot test n slot rs)
behind test n None rs k one = one
behind test n (Some o) rs k one = either (Any (IsNumbered k)) (test o) _ _ (placed-keeps (IsNumbered k) (rank_of n o) rs one) one

complete : (test : Overlay → Bool) (n j : ℕ) (slots : List (Option Overlay)) (o : Overlay) → overlay_at slots j ≡ Some o → test o ≡ true
    → Any (IsNumbered (n + j)) (ranked_from test n slots)
complete test n j [] o at passes = absurd (none-some o at)
complete test n zero (None ∷ slots) o at passes = absurd (none-some o at)
complete test n zero (Some other ∷ slots) o at passes =
    let e : test other ≡ true = ap test (same_Some other o at) ∙ passes in
    let P = IsNumbered (n + 0) in
    let rs = ranked_from test (suc n) slots in
    let same : n ≡ n + 0 = omega arith in
    subst (λ (b : Bool). Any P (if b then placed (rank_of n other) rs else rs)) (sym e) (placed-one P (rank_of n other) rs same)
complete test n (suc j) (slot ∷ slots) o at passes =
    let rs = ranked_from test (suc n) slots in
    let same : suc n + j ≡ n + suc j = omega arith in
    behind test n slot rs (n + suc j) (one-weaken (IsNumbered (suc n + j)) (IsNumbered (n + suc j)) rs (λ r e. e ∙ same) (complete test (suc n) j slots o at passes))

stands-passes : (test : Overlay → Bool) (slots : List (Option Overlay)) (r : Rank) (number : ℕ) → r.number ≡ number → Stands test 0 slots r
    → Passes test (overlay_at slots number)
stands-passes test slots r number e s =
    let same : r.number - 0 ≡ number = omega (arith, e) in
    subst (Passes test) (sym (ap (overlay_at slots) (sym same) ∙ s.at)) s.passes

from-listing : (test : Overlay → Bool) (slots : List (Option Overlay)) (number : ℕ) → Contains (numbers_of test slots) number → Passes test (overlay_at slots number)
from-listing test slots number (i, inside, at) =
    let rs = ranked_from test 0 slots in
    let d : Rank = record { priority = pos 0; number = number } in
    let size = length-map rs number_of_rank in
    let within : i < length rs = omega (arith, inside, size) in
    stands-passes test slots (slice_index_or rs i d) number (sym (get_or-map number_of_rank rs i d number within) ∙ at)
    (All-from_recursion (Stands test 0 slots) rs (ranked-stand test 0 slots) i d within)

listed : (test : Overlay → Bool) (slots : List (Option Overlay)) (number : ℕ) → Any (IsNumbered (0 + number)) (ranked_from test 0 slots)
    → Contains (numbers_of test slots) number
listed test slots number (i, r, inside, at, is) =
    let rs = ranked_from test 0 slots in
    let size = length-map rs number_of_rank in
    let same : 0 + number ≡ number = omega arith in
    (i, omega (arith, inside, size), get_or-map number_of_rank rs i r number inside ∙ (ap number_of_rank at ∙ (is ∙ same)))

to-listing : (test : Overlay → Bool) (slots : List (Option Overlay)) (number : ℕ) (slot : Option Overlay) → overlay_at slots number ≡ slot → Passes test slot
    → Contains (numbers_of test slots) number
to-listing test slots number None at passes = absurd passes
to-listing test slots number (Some o) at passes = listed test slots number (complete test 0 number slots o at passes)

pub exact : (test : Overlay → Bool) (slots : List (Option Overlay)) → HoldsExactly test slots (numbers_of test slots)
exact test slots = λ number. (from-listing test slots number, to-listing test slots number (overlay_at slots number) refl)

rises-at : (rs : List Rank) (i j : ℕ) (d : Rank) → i < j → j < length rs → Rises precedes weak rs → precedes (slice_index_or rs i d) (slice_index_or rs j d) ≡ true
rises-at [] i j d p inside h = absurd (omega (arith, inside))
rises-at (r ∷ rs) i zero d p inside h = absurd (omega (arith, p))
rises-at (r ∷ rs) zero (suc j) d p inside h = All-from_recursion (λ s. precedes r s ≡ true) rs h.0 j d (omega (arith, inside))
rises-at (r ∷ rs) (suc i) (suc j) d p inside h = rises-at rs i j d (omega (arith, p)) (omega (arith, inside)) h.1

same_rank : (r : Rank) (n : ℕ) (o : Overlay) → n ≡ r.number → r.priority ≡ o.priority → rank_of n o ≡ r
same_rank r n o e p = (λ i. record { priority = sym p i; number = e i })

rank-at : (test : Overlay → Bool) (slots : List (Option Overlay)) (i : ℕ) (d : Rank) (o : Overlay) → i < length (ranked_from test 0 slots)
    → overlay_at slots (slice_index (numbers_of test slots) i) ≡ Some o
    → rank_of (slice_index (numbers_of test slots) i) o ≡ slice_index_or (ranked_from test 0 slots) i d
rank-at test slots i d o inside at =
    let rs = ranked_from test 0 slots in
    let r = slice_index_or rs i d in
    let number : slice_index (numbers_of test slots) i ≡ r.number = get_or-map number_of_rank rs i d 0 inside in
    let stands = All-from_recursion (Stands test 0 slots) rs (ranked-stand test 0 slots) i d inside in
    let same : r.number - 0 ≡ r.number = omega arith in
    let found : Some stands.overlay ≡ Some o = sym stands.at ∙ (ap (overlay_at slots) (same ∙ sym number) ∙ at) in
    same_rank r (slice_index (numbers_of test slots) i) o number (stands.priority ∙ ap (λ (x : Overlay). x.priority) (same_Some stands.overlay o found))

pub ascends : (test : Overlay → Bool) (slots : List (Option Overlay)) → Ascends slots (numbers_of test slots)
ascends test slots = λ i j a b p inside at_i at_j.
    let rs = ranked_from test 0 slots in
    let d : Rank = record { priority = pos 0; number = 0 } in
    let size = length-map rs number_of_rank in
    let within : j < length rs = omega (arith, inside, size) in
    let first : i < length rs = omega (arith, p, within) in
    let up = rises-at rs i j d p within (ranked-rises test 0 slots) in
    let left = rank-at test slots i d a first at_i in
    let right = rank-at test slots j d b within at_j in
    ap (λ (r : Rank). precedes r (rank_of (slice_index (numbers_of test slots) j) b)) left
    ∙ (ap (λ (r : Rank). precedes (slice_index_or rs i d) r) right ∙ up)

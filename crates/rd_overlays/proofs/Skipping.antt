-- A look-up from the last place to the first that skips what is away from its position.
use Rattle.std.proofs.Common.{◌≡◌, ℕ, zero, suc, ◌+◌, ◌-◌, ◌<◌, ◌≤◌, Bool, if◌then◌else◌, List, [], ◌∷◌, ◌++◌, length, get_or, drop, Option, None, Some, refl, sym, ap, ◌∙◌, arith, append-nil}
use Rattle.std.specs.Prelude.{slice_get}
use Rattle.std.proofs.lemmas.Option.{slice_get-get_or}
use Rattle.rd_base.proofs.Lists.{drop-at}
use Rattle.rd_overlays.specs.declared.overlay.Overlay.{Overlay}
use Rattle.rd_overlays.specs.declared.overlay.Meeting.{Meeting}
use Rattle.rd_overlays.specs.declared.listing.Rank.{Rank}
use Rattle.rd_overlays.specs.Overlays.{overlay_at, meets}
use Rattle.rd_overlays.specs.Listings.{rank_at, rank_of, found_in}
use Rattle.rd_overlays.specs.Bounds.{IsAway}

-- what is the same at each step is the same at both ends
steps : {Y : Type 0} (f : ℕ → Y) (d n i : ℕ) → i ≡ d + n → ((j : ℕ) → n ≤ j → j < i → f (j + 1) ≡ f j) → f i ≡ f n
steps f zero n i e same = let q : i ≡ n = omega arith in ap f q
steps f (suc d) n i e same =
    let here : n < i = omega arith in
    let next : i ≡ d + (n + 1) = omega arith in
    steps f d (n + 1) i next (λ j low high. same j (omega arith) high) ∙ same n (omega arith) here

pub unchanged : {Y : Type 0} (f : ℕ → Y) (n i : ℕ) → n ≤ i → ((j : ℕ) → n ≤ j → j < i → f (j + 1) ≡ f j) → f i ≡ f n
unchanged f n i p same = let e : i ≡ (i - n) + n = omega arith in steps f (i - n) n i e same

rank_at-away : (m : Meeting) (pos n : ℕ) (slot : Option Overlay) → IsAway pos slot → rank_at (meets m pos) n slot ≡ []
rank_at-away m pos n None a = refl
rank_at-away m pos n (Some o) a = ap (λ (t : Bool). if t then rank_of n o ∷ [] else []) (a m)

pub taken : (m : Meeting) (pos i j : ℕ) (s : List (Option Overlay)) (numbers : List ℕ) (k : ℕ) (old new : List Rank) → i ≡ j + 1
    → slice_get numbers j ≡ Some k → old ≡ found_in (meets m pos) s (drop i numbers) → new ≡ old ++ rank_at (meets m pos) k (overlay_at s k)
    → new ≡ found_in (meets m pos) s (drop j numbers)
taken m pos i j s numbers k old new e at found is =
    let rest : old ≡ found_in (meets m pos) s (drop (j + 1) numbers) = found ∙ ap (λ (q : ℕ). found_in (meets m pos) s (drop q numbers)) e in
    is ∙ (ap (λ (rs : List Rank). rs ++ rank_at (meets m pos) k (overlay_at s k)) rest ∙ sym (ap (found_in (meets m pos) s) (drop-at numbers j k at)))

one-away : (m : Meeting) (pos n : ℕ) (s : List (Option Overlay)) (numbers : List ℕ) → n < length numbers
    → ((k : ℕ) → slice_get numbers n ≡ Some k → IsAway pos (overlay_at s k))
    → found_in (meets m pos) s (drop (n + 1) numbers) ≡ found_in (meets m pos) s (drop n numbers)
one-away m pos n s numbers p away =
    let at = slice_get-get_or numbers n 0 p in
    let k = get_or numbers n 0 in
    let later = found_in (meets m pos) s (drop (n + 1) numbers) in
    taken m pos (n + 1) n s numbers k later later (omega arith) at refl
    (sym (append-nil later) ∙ ap (λ (rs : List Rank). later ++ rs) (sym (rank_at-away m pos k (overlay_at s k) (away k at))))

pub skipped : (m : Meeting) (pos : ℕ) (s : List (Option Overlay)) (numbers : List ℕ) (n i : ℕ) → n ≤ i → i ≤ length numbers
    → ((j k : ℕ) → n ≤ j → j < i → slice_get numbers j ≡ Some k → IsAway pos (overlay_at s k))
    → found_in (meets m pos) s (drop i numbers) ≡ found_in (meets m pos) s (drop n numbers)
skipped m pos s numbers n i p within away =
    unchanged (λ (j : ℕ). found_in (meets m pos) s (drop j numbers)) n i p (λ j low high. one-away m pos j s numbers (omega arith) (λ k at. away j k low high at))

-- Two lists with one listing.
use Rattle.std.proofs.Common.{◌≡◌, ℕ, ℤ, suc, Bool, List, [], ◌∷◌, map, Option, None, Some, refl, sym, ap, ◌∙◌}
use Rattle.rd_base.proofs.Choices.{of-choice}
use Rattle.rd_overlays.specs.declared.overlay.Overlay.{Overlay}
use Rattle.rd_overlays.specs.declared.listing.Rank.{Rank}
use Rattle.rd_overlays.specs.Overlays.{overlay_at, placed, with_slot, ranked_from, number_of_rank, numbers_of}
use Rattle.rd_overlays.specs.Listings.{listed_priority}

-- ranks with one more of this priority
with_priority : ℕ → Option ℤ → List Rank → List Rank
with_priority n None ranks = ranks
with_priority n (Some priority) ranks = placed (record { priority = priority; number = n }) ranks

slot-priority : (test : Overlay → Bool) (n : ℕ) (slot : Option Overlay) (ranks : List Rank) → with_slot test n slot ranks ≡ with_priority n (listed_priority test slot) ranks
unfolding with_priority
slot-priority test n None ranks = refl
slot-priority test n (Some o) ranks = sym (of-choice (λ (p : Option ℤ). with_priority n p ranks) (test o) (Some o.priority) None)

slots-same : (f g : Overlay → Bool) (n : ℕ) (s t : Option Overlay) (ranks others : List Rank) → listed_priority f s ≡ listed_priority g t → ranks ≡ others
    → with_slot f n s ranks ≡ with_slot g n t others
slots-same f g n s t ranks others same rest =
    slot-priority f n s ranks ∙ (ap (λ (p : Option ℤ). with_priority n p ranks) same ∙ (ap (with_priority n (listed_priority g t)) rest ∙ sym (slot-priority g n t others)))

-- at each number the same is listed
abbrev Agree : (Overlay → Bool) → (Overlay → Bool) → List (Option Overlay) → List (Option Overlay) → Type 0
Agree f g a b = (number : ℕ) → listed_priority f (overlay_at a number) ≡ listed_priority g (overlay_at b number)

ranked-same : (f g : Overlay → Bool) (n : ℕ) (a b : List (Option Overlay)) → Agree f g a b → ranked_from f n a ≡ ranked_from g n b
ranked-same f g n [] [] agree = refl
ranked-same f g n [] (t ∷ b) agree =
    slots-same f g n None t [] (ranked_from g (suc n) b) (agree 0) (ranked-same f g (suc n) [] b (λ k. agree (suc k)))
ranked-same f g n (s ∷ a) [] agree =
    slots-same f g n s None (ranked_from f (suc n) a) [] (agree 0) (ranked-same f g (suc n) a [] (λ k. agree (suc k)))
ranked-same f g n (s ∷ a) (t ∷ b) agree =
    slots-same f g n s t (ranked_from f (suc n) a) (ranked_from g (suc n) b) (agree 0) (ranked-same f g (suc n) a b (λ k. agree (suc k)))

pub listing-same : (f g : Overlay → Bool) (a b : List (Option Overlay)) → Agree f g a b → numbers_of f a ≡ numbers_of g b
listing-same f g a b agree = ap (map number_of_rank) (ranked-same f g 0 a b agree)

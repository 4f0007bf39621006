-- Sums over lists, places that are moved or stand in a stretch, and stretches one behind the other.
use Rattle.std.specs.Prelude.{◌≡◌, ◌⊎◌, ℕ, suc, ◌+◌, ◌-◌, ◌<◌, nat_le, nat_lt, Bool, ◌&&◌, List, [], ◌∷◌, ℤ, pos, negsuc}

-- the sum of a number for each element: by definition the first one's number and the sum of the others. The library's `sum_by`, which
-- goes from the front with the sum so far, has that by a lemma alone (`sum_by-cons`)
abbrev pub total : {X : Type 0} → (X → ℕ) → List X → ℕ
total f [] = 0
total f (x ∷ xs) = f x + total f xs

-- a place moved down, or up where the number is below 0, up at most to 0
abbrev pub moved : ℤ → ℕ → ℕ
moved (pos n) place = place + n
moved (negsuc n) place = place - suc n

-- whether a place is in the stretch from one up to another, that one not included
abbrev pub is_between : ℕ → ℕ → ℕ → Bool
is_between from to place = nat_le from place && nat_lt place to

-- elements from one place to another, which is not included, by where each starts and ends: an element has no place, or it goes on where
-- the last one that has a place ended
abbrev pub Follow : {X : Type 0} → (X → ℕ) → (X → ℕ) → ℕ → ℕ → List X → Type 0
Follow start end from to [] = from ≡ to
Follow start end from to (x ∷ xs) = ((start x ≡ end x) × Follow start end from to xs) ⊎ ((start x ≡ from) × (from < end x) × Follow start end (end x) to xs)

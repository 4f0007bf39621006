-- What a call puts into a buffer of its caller.
use Rattle.std.specs.Prelude.{◌≡◌, ℕ, ◌+◌, ◌-◌, nat_le, if◌then◌else◌, List, [], ◌∷◌, ◌++◌, length, min, take, drop, Option, None, Some}
use Rattle.std.specs.List.{concat}

-- so many elements of a list are the front of a buffer, as many as there is room for, and the rest of the buffer is as it was
pub record Fills {A : Type 0} (count : ℕ) (list before after : List A) : Type 0 where
  pub told : count ≡ min (length list) (length before)
  pub front : after ≡ take count list ++ drop count before

-- how many of these texts fit whole, one behind the other, into so many bytes
abbrev pub fitting : ℕ → List (List ℕ) → ℕ
fitting room [] = 0
fitting room (text ∷ texts) = if nat_le (length text) room then 1 + fitting (room - length text) texts else 0

-- the bytes of those of these texts that fit whole into so many
abbrev pub fitted : ℕ → List (List ℕ) → List ℕ
fitted room texts = concat (take (fitting room texts) texts)

-- the texts that fit whole are the front of a buffer, in so many bytes, and the rest of the buffer is as it was
pub record FillsWhole (count : ℕ) (texts : List (List ℕ)) (before after : List ℕ) : Type 0 where
  pub told : count ≡ length (fitted (length before) texts)
  pub front : after ≡ fitted (length before) texts ++ drop count before

-- the same where there are texts, and else nothing is put in
abbrev pub GivesWhole : Option ℕ → Option (List (List ℕ)) → List ℕ → List ℕ → Type 0
GivesWhole (Some count) (Some texts) before after = FillsWhole count texts before after
GivesWhole None None before after = after ≡ before
GivesWhole count texts before after = ⊥

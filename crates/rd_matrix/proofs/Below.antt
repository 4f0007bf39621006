-- A place that is sought from the top row down.
use Rattle.std.proofs.Common.{ℕ, ◌+◌, Option, None, Some}

-- a place among rows of which so many stand above
abbrev pub down : ℕ → Option (ℕ × ℕ) → Option (ℕ × ℕ)
down n None = None
down n (Some place) = Some (place.0 + n, place.1)

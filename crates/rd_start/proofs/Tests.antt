-- Ranges of numbers, as tests.
use Rattle.std.proofs.Common.{◌≡◌, ℕ, ◌<◌, ◌≤◌, true, false, ◌&&◌, leb, ltb}
use Rattle.std.proofs.lemmas.Bool.{and_from, and_left, and_right, le-leb, le-ltb, lt-leb, lt-ltb}

pub in-range : (from to k : ℕ) → from ≤ k → k < to → (leb from k && ltb k to) ≡ true
in-range from to k low high = and_from (leb from k) (ltb k to) (le-leb from k low) (lt-ltb k to high)

pub below-range : (from to k : ℕ) → k < from → (leb from k && ltb k to) ≡ false
below-range from to k low = and_left (leb from k) (ltb k to) (lt-leb from k low)

pub above-range : (from to k : ℕ) → to ≤ k → (leb from k && ltb k to) ≡ false
above-range from to k high = and_right (leb from k) (ltb k to) (le-ltb k to high)

-- The visual order of a line by its embedding levels (UAX 9 L2), read from the reading edge.
use Rattle.std.specs.Prelude.{ℕ, zero, suc, ◌+◌, ◌-◌, nat_le, max, if◌then◌else◌, List, [], ◌∷◌, ◌++◌, length, slice_index}
use Rattle.std.specs.List.{range_with_len}

-- for L2, one reversal: each maximal run of indexes whose level is at least k is turned round. The second argument has the run that is
-- being read, turned round as far as it was read
abbrev pub l2_reversed : List ℕ → ℕ → List ℕ → List ℕ → List ℕ
l2_reversed levels k run [] = run
l2_reversed levels k run (i ∷ is) =
    if nat_le k (slice_index levels i) then l2_reversed levels k (i ∷ run) is else run ++ (i ∷ l2_reversed levels k [] is)

-- for L2, the reversals for the levels base + n, .., base + 1, in this order
abbrev pub l2_reversed_down : List ℕ → ℕ → ℕ → List ℕ → List ℕ
l2_reversed_down levels base zero is = is
l2_reversed_down levels base (suc n) is = l2_reversed_down levels base n (l2_reversed levels (base + suc n) [] is)

-- for L2, the highest of these levels
abbrev pub highest : List ℕ → ℕ
highest [] = 0
highest (level ∷ levels) = max level (highest levels)

-- L2: the indexes of a line in visual order from the reading edge. From the highest level down to the base's next, each maximal run
-- at that level or above is turned round. Two choices of this project: the whole line is ordered, before it is cut into rows; and at
-- base 1 the reading edge is the right one, so the reversal of the whole line at level 1 is left out.
abbrev pub l2_visual_order : ℕ → List ℕ → List ℕ
l2_visual_order base levels = l2_reversed_down levels base (highest levels - base) (range_with_len 0 (length levels))

-- The implicit levels (UAX 9, rules I1 and I2), the levels of what X9 took out, and rule L1, each a pass over a whole line.
use Rattle.std.specs.Prelude.{ℕ, ◌+◌, ◌%◌, ◌==◌, Bool, true, false, ◌&&◌, ◌||◌, if◌then◌else◌, List, [], ◌∷◌}
use Rattle.rd_base.specs.Classes.{x9_is_removed, is_initiator}
use Rattle.rd_base.specs.declared.class.Class.{Class}
use Rattle.rd_base.specs.declared.class.Class.TheVariants.{L, R, EN, AN, B, S, WS, PDI}

-- I1: at an even level, R goes up one level and AN and EN go up two
abbrev pub i1_even_levels : ℕ → Class → ℕ
i1_even_levels level R = level + 1
i1_even_levels level AN = level + 2
i1_even_levels level EN = level + 2
i1_even_levels level c = level

-- I2: at an odd level, L, EN and AN go up one level
abbrev pub i2_odd_levels : ℕ → Class → ℕ
i2_odd_levels level L = level + 1
i2_odd_levels level EN = level + 1
i2_odd_levels level AN = level + 1
i2_odd_levels level c = level

-- I1 at an even level, I2 at an odd one
abbrev pub i1_i2_level : ℕ → Class → ℕ
i1_i2_level level c = if level % 2 == 0 then i1_even_levels level c else i2_odd_levels level c

-- I1 and I2 over a line
abbrev pub i1_i2 : List Class → List ℕ → List ℕ
i1_i2 [] ls = ls
i1_i2 (c ∷ cs) [] = []
i1_i2 (c ∷ cs) (l ∷ ls) = i1_i2_level l c ∷ i1_i2 cs ls

-- What X9 took out takes the level of the nearest item before it that stayed, else the base. This is a choice of this project: UAX 9
-- leaves these levels open.
abbrev pub kept : ℕ → List Class → List ℕ → List ℕ
kept before [] ls = ls
kept before (c ∷ cs) [] = []
kept before (c ∷ cs) (l ∷ ls) = if x9_is_removed c then before ∷ kept before cs ls else l ∷ kept l cs ls

-- for L1, what ends a segment or a paragraph
abbrev pub l1_is_separator : Class → Bool
l1_is_separator S = true
l1_is_separator B = true
l1_is_separator c = false

-- for L1, white space, isolate formatting characters and what X9 took out
abbrev pub l1_is_white : Class → Bool
l1_is_white WS = true
l1_is_white PDI = true
l1_is_white c = is_initiator c || x9_is_removed c

-- L1: whether the base is taken by the first of these characters, by their classes: it is a separator, or begins a run of white space
-- that ends at a separator or at the line's end
abbrev pub l1_resets : List Class → Bool
l1_resets [] = true
l1_resets (c ∷ cs) = l1_is_separator c || (l1_is_white c && l1_resets cs)

-- L1 over a line with a base level
abbrev pub l1 : ℕ → List Class → List ℕ → List ℕ
l1 base [] ls = ls
l1 base (c ∷ cs) [] = []
l1 base (c ∷ cs) (l ∷ ls) = (if l1_resets (c ∷ cs) then base else l) ∷ l1 base cs ls

-- the levels of a line after I1, I2 and L1, by its classes, types and levels
abbrev pub implicit_levels : ℕ → List Class → List Class → List ℕ → List ℕ
implicit_levels base cs ts ls = l1 base cs (kept base cs (i1_i2 ts ls))

-- Words of UAX 9 on bidirectional classes that several rules share.
use Rattle.std.specs.Prelude.{ℕ, zero, suc, ◌%◌, ◌==◌, Bool, true, false, if◌then◌else◌, List, [], ◌∷◌, Option, None, Some}
use Rattle.std.specs.Option.{option_or}
use Rattle.rd_base.specs.declared.class.Class.{Class}
use Rattle.rd_base.specs.declared.class.Class.TheVariants.{L, R, AL, BN, LRE, LRO, RLE, RLO, PDF, LRI, RLI, FSI, PDI}

-- an isolate initiator (BD8)
abbrev pub is_initiator : Class → Bool
is_initiator LRI = true
is_initiator RLI = true
is_initiator FSI = true
is_initiator c = false

-- what rule X9 takes out of the line
abbrev pub x9_is_removed : Class → Bool
x9_is_removed LRE = true
x9_is_removed RLE = true
x9_is_removed LRO = true
x9_is_removed RLO = true
x9_is_removed PDF = true
x9_is_removed BN = true
x9_is_removed c = false

-- the direction of an embedding level (BD2, BD3): L at an even level, R at an odd one
abbrev pub direction_of : ℕ → Class
direction_of level = if level % 2 == 0 then L else R

-- the level that a character inside so many isolates decides, by rules P2 and P3
abbrev pub p2_p3_strong_level : ℕ → Class → Option ℕ
p2_p3_strong_level zero L = Some 0
p2_p3_strong_level zero R = Some 1
p2_p3_strong_level zero AL = Some 1
p2_p3_strong_level depth c = None

-- inside how many isolates the next character stands, by rule P2: a PDI ends one, where there is one
abbrev pub p2_depth_after : ℕ → Class → ℕ
p2_depth_after depth LRI = suc depth
p2_depth_after depth RLI = suc depth
p2_depth_after depth FSI = suc depth
p2_depth_after (suc depth) PDI = depth
p2_depth_after depth c = depth

-- the level that rules P2 and P3 find in what is left of a line, inside so many isolates: that of the first L, R or AL outside
-- isolates, where an isolate ends at its matching PDI or else at the end
abbrev pub p2_p3_first_strong : ℕ → List Class → Option ℕ
p2_p3_first_strong depth [] = None
p2_p3_first_strong depth (c ∷ cs) = option_or (p2_p3_strong_level depth c) (p2_p3_first_strong (p2_depth_after depth c) cs)

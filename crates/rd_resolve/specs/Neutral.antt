-- The neutral types (UAX 9, rules N1 and N2), each a pass over a whole isolating run sequence.
use Rattle.std.specs.Prelude.{ℕ, Bool, true, false, if◌then◌else◌, List, [], ◌∷◌}
use Rattle.rd_base.specs.Classes.{direction_of}
use Rattle.rd_base.specs.declared.class.Class.{Class}
use Rattle.rd_base.specs.declared.class.Class.TheVariants.{L, R, B, S, WS, ON, LRI, RLI, FSI, PDI}

-- for N1 and N2, NI: neutrals, and the isolate formatting characters
abbrev pub is_ni : Class → Bool
is_ni B = true
is_ni S = true
is_ni WS = true
is_ni ON = true
is_ni LRI = true
is_ni RLI = true
is_ni FSI = true
is_ni PDI = true
is_ni c = false

-- for N1, the direction of a type that is not neutral: EN and AN count as R
abbrev pub n1_side : Class → Class
n1_side L = L
n1_side c = R

-- for N1, the direction after a run of neutrals: that of the first type behind them, or eos
abbrev pub n1_following : Class → List Class → Class
n1_following eos [] = eos
n1_following eos (c ∷ cs) = if is_ni c then n1_following eos cs else n1_side c

-- N1: a neutral whose run stands between equal directions takes that direction
abbrev pub n1_surrounding_direction : Class → Class → Class → Class
n1_surrounding_direction L L c = L
n1_surrounding_direction R R c = R
n1_surrounding_direction before after c = c

-- N1 over a sequence, with the direction before it, which is sos at the start
abbrev pub n1 : Class → Class → List Class → List Class
n1 before eos [] = []
n1 before eos (c ∷ cs) =
    if is_ni c then n1_surrounding_direction before (n1_following eos cs) c ∷ n1 before eos cs
    else c ∷ n1 (n1_side c) eos cs

-- N2: a neutral that N1 left takes the direction of its level
abbrev pub n2_embedding_direction : Class → ℕ → Class
n2_embedding_direction c level = if is_ni c then direction_of level else c

-- N2 over a sequence, with the levels of its characters
abbrev pub n2 : List Class → List ℕ → List Class
n2 [] ls = []
n2 (c ∷ cs) [] = c ∷ cs
n2 (c ∷ cs) (l ∷ ls) = n2_embedding_direction c l ∷ n2 cs ls

-- the types of a sequence after N1 and N2
abbrev pub neutral_types : Class → Class → List Class → List ℕ → List Class
neutral_types sos eos cs ls = n2 (n1 sos eos cs) ls

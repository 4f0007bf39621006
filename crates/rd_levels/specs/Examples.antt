-- Lines on which the definitions are worked out.
use Rattle.std.specs.Prelude.{ℕ, zero, suc, Bool, true, false, List, [], ◌∷◌, ◌++◌, replicate}
use Rattle.rd_base.specs.declared.class.Class.{Class}
use Rattle.rd_base.specs.declared.class.Class.TheVariants.{L, R, ON, RLE, LRE}
use Rattle.rd_ucd.specs.declared.spans.Bracket.TheVariants.{Opens, Closes}
use Rattle.rd_ucd.specs.declared.spans.BracketEntry.{BracketEntry}

-- round brackets
abbrev pub round : List BracketEntry
round = record { code = 40; bracket = Opens 41 } ∷ record { code = 41; bracket = Closes 40 } ∷ []

-- L, so many brackets that open, R, as many that close, and R
abbrev pub paired_classes : ℕ → List Class
paired_classes n = L ∷ (replicate n ON ++ R ∷ (replicate n ON ++ R ∷ []))

abbrev pub paired_codes : ℕ → List ℕ
paired_codes n = 0 ∷ (replicate n 40 ++ 0 ∷ (replicate n 41 ++ 0 ∷ []))

-- so many RLE and LRE in turn, from RLE on, and then these classes
abbrev pub embedded : Bool → ℕ → List Class → List Class
embedded right zero cs = cs
embedded true (suc n) cs = RLE ∷ embedded false n cs
embedded false (suc n) cs = LRE ∷ embedded true n cs

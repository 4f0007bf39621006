-- The names of the bidirectional classes (UAX 9, table 4).
use Rattle.std.specs.Prelude.{ℕ, Bool, List, [], ◌∷◌, Option, codes}
use Rattle.std.specs.List.{find}
use Rattle.std.specs.Str.{bytes_eq}
use Rattle.rd_base.specs.declared.class.Class.{Class}
use Rattle.rd_base.specs.declared.class.Class.TheVariants.{L, R, AL, EN, ES, ET, AN, CS, NSM, BN, B, S, WS, ON, LRE, LRO, RLE, RLO, PDF, LRI, RLI, FSI, PDI}

abbrev pub name_of : Class → List ℕ
name_of L = codes "L"
name_of R = codes "R"
name_of AL = codes "AL"
name_of EN = codes "EN"
name_of ES = codes "ES"
name_of ET = codes "ET"
name_of AN = codes "AN"
name_of CS = codes "CS"
name_of NSM = codes "NSM"
name_of BN = codes "BN"
name_of B = codes "B"
name_of S = codes "S"
name_of WS = codes "WS"
name_of ON = codes "ON"
name_of LRE = codes "LRE"
name_of LRO = codes "LRO"
name_of RLE = codes "RLE"
name_of RLO = codes "RLO"
name_of PDF = codes "PDF"
name_of LRI = codes "LRI"
name_of RLI = codes "RLI"
name_of FSI = codes "FSI"
name_of PDI = codes "PDI"

abbrev pub all_classes : List Class
all_classes = L ∷ R ∷ AL ∷ EN ∷ ES ∷ ET ∷ AN ∷ CS ∷ NSM ∷ BN ∷ B ∷ S ∷ WS ∷ ON ∷ LRE ∷ LRO ∷ RLE ∷ RLO ∷ PDF ∷ LRI ∷ RLI ∷ FSI ∷ PDI ∷ []

-- the class of a name
abbrev pub named : List ℕ → Option Class
named name = find (λ class. bytes_eq name (name_of class)) all_classes

abbrev pub same_class : Class → Class → Bool
same_class a b = bytes_eq (name_of a) (name_of b)

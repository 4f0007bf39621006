-- The matching of isolates (UAX 9 BD9): by nesting alone, over the whole line, whatever levels the explicit rules give.
use Rattle.std.specs.Prelude.{ℕ, zero, ◌+◌, if◌then◌else◌, nat_lt, List, [], ◌∷◌, length, Option, None, Some}
use Rattle.rd_base.specs.Classes.{p2_depth_after}
use Rattle.rd_base.specs.declared.class.Class.{Class}
use Rattle.rd_base.specs.declared.class.Class.TheVariants.{PDI}

-- for BD9, the classes before the PDI that closes what is open, so many isolates inside it; all classes, where there is no such PDI
abbrev pub inside : List Class → ℕ → List Class
inside [] depth = []
inside (PDI ∷ cs) zero = []
inside (c ∷ cs) depth = c ∷ inside cs (p2_depth_after depth c)

-- for BD9, what an isolate initiator isolates, of the classes after it
abbrev pub content : List Class → List Class
content cs = inside cs zero

-- BD9: the index of the PDI that matches an isolate initiator, where the class after the initiator has index i
abbrev pub bd9_matching_pdi : ℕ → List Class → Option ℕ
bd9_matching_pdi i cs = if nat_lt (length (content cs)) (length cs) then Some (i + length (content cs)) else None

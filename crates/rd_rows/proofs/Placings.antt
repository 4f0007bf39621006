-- What holds of each element holds of it in its columns, in a line and in a prefix.
use Rattle.std.proofs.Common.{ℕ, zero, ◌+◌, nat_le, List, [], ◌∷◌, All, arith}
use Rattle.std.specs.List.{AllByRecursion}
use Rattle.std.proofs.lemmas.List.Elements.{All-tail}
use Rattle.rd_base.proofs.Choices.{either}
use Rattle.rd_base.specs.declared.element.Element.{Element}
use Rattle.rd_rows.specs.declared.spot.Placed.{Placed}
use Rattle.rd_rows.specs.declared.spot.Spot.{Spot}
use Rattle.rd_rows.specs.Placing.{placed_at, behind, place_all, width_at}
use Rattle.rd_rows.specs.Prefixes.{fitted}
use Rattle.rd_rows.specs.Shapes.{ShapeValues}

-- placed elements of which each has a property
abbrev HavePlaced : (Element → Type 0) → List Placed → Type 0
HavePlaced P ps = AllByRecursion (λ (p : Placed). P p.element) ps

pub placed-each : (P : Element → Type 0) (shape : ShapeValues) (spot : Spot) (xs : List Element) → All P xs → HavePlaced P (place_all shape spot xs)
placed-each P shape spot [] all = tt
placed-each P shape spot (x ∷ xs) all = (all zero x (omega arith), placed-each P shape (behind spot (placed_at shape spot x)) xs (All-tail P x xs all))

pub fitted-each : (P : Element → Type 0) (limit column : ℕ) (es : List Element) → All P es → HavePlaced P (fitted limit column es)
fitted-each P limit column [] all = tt
fitted-each P limit column (e ∷ es) all =
    either (HavePlaced P) (nat_le (column + width_at e.extent column) limit) _ []
    (all zero e (omega arith), fitted-each P limit (column + width_at e.extent column) es (All-tail P e es all)) tt

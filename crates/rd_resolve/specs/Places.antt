-- The types of a sequence in a line.
use Rattle.std.specs.Prelude.{◌≡◌, ℕ, List, [], ◌∷◌, map, slice_index, slice_index_or, slice_set}
use Rattle.rd_base.specs.declared.class.Class.{Class}
use Rattle.rd_base.specs.declared.class.Class.TheVariants.{L}
use Rattle.rd_base.specs.declared.line.Line.{Line}
use Rattle.rd_base.specs.Lines.{KeepsClasses}

-- the types, and the levels, at these indexes
abbrev pub types_at : List ℕ → List Class → List Class
types_at is ts = map (λ i. slice_index_or ts i L) is

abbrev pub levels_at : List ℕ → List ℕ → List ℕ
levels_at is ls = map (λ i. slice_index ls i) is

-- the types of a line once those at these indexes are others
abbrev pub put_at : List ℕ → List Class → List Class → List Class
put_at [] cs ts = ts
put_at (i ∷ is) [] ts = ts
put_at (i ∷ is) (c ∷ cs) ts = put_at is cs (slice_set ts i c)

-- the types of a line at these indexes became these, and all else of it is as it was
pub record TakesTypes (old new : Line) (is : List ℕ) (cs : List Class) : Type 0 where
  pub types : new.types ≡ put_at is cs old.types
  pub levels : new.levels ≡ old.levels
  pub rest : KeepsClasses old new

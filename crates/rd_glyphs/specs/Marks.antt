-- How marks join what stands directly before them, in any list of things that may join.
use Rattle.std.specs.Prelude.{ℕ, is_some, if◌then◌else◌, List, [], ◌∷◌, ◌++◌, Option, None, Some, option_map}
use Rattle.std.specs.Option.{unwrap_or}
use Rattle.rd_base.specs.Cells.{joined_glyph}
use Rattle.rd_base.specs.declared.cell.Glyph.{Glyph}

-- what is asked of a thing: the glyph that marks may join, the mark that it is itself, and how it stands with this longer glyph
-- when the thing behind it joined it
pub record Joins (A : Type 0) : Type 0 where
  pub base : A → Option Glyph
  pub mark : A → Option ℕ
  pub grown : A → Glyph → A → A

-- the glyph that a mark joins, with the mark, where it joins it
abbrev pub marked_glyph : Option Glyph → Option ℕ → Option Glyph
marked_glyph (Some g) (Some code) = joined_glyph g code
marked_glyph base mark = None

-- a thing with the mark of the next, where it joins it
abbrev pub marked : {A : Type 0} → Joins A → A → A → Option A
marked j held next = option_map (λ glyph. j.grown held glyph next) (marked_glyph (j.base held) (j.mark next))

-- things of which each mark has joined the one directly before it, where it may
abbrev pub marks_joined_from : {A : Type 0} → Joins A → A → List A → List A
marks_joined_from j held [] = held ∷ []
marks_joined_from j held (x ∷ xs) =
    (if is_some (marked j held x) then [] else held ∷ []) ++ marks_joined_from j (unwrap_or (marked j held x) x) xs

abbrev pub marks_joined : {A : Type 0} → Joins A → List A → List A
marks_joined j [] = []
marks_joined j (x ∷ xs) = marks_joined_from j x xs

-- the things behind one that is held for its marks
abbrev pub with_held : {A : Type 0} → Joins A → Option A → List A → List A
with_held j None xs = marks_joined j xs
with_held j (Some held) xs = marks_joined_from j held xs

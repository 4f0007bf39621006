-- What holds of things whose marks have joined.
use Rattle.std.proofs.Common.{◌≡◌, List, [], ◌∷◌, ◌++◌, Option, Some, None, option_map, refl, unwrap_or}
use Rattle.std.specs.Prelude.{is_some, if◌then◌else◌}
use Rattle.std.specs.List.{AllByRecursion}
use Rattle.rd_base.specs.declared.cell.Glyph.{Glyph}
use Rattle.rd_glyphs.specs.Marks.{Joins, marked_glyph, marks_joined_from, marks_joined}

-- what holds of what is held alone, and passes on where the next is held and where the held one grows, holds of all that is joined
pub joined-by : {A : Type 0} (j : Joins A) (P : A → List A → List A → Type 0) → ((held : A) → P held [] (held ∷ []))
    → ((held next : A) (xs ys : List A) → P next xs ys → P held (next ∷ xs) (held ∷ ys))
    → ((held next : A) (glyph : Glyph) (xs ys : List A) → marked_glyph (j.base held) (j.mark next) ≡ Some glyph → P (j.grown held glyph next) xs ys → P held (next ∷ xs) ys)
    → (held : A) (xs : List A) → P held xs (marks_joined_from j held xs)
joined-by j P alone apart joins held [] = alone held
joined-by {A = A} j P alone apart joins held (x ∷ xs) = by-glyph (marked_glyph (j.base held) (j.mark x)) refl (λ h. joined-by j P alone apart joins h xs) where
  by-glyph : (m : Option Glyph) → marked_glyph (j.base held) (j.mark x) ≡ m → ((h : A) → P h xs (marks_joined_from j h xs))
      → P held (x ∷ xs) ((if is_some (option_map (λ glyph. j.grown held glyph x) m) then [] else held ∷ []) ++ marks_joined_from j (unwrap_or (option_map (λ glyph. j.grown held glyph x) m) x) xs)
  by-glyph None e rest = apart held x xs (marks_joined_from j x xs) (rest x)
  by-glyph (Some g) e rest = joins held x g xs (marks_joined_from j (j.grown held g x) xs) e (rest (j.grown held g x))

-- a thing that a mark joins keeps what holds of all things
abbrev pub Grows : {A : Type 0} → Joins A → (A → Type 0) → Type 0
Grows {A} j P = (held next : A) (glyph : Glyph) → P held → P next → marked_glyph (j.base held) (j.mark next) ≡ Some glyph → P (j.grown held glyph next)

pub marks_joined-all : {A : Type 0} (j : Joins A) (P : A → Type 0) → Grows j P → (xs : List A) → AllByRecursion P xs → AllByRecursion P (marks_joined j xs)
marks_joined-all j P grows [] each = tt
marks_joined-all j P grows (x ∷ xs) each =
    joined-by j (λ held xs ys. P held → AllByRecursion P xs → AllByRecursion P ys) (λ held p none. (p, tt)) (λ held next xs ys rest p all. (p, rest all.0 all.1))
    (λ held next glyph xs ys e rest p all. rest (grows held next glyph p all.0 e) all.1) x xs each.0 each.1

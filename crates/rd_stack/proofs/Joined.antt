-- Marks that join make a list no longer.
use Rattle.std.proofs.Common.{suc, ◌≤◌, List, [], ◌∷◌, length, arith}
use Rattle.rd_glyphs.specs.Marks.{Joins, marks_joined}
use Rattle.rd_glyphs.proofs.Joined.{joined-by}

pub marks_joined-few : {A : Type 0} (j : Joins A) (xs : List A) → length (marks_joined j xs) ≤ length xs
marks_joined-few j [] = omega arith
marks_joined-few j (x ∷ xs) =
    joined-by j (λ held xs ys. length ys ≤ suc (length xs)) (λ held. omega arith) (λ held next xs ys rest. omega (arith, rest)) (λ held next glyph xs ys e rest. omega (arith, rest)) x xs

-- Screens over which rectangles are painted.
use Rattle.std.specs.Prelude.{ℕ, List, [], ◌∷◌, ◌++◌, take, drop, fold}
use Rattle.rd_tree.specs.declared.placed.Placed.{Placed}
use Rattle.rd_tree.specs.declared.rect.Rect.{Rect}
use Rattle.rd_term.specs.Pictures.{written_over}

-- rows with others over them, from a column on and from the first row down
abbrev pub laid_over : {C : Type 0} → ℕ → List (List C) → List (List C) → List (List C)
laid_over column [] rows = rows
laid_over column (new ∷ news) [] = []
laid_over column (new ∷ news) (row ∷ rows) = written_over column new row ∷ laid_over column news rows

-- rows with others over them, from a column on and from a row on
abbrev pub laid_from : {C : Type 0} → ℕ → ℕ → List (List C) → List (List C) → List (List C)
laid_from row column news rows = take row rows ++ laid_over column news (drop row rows)

-- the rows of a screen with others in place of those of a rectangle
abbrev pub with_rectangle : {C : Type 0} → Rect → List (List C) → List (List C) → List (List C)
with_rectangle rect news rows = laid_from rect.y rect.x news rows

-- the rows of a screen over which windows are painted, one after the other
abbrev pub painted : {C : Type 0} → (Placed → List (List C)) → List Placed → List (List C) → List (List C)
painted rows_of windows rows = fold (λ rows window. with_rectangle window.rect (rows_of window) rows) rows windows

-- the rows of a screen with others in place of its last, which is the echo area
abbrev pub with_echo : {C : Type 0} → List C → List (List C) → List (List C)
with_echo echo [] = []
with_echo echo (row ∷ []) = echo ∷ []
with_echo echo (row ∷ next ∷ rows) = row ∷ with_echo echo (next ∷ rows)

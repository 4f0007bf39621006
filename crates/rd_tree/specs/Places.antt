-- Where windows stand: what the laws of a window tree speak of.
use Rattle.std.specs.Prelude.{ℕ, ◌+◌, ◌≤◌, Bool, if◌then◌else◌, ◌==◌, ◌&&◌, List, [], ◌∷◌, ◌++◌, Option, None, Some}
use Rattle.std.specs.List.{AllByRecursion, list_any}
use Rattle.std.specs.Int.{from_bool}
use Rattle.rd_base.specs.Lists.{is_between, total}
use Rattle.rd_base.specs.declared.limits.TheConstants.{FRAME_COLUMNS, FRAME_ROWS, LEAST_WINDOW_COLUMNS}
use Rattle.rd_tree.specs.declared.rect.Rect.{Rect}
use Rattle.rd_tree.specs.declared.placed.Placed.{Placed}
use Rattle.rd_tree.specs.Windows.{Windows, Window, Split, columns_for, rows_for, first_part, second_part, holds, is_leaf_of}

-- whether a place is one of so many from the first on
abbrev pub is_from : ℕ → ℕ → ℕ → Bool
is_from first size place = is_between first (first + size) place

-- whether the cell at a column and a row lies in a rectangle
abbrev pub lies_in : ℕ → ℕ → Rect → Bool
lies_in column row rect = is_from rect.x rect.width column && is_from rect.y rect.height row

-- in how many of the windows a cell lies
abbrev pub windows_with : ℕ → ℕ → List Placed → ℕ
windows_with column row windows = total (λ window. from_bool (lies_in column row window.rect)) windows

-- each window has the columns and rows that it needs
abbrev pub AllHaveRoom : List Placed → Type 0
AllHaveRoom windows = AllByRecursion (λ (window : Placed). (columns_for window.margins ≤ window.rect.width) × (rows_for window.mode ≤ window.rect.height)) windows

-- a rectangle lies in another
abbrev pub IsWithin : Rect → Rect → Type 0
IsWithin rect whole = (whole.x ≤ rect.x) × (rect.x + rect.width ≤ whole.x + whole.width) × (whole.y ≤ rect.y) × (rect.y + rect.height ≤ whole.y + whole.height)

-- a window stands in a rectangle and has the columns and rows that it needs
abbrev pub StandsIn : Placed → Rect → Type 0
StandsIn window rect = IsWithin window.rect rect × (columns_for window.margins ≤ window.rect.width) × (rows_for window.mode ≤ window.rect.height)

-- a rectangle that is answered lies in another, which is at most 400 columns and 200 rows, and has 11 columns and 1 row at
-- least
abbrev pub LiesIn : Option Rect → Rect → Type 0
LiesIn None whole = Unit {0}
LiesIn (Some rect) whole = IsWithin rect whole × (LEAST_WINDOW_COLUMNS ≤ rect.width) × (1 ≤ rect.height) × (whole.width ≤ FRAME_COLUMNS) × (whole.height ≤ FRAME_ROWS)

-- a list where others stand for the first element that passes a test
abbrev pub replaced_first : {X : Type 0} → (X → Bool) → (X → List X) → List X → List X
replaced_first p others [] = []
replaced_first p others (x ∷ xs) = if p x then others x ++ xs else x ∷ replaced_first p others xs

-- the windows where others stand for the first that has a number
abbrev pub in_place_of : ℕ → (Placed → List Placed) → List Placed → List Placed
in_place_of number = replaced_first (λ (window : Placed). window.number == number)

-- the numbers without the first that is the given one
abbrev pub without : ℕ → List ℕ → List ℕ
without number = replaced_first (λ (n : ℕ). n == number) (λ _. [])

-- whether a number is among some
abbrev pub is_among : ℕ → List ℕ → Bool
is_among number numbers = list_any (λ (n : ℕ). n == number) numbers

-- the rectangle that the window with a number shares with its sibling
abbrev pub shared_place : ℕ → Windows → Rect → Rect
shared_place number (Window n mode margins) rect = rect
shared_place number (Split side size first second) rect =
    if is_leaf_of number first
    then rect
    else (if is_leaf_of number second
    then rect
    else (if holds number first then shared_place number first (first_part side size rect) else shared_place number second (second_part side size rect)))

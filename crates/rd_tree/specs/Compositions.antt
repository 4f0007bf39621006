-- The rows of a frame, put together from the rows that its windows show.
use Rattle.std.specs.Prelude.{◌≡◌, ℕ, true, List, [], ◌∷◌, ◌++◌, length, All, slice_get, Option, Some}
use Rattle.rd_base.specs.Cells.{row_at}
use Rattle.rd_tree.specs.declared.rect.Rect.{Rect}
use Rattle.rd_tree.specs.declared.placed.Placed.{Placed}
use Rattle.rd_tree.specs.declared.side.Side.{Side}
use Rattle.rd_tree.specs.declared.side.Side.TheVariants.{Below, Right}
use Rattle.rd_tree.specs.Windows.{Windows, Window, Split, first_part, second_part}
use Rattle.rd_tree.specs.Places.{lies_in}

-- each row with the row to its right
abbrev pub beside : {C : Type 0} → List (List C) → List (List C) → List (List C)
beside [] rights = []
beside (left ∷ lefts) [] = []
beside (left ∷ lefts) (right ∷ rights) = (left ++ right) ∷ beside lefts rights

-- the rows of both parts of a split rectangle
abbrev pub both_parts : {C : Type 0} → Side → List (List C) → List (List C) → List (List C)
both_parts Below first second = first ++ second
both_parts Right first second = beside first second

-- the rows of a rectangle that windows fill, by the rows of each window
abbrev pub composed : {C : Type 0} → (Placed → List (List C)) → Windows → Rect → List (List C)
composed rows_of (Window number mode margins) rect = rows_of (record { number = number; mode = mode; margins = margins; rect = rect })
composed rows_of (Split side size first second) rect =
    both_parts side (composed rows_of first (first_part side size rect)) (composed rows_of second (second_part side size rect))

-- the cell at a column and a row, counted from 0
abbrev pub cell_at : {C : Type 0} → ℕ → ℕ → List (List C) → Option C
cell_at column row rows = slice_get (row_at rows row) column

-- so many rows of so many cells
abbrev pub HasSize : {C : Type 0} → ℕ → ℕ → List (List C) → Type 0
HasSize width height rows = (length rows ≡ height) × All (λ row. length row ≡ width) rows

-- a window's rows fill its rectangle
abbrev pub FillsItsRectangle : {C : Type 0} → (Placed → List (List C)) → Placed → Type 0
FillsItsRectangle rows_of window = HasSize window.rect.width window.rect.height (rows_of window)

abbrev pub FillTheirRectangles : {C : Type 0} → (Placed → List (List C)) → List Placed → Type 0
FillTheirRectangles rows_of windows = All (FillsItsRectangle rows_of) windows

-- one of the windows holds a cell
abbrev pub IsHeld : ℕ → ℕ → List Placed → Type 0
IsHeld column row windows = (i : ℕ) × (window : Placed) × (slice_get windows i ≡ Some window) × (lies_in column row window.rect ≡ true)

-- The windows of a frame: how they share its rectangle, what they need, and where each stands.
use Rattle.std.specs.Prelude.{ℕ, ◌+◌, ◌-◌, ◌≤◌, max, Bool, true, false, if◌then◌else◌, nat_le, ◌==◌, ◌&&◌, ◌||◌, List, [], ◌∷◌, ◌++◌, Option, find}
use Rattle.rd_base.specs.declared.limits.TheConstants.{FRAME_COLUMNS, FRAME_ROWS, LEAST_WINDOW_COLUMNS}
use Rattle.rd_tree.specs.declared.rect.Rect.{Rect}
use Rattle.rd_tree.specs.declared.side.Side.{Side}
use Rattle.rd_tree.specs.declared.side.Side.TheVariants.{Below, Right}
use Rattle.rd_tree.specs.declared.placed.Placed.{Placed}

-- one window, with its number, whether it shows a mode line and how many columns its margins take; or a split rectangle, whose
-- first part, on top or to the left, has so many rows or columns, with the windows of the first part and those of the second
pub data Windows : Type 0 where
  Window : ℕ → Bool → ℕ → Windows
  Split : Side → ℕ → Windows → Windows → Windows

-- how many columns a window needs: 10 of text, 1 for a border, and those of its margins
abbrev pub columns_for : ℕ → ℕ
columns_for margins = LEAST_WINDOW_COLUMNS + margins

-- how many rows a window needs
abbrev pub rows_for : Bool → ℕ
rows_for mode = if mode then 2 else 1

-- how many columns some windows need: the sum of both parts along a split, and the greater across it
abbrev pub columns_needed : Windows → ℕ
columns_needed (Window number mode margins) = columns_for margins
columns_needed (Split Right size first second) = columns_needed first + columns_needed second
columns_needed (Split Below size first second) = max (columns_needed first) (columns_needed second)

-- how many rows a tree of windows needs
abbrev pub rows_needed : Windows → ℕ
rows_needed (Window number mode margins) = rows_for mode
rows_needed (Split Right size first second) = max (rows_needed first) (rows_needed second)
rows_needed (Split Below size first second) = rows_needed first + rows_needed second

-- the two parts of a rectangle that is split
abbrev pub first_part : Side → ℕ → Rect → Rect
first_part Right size rect = record rect { width = size }
first_part Below size rect = record rect { height = size }

abbrev pub second_part : Side → ℕ → Rect → Rect
second_part Right size rect = record rect { x = rect.x + size; width = rect.width - size }
second_part Below size rect = record rect { y = rect.y + size; height = rect.height - size }

-- how much of a rectangle a split shares
abbrev pub along : Side → Rect → ℕ
along Right rect = rect.width
along Below rect = rect.height

-- a rectangle lies in a frame of the greatest size
abbrev pub InFrame : Rect → Type 0
InFrame rect = (rect.x + rect.width ≤ FRAME_COLUMNS) × (rect.y + rect.height ≤ FRAME_ROWS)

-- a rectangle has what some windows need
abbrev pub NeedsMet : Windows → Rect → Type 0
NeedsMet windows rect = (columns_needed windows ≤ rect.width) × (rows_needed windows ≤ rect.height)

-- each first part is at least as large as its windows need
abbrev pub FirstPartsFit : Windows → Type 0
FirstPartsFit (Window number mode margins) = Unit {0}
FirstPartsFit (Split Right size first second) = (columns_needed first ≤ size) × FirstPartsFit first × FirstPartsFit second
FirstPartsFit (Split Below size first second) = (rows_needed first ≤ size) × FirstPartsFit first × FirstPartsFit second

-- the numbers of the windows in order, those of a first part before those of the second
abbrev pub leaves : Windows → List ℕ
leaves (Window number mode margins) = number ∷ []
leaves (Split side size first second) = leaves first ++ leaves second

-- the windows in order with their rectangles, where they fill a rectangle together
abbrev pub placed : Windows → Rect → List Placed
placed (Window number mode margins) rect = record { number = number; mode = mode; margins = margins; rect = rect } ∷ []
placed (Split side size first second) rect = placed first (first_part side size rect) ++ placed second (second_part side size rect)

-- the first window with a number
abbrev pub of_number : ℕ → List Placed → Option Placed
of_number number windows = find (λ (window : Placed). window.number == number) windows

abbrev pub window_at : ℕ → Windows → Rect → Option Placed
window_at number windows rect = of_number number (placed windows rect)

-- whether a window with a number is among them
abbrev pub holds : ℕ → Windows → Bool
holds number (Window n mode margins) = n == number
holds number (Split side size first second) = holds number first || holds number second

-- each window has the columns and rows that it needs
abbrev pub HasRoom : Windows → Rect → Type 0
HasRoom (Window number mode margins) rect = (columns_for margins ≤ rect.width) × (rows_for mode ≤ rect.height)
HasRoom (Split side size first second) rect = HasRoom first (first_part side size rect) × HasRoom second (second_part side size rect)

-- whether each window has the columns and rows that it needs
abbrev pub fits : Windows → Rect → Bool
fits (Window number mode margins) rect = nat_le (columns_for margins) rect.width && nat_le (rows_for mode) rect.height
fits (Split side size first second) rect = fits first (first_part side size rect) && fits second (second_part side size rect)

-- the size of the first part where a rectangle is shared anew: the second part has what is left behind the first part's old size,
-- but at least what it needs, and the first part has the rest
abbrev pub first_size : Side → ℕ → Windows → Rect → ℕ
first_size Right size second rect = rect.width - max (columns_needed second) (rect.width - size)
first_size Below size second rect = rect.height - max (rows_needed second) (rect.height - size)

-- the windows where they share another rectangle
abbrev pub resized : Windows → Rect → Windows
resized (Window number mode margins) rect = Window number mode margins
resized (Split side size first second) rect =
    let new = first_size side size second rect in
    Split side new (resized first (first_part side new rect)) (resized second (second_part side new rect))

-- the windows where something else stands for the window with a number, by whether it shows a mode line and by its margins
abbrev pub replaced : ℕ → (Bool → ℕ → Windows) → Windows → Windows
replaced number other (Window n mode margins) = if n == number then other mode margins else Window n mode margins
replaced number other (Split side size first second) =
    if holds number first then Split side size (replaced number other first) second else Split side size first (replaced number other second)

-- a window that keeps the first rows or columns of its rectangle, and a new window, which shows a mode line where the old one does
-- and has its margins
abbrev pub halves : ℕ → Side → ℕ → ℕ → Bool → ℕ → Windows
halves number side size new mode margins = Split side size (Window number mode margins) (Window new mode margins)

-- the windows where the window with a number is split
abbrev pub split_at : ℕ → Side → ℕ → ℕ → Windows → Windows
split_at number side size new windows = replaced number (halves number side size new) windows

-- the windows where the window with a number shows a mode line or does not
abbrev pub with_mode : ℕ → Bool → Windows → Windows
with_mode number shown windows = replaced number (λ _ margins. Window number shown margins) windows

-- the windows where the margins of the window with a number take so many columns
abbrev pub with_margins : ℕ → ℕ → Windows → Windows
with_margins number columns windows = replaced number (λ mode _. Window number mode columns) windows

-- the windows where the one with the number of a window has its mode line and its margins
abbrev pub dressed : Placed → Windows → Windows
dressed window windows = replaced window.number (λ _ _. Window window.number window.mode window.margins) windows

-- whether a tree is one window alone, with this number
abbrev pub is_leaf_of : ℕ → Windows → Bool
is_leaf_of number (Window n mode margins) = n == number
is_leaf_of number (Split side size first second) = false

-- whether a tree is one window alone
abbrev pub is_single : Windows → Bool
is_single (Window number mode margins) = true
is_single (Split side size first second) = false

-- what shares a split rectangle with the window with a number
abbrev pub sibling : ℕ → Windows → Windows
sibling number (Window n mode margins) = Window n mode margins
sibling number (Split side size first second) =
    if is_leaf_of number first then second else (if is_leaf_of number second then first else (if holds number first then sibling number first else sibling number second))

-- the windows without the window with a number: its sibling takes the rectangle of both
abbrev pub removed : ℕ → Windows → Rect → Windows
removed number (Window n mode margins) rect = Window n mode margins
removed number (Split side size first second) rect =
    if is_leaf_of number first
    then resized second rect
    else (if is_leaf_of number second
    then resized first rect
    else (if holds number first
    then Split side size (removed number first (first_part side size rect)) second
    else Split side size first (removed number second (second_part side size rect))))

-- the first window in order
abbrev pub first_leaf : Windows → ℕ
first_leaf (Window number mode margins) = number
first_leaf (Split side size first second) = first_leaf first

-- how many of the windows have a number
abbrev pub times : ℕ → Windows → ℕ
times number (Window n mode margins) = if n == number then 1 else 0
times number (Split side size first second) = times number first + times number second

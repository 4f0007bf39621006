-- What an update asks of the terminal that reads its bytes, and what it then shows.
use Rattle.std.specs.Prelude.{◌≡◌, ℕ, ◌<◌, ◌≤◌, true, false, List, length, Option, None, Some, slice_index_or}
use Rattle.rd_base.specs.declared.limits.TheConstants.{FRAME_COLUMNS, FRAME_ROWS}
use Rattle.rd_base.specs.Faces.{plain}
use Rattle.rd_base.specs.declared.cell.Cell.{Cell}
use Rattle.rd_term.specs.Pictures.{Picture, IsGrid, IsOfSize, IsWellFormed}
use Rattle.rd_base.specs.Cells.{AreColoured}
use Rattle.rd_term.specs.Terminals.{Tty, known}
use Rattle.rd_term.specs.declared.reading.Reading.TheVariants.{Between}
use Rattle.rd_base.specs.Equals.{same_cell}
use Rattle.rd_update.specs.Updates.{Update, goes_on}

-- a screen in which each glyph stands whole, its cursor is on it, and each colour is in its range
pub record IsSound (picture : Picture) : Type 0 where
  pub whole : IsWellFormed picture
  pub colours : AreColoured picture.rows

-- a known current screen is what the terminal shows, and the terminal's pen is plain
abbrev pub IsCurrent : ℕ → ℕ → Option Picture → Tty → Type 0
IsCurrent width height None t = Unit {0}
IsCurrent width height (Some screen) t = IsOfSize width height screen × (t.rows ≡ known screen.rows) × (t.pen ≡ Some plain)

-- a terminal of this size, of whose screen this is known, that is not confused and stands between two sequences; a wait may stand
pub record AtFrame (width height : ℕ) (current : Option Picture) (t : Tty) : Type 0 where
  pub sure : t.confused ≡ false
  pub between : t.reading ≡ Between
  pub rows : length t.rows ≡ height
  pub each : IsGrid width t.rows
  pub now : IsCurrent width height current t

-- what an update asks: a terminal as `AtFrame` says, within the bounds of a frame, and a sound target of its size
pub record IsReady (width height : ℕ) (current : Option Picture) (target : Picture) (t : Tty) : Type 0 where
  pub there : AtFrame width height current t
  pub wide : width ≤ FRAME_COLUMNS
  pub tall : height ≤ FRAME_ROWS
  pub size : IsOfSize width height target
  pub sound : IsSound target

-- behind an update the terminal's cells are those of the new current screen, its pen is plain, and where the update is done its cursor is
-- the target's
pub record IsUpdated (width height : ℕ) (u : Update) (target : Picture) (t : Tty) : Type 0 where
  pub sure : t.confused ≡ false
  pub between : t.reading ≡ Between
  pub size : IsOfSize width height u.screen
  pub cells : t.rows ≡ known u.screen.rows
  pub pen : t.pen ≡ Some plain
  pub cursor : u.done ≡ true → t.cursor ≡ Some (target.row, target.column)

-- these columns hold all those at which two rows differ
abbrev pub HoldsDifferences : List Cell → List Cell → ℕ → ℕ → Type 0
HoldsDifferences old new from to = (k : ℕ) (d : Cell) → k < length new → same_cell (slice_index_or old k d) (slice_index_or new k d) ≡ false → (from ≤ k) × (k < to)

-- no character of either row goes on at the first of these columns, nor at the one behind them
abbrev pub CutsNone : List Cell → List Cell → ℕ → ℕ → Type 0
CutsNone old new from to = (goes_on old new from ≡ false) × (goes_on old new to ≡ false)

-- the least interval that holds all differences and cuts no character
pub record IsLeastInterval (old new : List Cell) (from to : ℕ) : Type 0 where
  pub holds : HoldsDifferences old new from to
  pub whole : CutsNone old new from to
  pub least : (x y : ℕ) → HoldsDifferences old new x y → CutsNone old new x y → (x ≤ from) × (to ≤ y)

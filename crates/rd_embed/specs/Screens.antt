-- What is told of the screen: its rows, and what stands under a cell.
use Rattle.std.specs.Prelude.{◌≡◌, ℕ, List, map, Option, None, Some, option_and_then, option_map, slice_get}
use Rattle.rd_base.specs.declared.cell.Cell.{Cell}
use Rattle.rd_dump.specs.Dumps.{cell_text}
use Rattle.rd_layout.specs.declared.spot.Shows.{Shows}
use Rattle.rd_layout.specs.declared.spot.Shows.TheVariants.{Position, NoPosition, Unknown}
use Rattle.rd_layout.specs.declared.spot.Spot.{Spot}
use Rattle.rd_layout.specs.declared.spot.Spot.TheVariants.{Text, Margin, ModeLine, Border, EchoArea}
use Rattle.rd_term.specs.Pictures.{Picture}
use Rattle.rd_embed.specs.Fills.{Fills}
use Rattle.rd_embed.specs.ToldCells.{told_cell}
use Rattle.rd_embed.specs.declared.choices.TheConstants.{NONE}
use Rattle.rd_embed.specs.declared.screen.SpotTold.{SpotTold}
use Rattle.rd_embed.specs.declared.told_cells.CellTold.{CellTold}

-- the cells of a row of the screen, where it is known and has the row
abbrev pub row_of : Option Picture → ℕ → Option (List Cell)
row_of screen row = option_and_then (λ s. slice_get s.rows row) screen

-- the first cells of a row are the front of a buffer, as many as there is room for; where there is no row nothing is put in
abbrev pub GivesRow : Option ℕ → Option (List Cell) → List CellTold → List CellTold → Type 0
GivesRow (Some count) (Some cells) before after = Fills count (map told_cell cells) before after
GivesRow None None before after = after ≡ before
GivesRow count cells before after = ⊥

-- the texts of the cells of a row
abbrev pub row_texts : Option Picture → ℕ → Option (List (List ℕ))
row_texts screen row = option_map (map cell_text) (row_of screen row)

-- ---- what stands under a cell

-- the position that a cell shows
abbrev pub position_shown : Shows → ℕ
position_shown (Position pos) = pos
position_shown NoPosition = NONE
position_shown Unknown = NONE

-- what is told of a part that shows no position
abbrev pub part_of : ℕ → ℕ → SpotTold
part_of part window = record { part = part; window = window; position = NONE; row = 0; column = 0 }

-- what is told of what stands under a cell
abbrev pub told_spot : Spot → SpotTold
told_spot (Text window row column shows) = record { part = 0; window = window; position = position_shown shows; row = row; column = column }
told_spot (Margin window) = part_of 1 window
told_spot (ModeLine window) = part_of 2 window
told_spot (Border window) = part_of 3 window
told_spot EchoArea = part_of 4 NONE

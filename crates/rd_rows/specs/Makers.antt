-- The inside of a maker of rows: a row that is being made, and a line that is being cut.
use Rattle.std.specs.Prelude.{◌≡◌, ℕ, ◌+◌, ◌≤◌, Bool, true, false, ◌&&◌, ◌||◌, not, if◌then◌else◌, List, [], ◌∷◌, ◌++◌, length, flat_map, Option, None, Some}
use Rattle.rd_base.specs.Elements.{AreSound}
use Rattle.rd_base.specs.declared.element.Element.{Element}
use Rattle.rd_base.specs.declared.limits.TheConstants.{FRAME_COLUMNS}
use Rattle.rd_rows.specs.declared.cutting.Cutting.{Cutting}
use Rattle.rd_rows.specs.declared.draft.Draft.{Draft}
use Rattle.rd_rows.specs.declared.draft.Break.{Break}
use Rattle.rd_rows.specs.declared.filling.Filling.{Filling}
use Rattle.rd_rows.specs.declared.spot.Placed.{Placed}
use Rattle.rd_rows.specs.declared.spot.Spot.{Spot}
use Rattle.rd_rows.specs.Copies.{RowValues}
use Rattle.rd_rows.specs.Cuts.{has_break, up_to_break, ends_some, fitting, room_for}
use Rattle.rd_rows.specs.Leads.{HasLeads}
use Rattle.rd_rows.specs.Left.{MakerValues, IsLine, rows_behind}
use Rattle.rd_rows.specs.Placing.{place_all, behind, behind_all, fits, next_line}
use Rattle.rd_rows.specs.Rows.{seen_in, begin_of, finished_row}
use Rattle.rd_rows.specs.Shapes.{ShapeValues, is_word}

-- an element was placed: its cells and its item come behind the others'
pub record Grows (shape : ShapeValues) (p : Placed) (old new : Draft) : Type 0 where
  pub cells : new.cells ≡ old.cells ++ seen_in shape p
  pub begins : new.begins ≡ old.begins ++ begin_of shape p
  pub spot : new.spot ≡ behind old.spot p
  pub placed : new.placed ≡ old.placed + 1

-- what stands in a row: a prefix, and behind it from a spot on these elements of the line
abbrev pub standing : ShapeValues → List Placed → Spot → List Element → List Placed
standing shape lead start xs = lead ++ place_all shape start xs

abbrev pub reached : ShapeValues → Spot → List Element → Spot
reached shape start xs = behind_all start (place_all shape start xs)

-- a draft in which these stand
pub record IsDraft (shape : ShapeValues) (lead : List Placed) (start : Spot) (xs : List Element) (draft : Draft) : Type 0 where
  pub cells : draft.cells ≡ flat_map (seen_in shape) (standing shape lead start xs)
  pub begins : draft.begins ≡ flat_map (begin_of shape) (standing shape lead start xs)
  pub spot : draft.spot ≡ reached shape start xs
  pub placed : draft.placed ≡ length lead + length xs

-- the place in a draft behind these
pub record IsBreak (shape : ShapeValues) (lead : List Placed) (start : Spot) (xs : List Element) (b : Break) : Type 0 where
  pub cells : b.cells ≡ length (flat_map (seen_in shape) (standing shape lead start xs))
  pub begins : b.begins ≡ length (flat_map (begin_of shape) (standing shape lead start xs))
  pub spot : b.spot ≡ reached shape start xs
  pub placed : b.placed ≡ length lead + length xs

-- whether a row of these elements can be left at a break
abbrev pub can_wrap : ShapeValues → List Element → Bool
can_wrap shape xs = is_word shape.wrap && has_break xs

-- the elements that stay in a row which is left
abbrev pub kept_of : ShapeValues → List Element → List Element
kept_of shape xs = if can_wrap shape xs then up_to_break xs else xs

-- the last break of these elements, and those behind it
abbrev pub IsNoted : ShapeValues → List Placed → Spot → List Element → Option Break → List Element → Type 0
IsNoted shape lead start xs None waiting = (can_wrap shape xs ≡ false) × (waiting ≡ [])
IsNoted shape lead start xs (Some b) waiting =
    (can_wrap shape xs ≡ true) × IsBreak shape lead start (up_to_break xs) b × (xs ≡ up_to_break xs ++ waiting)

abbrev pub is_empty : List Element → Bool
is_empty [] = true
is_empty (e ∷ es) = false

-- a row that is being made, in which these stand
pub record IsFilling (shape : ShapeValues) (lead : List Placed) (start : Spot) (xs : List Element) (f : Filling) : Type 0 where
  pub draft : IsDraft shape lead start xs f.draft
  pub empty : f.empty ≡ is_empty xs
  pub noted : IsNoted shape lead start xs f.last_break f.waiting

-- whether there is room for an element behind these
abbrev pub has_room : ShapeValues → List Element → Spot → Element → Bool
has_room shape xs spot e = is_empty xs || fits shape spot e

-- the elements for which there is room behind these
abbrev pub room_behind : ShapeValues → List Element → Spot → List Element → List Element
room_behind shape [] spot es = room_for shape spot es
room_behind shape (x ∷ xs) spot es = fitting shape spot es

-- rows of at most 400 columns can be made: at most 400 elements wait, which are sound and end no row
pub record IsMaking (m : MakerValues) : Type 0 where
  pub leads : HasLeads m.cutting
  pub sound : AreSound m.held
  pub on : ends_some m.held ≡ false
  pub narrow : m.cutting.shape.width ≤ FRAME_COLUMNS
  pub few : length m.held ≤ FRAME_COLUMNS

-- the row of these elements, which take so many columns
abbrev pub row_standing : Cutting → List Placed → Spot → List Element → Bool → Bool → RowValues
row_standing c lead start xs continued ends_block = record {
  shown = finished_row c (reached c.shape start xs).used (flat_map (seen_in c.shape) (standing c.shape lead start xs)) (flat_map (begin_of c.shape) (standing c.shape lead start xs)) continued ends_block;
  copies = 0;
}

-- a row was left behind those of its elements that stay, which the elements that wait follow
pub record Leaves (m n : MakerValues) (lead : List Placed) (start : Spot) (xs : List Element) (e : Element) (row : RowValues) (weight : ℕ) : Type 0 where
  pub row_is : row ≡ row_standing m.cutting lead start (kept_of m.cutting.shape xs) (not (can_wrap m.cutting.shape xs)) false
  pub weight_is : weight ≡ length lead + length (kept_of m.cutting.shape xs)
  pub waits : kept_of m.cutting.shape xs ++ n.held ≡ xs ++ e ∷ m.held
  pub next : n ≡ record { cutting = m.cutting; spot = reached m.cutting.shape start (kept_of m.cutting.shape xs); continued = true; held = n.held; finished = m.finished }

-- a row was ended behind its last element
pub record Ends (m n : MakerValues) (lead : List Placed) (start : Spot) (xs : List Element) (line_end : Bool) (row : RowValues) (weight : ℕ) : Type 0 where
  pub row_is : row ≡ row_standing m.cutting lead start xs false line_end
  pub weight_is : weight ≡ length lead + length xs
  pub next : n ≡ record { cutting = m.cutting; spot = next_line (reached m.cutting.shape start xs); continued = false; held = m.held; finished = line_end }

-- the next row of a line, and what is left of it
pub record Cuts (m n : MakerValues) (es fs : List Element) (row : RowValues) (weight : ℕ) : Type 0 where
  pub row_is : rows_behind m es ≡ record { row = row.shown; weight = weight } ∷ rows_behind n fs
  pub fresh : row.copies ≡ 0
  pub last : n.finished ≡ row.shown.ends_block
  pub on : ends_some n.held ≡ false
  pub line : n.finished ≡ false → IsLine n.spot.column (n.held ++ fs)

-- A mark stands whole in its cell, and its colours are in their range. What holds of marks holds of rows in which they stand.
use Rattle.std.proofs.Common.{◌≡◌, ℕ, ◌+◌, ◌-◌, ◌&&◌, nat_lt, Bool, true, false, List, [], ◌∷◌, ◌++◌, length, flat_map, refl}
use Rattle.std.specs.List.{AllByRecursion}
use Rattle.rd_base.proofs.Choices.{either}
use Rattle.rd_base.specs.Cells.{IsColoured}
use Rattle.rd_base.specs.Faces.{plain}
use Rattle.rd_base.specs.Glyphs.{is_space, blanks, IsRowAfter}
use Rattle.rd_base.specs.declared.cell.Cell.{Cell}
use Rattle.rd_base.specs.declared.cell.Glyph.{Glyph}
use Rattle.rd_base.proofs.Colours.{plain-coloured}
use Rattle.rd_rows.specs.declared.cutting.Cutting.{Cutting}
use Rattle.rd_rows.specs.declared.spot.Placed.{Placed}
use Rattle.rd_rows.specs.Rows.{seen_in, mark, front_mark, filled, last_cell}
use Rattle.rd_rows.specs.Shapes.{room, truncates}
use Rattle.rd_rows.specs.Whole.{IsMark}

mark-by : (space : Bool) (g : Glyph) → is_space g ≡ space → IsMark g → IsRowAfter 0 (mark g ∷ [])
mark-by true g h m = rw h tt
mark-by false g h m = let one = m.columns in rw h (record { measured = m.measured; seen = h }, rw one tt)

pub mark-whole : (g : Glyph) → IsMark g → IsRowAfter 0 (mark g ∷ [])
mark-whole g m = mark-by (is_space g) g refl m

pub mark-coloured : (g : Glyph) → IsColoured (mark g)
mark-coloured g = either IsColoured (is_space g) _ _ plain-coloured plain-coloured

-- what holds of blanks, of the marks and of what is seen of each element, and of cells that are joined where it holds of both parts, holds
-- of a row's cells before it is turned to its edge
module _ (P : List Cell → Type 0) (join : (xs ys : List Cell) → P xs → P ys → P (xs ++ ys)) (nil : P []) (empty : (n : ℕ) → P (blanks n plain)) (c : Cutting) (cut : P (mark c.truncation ∷ [])) (goes : P (mark c.continuation ∷ [])) where
  abbrev Alone : Cell → Type 0
  Alone x = P (x ∷ [])

  last-has : (used : ℕ) (continued : Bool) → Alone (last_cell c used continued)
  last-has used continued =
      either Alone (truncates c.shape) _ _ (either Alone (nat_lt (c.shape.hscroll + room c.shape) used) _ _ cut (empty 1)) (either Alone continued _ _ goes (empty 1))

  all-has : (ps : List Placed) → AllByRecursion (λ p. P (seen_in c.shape p)) ps → P (flat_map (seen_in c.shape) ps)
  all-has [] each = nil
  all-has (p ∷ ps) each = join (seen_in c.shape p) (flat_map (seen_in c.shape) ps) each.0 (all-has ps each.1)

  pub row-has : (used : ℕ) (continued : Bool) (ps : List Placed) → AllByRecursion (λ p. P (seen_in c.shape p)) ps
      → P (filled (room c.shape) (front_mark c used ++ flat_map (seen_in c.shape) ps) ++ last_cell c used continued ∷ [])
  row-has used continued ps each =
      let body = front_mark c used ++ flat_map (seen_in c.shape) ps in
      let front = either P (nat_lt 0 c.shape.hscroll && nat_lt 0 used) _ _ cut nil in
      join (filled (room c.shape) body) _ (join body _ (join (front_mark c used) _ front (all-has ps each)) (empty (room c.shape - length body))) (last-has used continued)

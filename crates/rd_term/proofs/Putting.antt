-- A character that is put at a place, as the code does it.
use Rattle.std.proofs.Common.{◌≡◌, ℕ, ◌+◌, ◌-◌, Bool, List, [], length, get_or, set, min, nat_le, map, Option, Some, refl, ap, ◌∙◌}
use Rattle.rd_base.specs.Cells.{single}
use Rattle.rd_base.specs.Faces.{Attributes}
use Rattle.rd_base.specs.Glyphs.{glyph_cells}
use Rattle.rd_base.specs.declared.cell.Glyph.{Glyph}
use Rattle.rd_base.specs.declared.cell.Cell.{Cell}
use Rattle.rd_term.specs.Overwriting.{overwritten}
use Rattle.rd_term.specs.Terminals.{Tty, put_at}
use Rattle.rd_term.specs.declared.reading.Reading.{Reading}

pub put-made : (rows : List (List (Option Cell))) (region cursor : Option (ℕ × ℕ)) (wait : Bool) (pen : Option Attributes) (latest : Option (ℕ × ℕ)) (reading : Reading) (confused : Bool)
    → (row column : ℕ) (g : Glyph) (face : Attributes) (cells new : List (Option Cell)) (long next : ℕ)
    → cells ≡ get_or rows row [] → long ≡ length cells → new ≡ overwritten column (map Some (glyph_cells g.width g face)) cells
    → next ≡ min (column + g.width) (long - 1) → g ≡ single g.base g.width
    → let t : Tty = record { rows = rows; region = region; cursor = cursor; wait = wait; pen = pen; latest = latest; reading = reading; confused = confused } in
    let u : Tty = record { rows = set rows row new; region = region; cursor = Some (row, next); wait = nat_le long (column + g.width); pen = pen; latest = Some (row, column); reading = reading; confused = confused } in
    u ≡ put_at g.base g.width face row column t
put-made rows region cursor wait pen latest reading confused row column g face cells new long next p q r s e =
    let long_is : long ≡ length (get_or rows row []) = q ∙ ap length p in
    let next_is : next ≡ min (column + g.width) (length (get_or rows row []) - 1) = s ∙ ap (λ k. min (column + g.width) (k - 1)) long_is in
    let new_is : new ≡ overwritten column (map Some (glyph_cells g.width (single g.base g.width) face)) (get_or rows row []) =
    r ∙ ap (λ x. overwritten column (map Some (glyph_cells g.width x face)) cells) e ∙ ap (λ cs. overwritten column (map Some (glyph_cells g.width (single g.base g.width) face)) cs) p in
    rw (next_is, new_is, long_is) refl

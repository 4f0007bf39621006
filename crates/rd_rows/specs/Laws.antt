-- What holds of the rows of every line.
use Rattle.std.specs.Prelude.{◌≡◌, ℕ, ◌+◌, ◌*◌, Bool, false, not, ◌&&◌, if◌then◌else◌, List, [], ◌∷◌, ◌++◌, map, flat_map, length, Option, Some}
use Rattle.rd_base.specs.Lists.{total}
use Rattle.rd_base.specs.declared.element.Element.{Element}
use Rattle.rd_rows.specs.declared.begin.Begin.{Begin}
use Rattle.rd_rows.specs.declared.cutting.Cutting.{Cutting}
use Rattle.rd_rows.specs.Placing.{is_item, ends_row}
use Rattle.rd_rows.specs.Rows.{RowMeaning, LaidRow, weight_of}

-- what is seen of the rows of a line
abbrev pub seen_rows : List LaidRow → List RowMeaning
seen_rows rows = map (λ r. r.row) rows

-- whether the last row, and no other, ends the block
abbrev pub ends_last : List RowMeaning → Bool
ends_last [] = false
ends_last (r ∷ []) = r.ends_block
ends_last (r ∷ s ∷ rs) = not r.ends_block && ends_last (s ∷ rs)

-- the items that begin in rows
abbrev pub begins_of : List RowMeaning → List Begin
begins_of rows = flat_map (λ r. r.begins) rows

abbrev pub range_of : Begin → ℕ × ℕ
range_of b = (b.from, b.to)

-- the ranges of the items whose first element is among these, behind an element of an item
abbrev pub ranges_of : Option ℕ → List Element → List (ℕ × ℕ)
ranges_of before [] = []
ranges_of before (e ∷ es) =
    (if is_item before e.origin.item then [] else (e.origin.from, e.origin.to) ∷ []) ++ ranges_of (Some e.origin.item) es

-- how many lines these elements are, where each row end and the line end ends one
abbrev pub lines_in : List Element → ℕ
lines_in es = total (λ e. if ends_row e.look then 1 else 0) es

-- each element was placed once, and each prefix once in each row that it stands in: the first row of each line has one, and
-- each other row the other
pub record IsPlacedOnce (c : Cutting) (es : List Element) (rows : List LaidRow) : Type 0 where
  pub continued : ℕ
  pub count : length rows ≡ lines_in es + continued
  pub weight : weight_of rows ≡ length es + lines_in es * length c.first + continued * length c.wrap

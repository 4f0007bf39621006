-- Rows that are moved down or up within a part of the screen.
use Rattle.std.specs.Prelude.{ℕ, ◌+◌, ◌-◌, nat_le, if◌then◌else◌, ◌&&◌, List, ◌++◌, length, take, drop, map, replicate, Option, None, Some}
use Rattle.rd_base.specs.declared.cell.Cell.{Cell}
use Rattle.rd_term.specs.Pictures.{blank}
use Rattle.rd_term.specs.declared.shifting.RowMove.{RowMove}
use Rattle.rd_term.specs.declared.shifting.RowMove.TheVariants.{Down, Up}

-- a row whose cells are all blank and plain
abbrev pub cleared : List (Option Cell) → List (Option Cell)
cleared row = replicate (length row) (Some blank)

-- Rows moved down by so many: the last ones are lost, and as many blank ones come before the others. Where fewer stand, all are
-- lost.
abbrev pub moved_down : ℕ → List (List (Option Cell)) → List (List (Option Cell))
moved_down n rows =
    let kept = length rows - n in
    map cleared (drop kept rows) ++ take kept rows

-- rows moved up by so many: the first ones are lost, and as many blank ones come behind the others
abbrev pub moved_up : ℕ → List (List (Option Cell)) → List (List (Option Cell))
moved_up n rows = drop n rows ++ map cleared (take n rows)

-- rows moved down or up by so many
abbrev pub moved : RowMove → ℕ → List (List (Option Cell)) → List (List (Option Cell))
moved Down n rows = moved_down n rows
moved Up n rows = moved_up n rows

-- rows of which those from one to before another are changed together
abbrev pub changed_between : {A : Type 0} → ℕ → ℕ → (List A → List A) → List A → List A
changed_between from end change rows = take from rows ++ (change (take (end - from) (drop from rows)) ++ drop end rows)

-- the rows that are moved, from one to before another: from the cursor's to the region's last, where the cursor is in the region
abbrev pub rows_moved : Option (ℕ × ℕ) → Option (ℕ × ℕ) → Option (ℕ × ℕ)
rows_moved (Some region) (Some place) =
    if nat_le region.0 place.0 && nat_le place.0 region.1 then Some (place.0, region.1 + 1) else None
rows_moved _ _ = None

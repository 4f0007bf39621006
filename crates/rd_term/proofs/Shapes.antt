-- Rows that keep their number and their width, and what a terminal then keeps.
use Rattle.std.proofs.Common.{◌≡◌, ℕ, ◌-◌, ◌<◌, ◌≤◌, List, [], ◌∷◌, ◌++◌, length, get_or, set, take, drop, map, Option, None, Some, ◌∙◌, arith, All}
use Rattle.std.proofs.lemmas.List.{length-append, length-take, length-take-le, length-drop, length-map, length-replicate, length-set}
use Rattle.std.proofs.lemmas.List.Elements.{All-append, All-take, All-drop, All-map, All-set}
use Rattle.rd_base.specs.declared.cell.Cell.{Cell}
use Rattle.rd_term.specs.Pictures.{blank, width_of, IsGrid}
use Rattle.rd_term.specs.Shifts.{cleared, moved, moved_down, moved_up, changed_between}
use Rattle.rd_term.specs.Terminals.{IsWithin, IsWhole, known}
use Rattle.rd_term.specs.declared.shifting.RowMove.{RowMove}
use Rattle.rd_term.specs.declared.shifting.RowMove.TheVariants.{Down, Up}

abbrev pub Rows : Type 0
Rows = List (List (Option Cell))

-- some rows of one width are as wide
pub grid-width : {A : Type 0} (width : ℕ) (rows : List (List A)) → 0 < length rows → IsGrid width rows → width_of rows ≡ width
grid-width width [] some h = absurd (omega arith)
grid-width width (row ∷ rows) some h = h 0 [] (omega arith)

-- rows that a screen shows, as a terminal knows them
pub grid-known : (width : ℕ) (rows : List (List Cell)) → IsGrid width rows → IsGrid width (known rows)
grid-known width rows h = All-map (λ (row : List (Option Cell)). length row ≡ width) (map Some) rows (λ k d lt. length-map (get_or rows k d) Some ∙ h k d lt)

some-rows : (rows : Rows) → 0 < width_of rows → 0 < length rows
some-rows [] some = absurd (omega arith)
some-rows (row ∷ rows) some = omega arith

-- a terminal with other rows, as many and as wide
pub whole-kept : (rows new : Rows) (cursor next latest region : Option (ℕ × ℕ)) → IsWhole rows cursor latest region
    → length new ≡ length rows → IsGrid (width_of rows) new → IsWithin rows next → IsWhole new next latest region
whole-kept rows new cursor next latest region h n grid place =
    let some : 0 < length new = omega (arith, some-rows rows h.0.some) in
    let w = grid-width (width_of rows) new some grid in (
      record { each = rw w grid; some = rw w h.0.some; wide = rw w h.0.wide; tall = rw n h.0.tall; place = rw (w, n) place },
      rw (w, n) h.1,
      rw n h.2,
    )

-- ---- rows that are cleared and moved

pub grid-cleared : (w : ℕ) (rows : Rows) → IsGrid w rows → IsGrid w (map cleared rows)
grid-cleared w rows h = All-map (λ row. length row ≡ w) cleared rows (λ k d lt. length-replicate (length (get_or rows k d)) (Some blank) ∙ h k d lt)

pub grid-moved : (way : RowMove) (w n : ℕ) (rows : Rows) → IsGrid w rows → IsGrid w (moved way n rows)
grid-moved Down w n rows h =
    let kept = length rows - n in
    All-append (λ row. length row ≡ w) (map cleared (drop kept rows)) (take kept rows)
    (grid-cleared w (drop kept rows) (All-drop (λ row. length row ≡ w) kept rows h))
    (All-take (λ row. length row ≡ w) kept rows h)
grid-moved Up w n rows h =
    All-append (λ row. length row ≡ w) (drop n rows) (map cleared (take n rows))
    (All-drop (λ row. length row ≡ w) n rows h)
    (grid-cleared w (take n rows) (All-take (λ row. length row ≡ w) n rows h))

pub length-down : (n : ℕ) (rows : Rows) → length (moved_down n rows) ≡ length rows
length-down n rows =
    let kept = length rows - n in
    length-append (map cleared (drop kept rows)) (take kept rows)
    ∙ omega (arith, length-map (drop (length rows - n) rows) cleared, length-drop (length rows - n) rows, length-take-le (length rows - n) rows (omega arith))

pub length-up : (n : ℕ) (rows : Rows) → length (moved_up n rows) ≡ length rows
length-up n rows =
    length-append (drop n rows) (map cleared (take n rows))
    ∙ omega (arith, length-map (take n rows) cleared, length-drop n rows, length-take n rows)

pub length-moved : (way : RowMove) (n : ℕ) (rows : Rows) → length (moved way n rows) ≡ length rows
length-moved Down n rows = length-down n rows
length-moved Up n rows = length-up n rows

-- how long a part of a list is
pub part-length : {A : Type 0} (from end : ℕ) (xs : List A) → from ≤ end → end ≤ length xs → length (take (end - from) (drop from xs)) ≡ end - from
part-length from end xs order within = length-take-le (end - from) (drop from xs) (omega (arith, length-drop from xs))

-- rows of which a part is changed
pub between-all : {A : Type 0} (P : A → Type 0) (from end : ℕ) (change : List A → List A) (xs : List A) → ((part : List A) → All P part → All P (change part))
    → All P xs → All P (changed_between from end change xs)
between-all P from end change xs keeps h =
    let part = take (end - from) (drop from xs) in
    All-append P (take from xs) (change part ++ drop end xs) (All-take P from xs h)
    (All-append P (change part) (drop end xs) (keeps part (All-take P (end - from) (drop from xs) (All-drop P from xs h))) (All-drop P end xs h))

pub length-between : {A : Type 0} (from end : ℕ) (change : List A → List A) (xs : List A) → ((part : List A) → length part ≡ end - from → length (change part) ≡ length part)
    → from ≤ end → end ≤ length xs → length (changed_between from end change xs) ≡ length xs
length-between from end change xs keeps order within =
    let part = take (end - from) (drop from xs) in
    let n = part-length from end xs order within in
    length-append (take from xs) (change part ++ drop end xs)
    ∙ omega (arith, length-append (change part) (drop end xs), keeps part n, n, length-take-le from xs (omega arith), length-drop end xs)

-- ---- all of a terminal

pub whole-cleared : (rows : Rows) (cursor latest region : Option (ℕ × ℕ)) → IsWhole rows cursor latest region → IsWhole (map cleared rows) cursor latest region
whole-cleared rows cursor latest region h =
    whole-kept rows (map cleared rows) cursor cursor latest region h (length-map rows cleared) (grid-cleared (width_of rows) rows h.0.each) h.0.place

pub whole-set : (rows : Rows) (cursor next latest region : Option (ℕ × ℕ)) (row : ℕ) (new : List (Option Cell)) → IsWhole rows cursor latest region
    → length new ≡ width_of rows → IsWithin rows next → IsWhole (set rows row new) next latest region
whole-set rows cursor next latest region row new h long place =
    whole-kept rows (set rows row new) cursor next latest region h (length-set rows row new) (All-set (λ r. length r ≡ width_of rows) rows row new long h.0.each) place

-- rows of which a part is moved
pub whole-moved : {tall : ℕ} (rows : Rows) (cursor latest region : Option (ℕ × ℕ)) (from end : ℕ) (change : Rows → Rows) → IsWhole rows cursor latest region
    → ((xs : Rows) → length (change xs) ≡ length xs) → ((xs : Rows) → IsGrid (width_of rows) xs → IsGrid (width_of rows) (change xs))
    → length rows ≡ tall → (from ≤ end) × (end ≤ tall) → IsWhole (changed_between from end change rows) None latest region
whole-moved rows cursor latest region from end change h long wide total part =
    whole-kept rows (changed_between from end change rows) cursor None latest region h (length-between from end change rows (λ xs _. long xs) part.0 (omega (arith, part.1, total)))
    (between-all (λ row. length row ≡ width_of rows) from end change rows wide h.0.each) tt

-- a terminal with another row, in which the latest character and the cursor are
pub put-whole : (rows : Rows) (cursor latest region : Option (ℕ × ℕ)) (row column next : ℕ) (new : List (Option Cell)) → IsWhole rows cursor latest region
    → row < length rows → column < width_of rows → next < width_of rows → length new ≡ width_of rows
    → IsWhole (set rows row new) (Some (row, next)) (Some (row, column)) region
put-whole rows cursor latest region row column next new h here there within long =
    whole-set rows cursor (Some (row, next)) (Some (row, column)) region row new (h.0, (here, there), h.2) long (here, within)

-- Blocks that stand one behind the other with rows of their own, how many items of rows cover a position, the row that has the
-- cursor, and the last row of all.
use Rattle.std.proofs.Common.{◌≡◌, ℕ, suc, ◌+◌, ◌-◌, ◌<◌, ◌≤◌, inl, inr, Bool, true, cond, List, [], ◌∷◌, ◌++◌, length, Option, None, Some, refl, sym, ap, ap₂, ◌∙◌, subst, add-one, arith}
use Rattle.std.specs.List.{count_by, list_any}
use Rattle.std.proofs.lemmas.Bool.{cases_Bool}
use Rattle.std.proofs.lemmas.Bool.Decides.{nat_tests}
use Rattle.std.proofs.lemmas.List.{append-nil, append_assoc}
use Rattle.std.proofs.lemmas.List.Folds.{list_any_none}
use Rattle.std.proofs.lemmas.Option.{same_Some}
use Rattle.std.specs.Prelude.{slice_get}
use Rattle.rd_base.proofs.Choices.{one-at-most}
use Rattle.rd_base.proofs.Lists.{between-apart, between-empty, count-append, total-append}
use Rattle.rd_base.specs.Lists.{is_between, total}
use Rattle.rd_matrix.proofs.Passing.{counted-none}
use Rattle.rd_matrix.specs.Blocks.{IsAmong, StandFrom, end_from, first_start}
use Rattle.rd_matrix.specs.Columns.{covers}
use Rattle.rd_matrix.specs.Cursors.{column_shown, cursor_in, or_below}
use Rattle.rd_matrix.specs.Entries.{EntryMeaning, all_rows, entries_of, numbered}
use Rattle.rd_matrix.specs.Sources.{AreRowsOf, IsSource, SourceValues, begins_last, begins_of, rows_at}
use Rattle.rd_matrix.specs.declared.block.Block.{Block}
use Rattle.rd_rows.specs.Rows.{RowMeaning}
use Rattle.rd_rows.specs.Shapes.{IsShape, ShapeValues}

-- how many items of a row cover a position
abbrev pub covering : ℕ → EntryMeaning → ℕ
covering point e = count_by (covers e.start point) e.row.begins

-- how many items of rows cover a point
abbrev pub count_at : ℕ → List EntryMeaning → ℕ
count_at point es = total (covering point) es

count-numbered : (point start n : ℕ) (rs : List RowMeaning) → count_at point (numbered start n rs) ≡ count_by (covers start point) (begins_of rs)
count-numbered point start n [] = refl
count-numbered point start n (r ∷ rs) =
    ap (λ k. count_by (covers start point) r.begins + k) (count-numbered point start (n + 1) rs) ∙ sym (count-append (covers start point) r.begins (begins_of rs))

-- one item of a block's rows covers a position in the block, and none another position
pub count-block : (point start end : ℕ) (rows : List RowMeaning) → AreRowsOf start end rows → count_at point (numbered start 0 rows) ≡ cond (is_between start end point) 1 0
count-block point start end rows own =
    count-numbered point start 0 rows
    ∙ elim (cases_Bool (is_between start end point)) [
      | inl here ↦ rw here (own.once point (grind (arith, nat_tests)) (grind (arith, nat_tests)))
      | inr out ↦ rw out (counted-none (covers start point) (begins_of rows) (list_any_none (covers start point) (begins_of rows) (λ k d below.
          let inside = own.inside k d below in
          grind (arith, nat_tests, inside.0, inside.1))))
    ]

-- blocks that stand one behind the other from a position on, each with rows of its own
abbrev pub Fit : (Block → List RowMeaning) → ℕ → List Block → Type 0
Fit rows from [] = Unit {0}
Fit rows from (b ∷ bs) = (b.start ≡ from) × (b.start < b.end) × AreRowsOf b.start b.end (rows b) × Fit rows b.end bs

fit : (rows : Block → List RowMeaning) (from : ℕ) (bs : List Block) → StandFrom from bs → ((b : Block) → IsAmong bs b → AreRowsOf b.start b.end (rows b)) → Fit rows from bs
fit rows from [] h each = tt
fit rows from (b ∷ bs) h each = (h.0, h.1, each b (0, refl), fit rows b.end bs h.2 (λ c k. each c (suc k.0, k.1)))

-- the blocks of a source fit
pub whole-fit : (m : SourceValues) (shape : ShapeValues) → IsSource m → IsShape shape → Fit (λ b. m.rows_of b shape) (first_start m.blocks) m.blocks
whole-fit m shape source is = fit (λ b. m.rows_of b shape) (first_start m.blocks) m.blocks source.blocks.stand (λ b among. source.rows b shape among is)

fit-le : (rows : Block → List RowMeaning) (from : ℕ) (bs : List Block) → Fit rows from bs → from ≤ end_from from bs
fit-le rows from [] h = omega arith
fit-le rows from (b ∷ bs) h = omega (arith, h.0, h.1, fit-le rows b.end bs h.3)

-- one item of all their rows covers a position in the blocks, and none another position
pub count-fit : (rows : Block → List RowMeaning) (from point : ℕ) (bs : List Block) → Fit rows from bs → count_at point (all_rows rows bs) ≡ cond (is_between from (end_from from bs) point) 1 0
count-fit rows from point [] h = ap (λ (t : Bool). cond t 1 0) (sym (between-empty point from from refl))
count-fit rows from point (b ∷ bs) h =
    let some = h.1 in
    total-append (covering point) (entries_of rows b) (all_rows rows bs)
    ∙ ap₂ (λ (m n : ℕ). m + n) (count-block point b.start b.end (rows b) h.2) (count-fit rows b.end point bs h.3)
    ∙ between-apart point b.start b.end (end_from b.end bs) (omega arith) (fit-le rows b.end bs h.3)
    ∙ ap (λ (n : ℕ). cond (is_between n (end_from b.end bs) point) 1 0) h.0

-- at most one item of a source's rows covers a position
pub few-whole : (m : SourceValues) (shape : ShapeValues) (point : ℕ) → IsSource m → IsShape shape → count_at point (rows_at m shape) ≤ 1
few-whole m shape point source is =
    let start = first_start m.blocks in
    omega (arith, count-fit (λ b. m.rows_of b shape) start point m.blocks (whole-fit m shape source is), one-at-most (is_between start (end_from start m.blocks) point))

-- the row at a place shows the item that covers a point, and shows it in the place's column
abbrev pub HasCursor : ℕ → List EntryMeaning → ℕ × ℕ → Type 0
HasCursor point es place = (e : EntryMeaning) × (slice_get es place.0 ≡ Some e) × (column_shown point e ≡ Some place.1)

cursor-by : (point : ℕ) (e : EntryMeaning) (es : List EntryMeaning) (here : Option ℕ) (below : Option (ℕ × ℕ)) (place : ℕ × ℕ) → column_shown point e ≡ here
    → ((p : ℕ × ℕ) → below ≡ Some p → HasCursor point es p) → or_below here below ≡ Some place → HasCursor point (e ∷ es) place
cursor-by point e es (Some c) below place here later at = subst (HasCursor point (e ∷ es)) (same_Some (0, c) place at) (e, refl, here)
cursor-by point e es None None place here later at = absurd cc
cursor-by point e es None (Some p) place here later at =
    let found = later p refl in
    subst (HasCursor point (e ∷ es)) (same_Some (p.0 + 1, p.1) place at) (found.0, rw add-one found.1, found.2)

-- the row at the cursor's place has the cursor
pub cursor-row : (point : ℕ) (es : List EntryMeaning) (place : ℕ × ℕ) → cursor_in point es ≡ Some place → HasCursor point es place
cursor-row point [] place at = absurd cc
cursor-row point (e ∷ es) place at = cursor-by point e es (column_shown point e) (cursor_in point es) place refl (cursor-row point es) at

-- ---- the last row of all

-- the last row of a list has an item that covers a position
abbrev pub LastCovers : ℕ → List EntryMeaning → Type 0
LastCovers point es = (front : List EntryMeaning) × (e : EntryMeaning) × (es ≡ front ++ e ∷ []) × (list_any (covers e.start point) e.row.begins ≡ true)

last-numbered : (point start n : ℕ) (rs : List RowMeaning) → begins_last (covers start point) rs ≡ true → LastCovers point (numbered start n rs)
last-numbered point start n [] h = absurd cc
last-numbered point start n (r ∷ []) h = ([], record { start = start; number = n; row = r }, refl, h)
last-numbered point start n (r ∷ s ∷ rs) h =
    let rest = last-numbered point start (n + 1) (s ∷ rs) h in
    let e : EntryMeaning = record { start = start; number = n; row = r } in
    (e ∷ rest.0, rest.1, ap (λ es. e ∷ es) rest.2, rest.3)

-- where the item of each block's last position begins in the block's last row, that of the last position begins in the last row of all
pub last-all : (rows : Block → List RowMeaning) (bs : List Block) → 0 < length bs → ((b : Block) → IsAmong bs b → begins_last (covers b.start (b.end - 1)) (rows b) ≡ true)
    → LastCovers (end_from 0 bs - 1) (all_rows rows bs)
last-all rows [] some each = absurd (omega (arith, some))
last-all rows (b ∷ []) some each =
    subst (LastCovers (b.end - 1)) (sym (append-nil (entries_of rows b))) (last-numbered (b.end - 1) b.start 0 (rows b) (each b (0, refl)))
last-all rows (b ∷ c ∷ bs) some each =
    let rest = last-all rows (c ∷ bs) (omega arith) (λ d k. each d (suc k.0, k.1)) in
    (entries_of rows b ++ rest.0, rest.1, ap (λ es. entries_of rows b ++ es) rest.2 ∙ sym (append_assoc (entries_of rows b) rest.0 (rest.1 ∷ [])), rest.3)

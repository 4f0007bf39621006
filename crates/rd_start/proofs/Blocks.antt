-- Blocks that stand one behind the other, and their rows.
use Rattle.std.proofs.Common.{◌≡◌, ℕ, ◌+◌, ◌-◌, ◌<◌, ◌≤◌, Bool, true, false, cond, not, ◌||◌, ◌&&◌, ◌==◌, leb, ltb, min, List, [], ◌∷◌, ◌++◌, length, refl, sym, ap, ◌∙◌, subst, arith, zero-add}
use Rattle.std.proofs.lemmas.Bool.{le-ltb, lt-ltb}
use Rattle.std.proofs.lemmas.Bool.Decides.{nat_tests}
use Rattle.std.specs.List.{list_any, position_or_len}
use Rattle.rd_base.proofs.Lists.{get-second, none_counted}
use Rattle.rd_base.specs.declared.settings.Anchor.{Anchor}
use Rattle.rd_matrix.proofs.Counting.{count-cons}
use Rattle.rd_matrix.proofs.Covering.{Fit, count-block, count-fit, count_at, covering, whole-fit}
use Rattle.rd_matrix.proofs.HeldLemmas.{end-any, later-start}
use Rattle.rd_matrix.proofs.Passing.{first-inside}
use Rattle.rd_matrix.specs.Blocks.{IsWithin, StandFrom, end_from, first_start}
use Rattle.rd_matrix.specs.Columns.{covers}
use Rattle.rd_matrix.specs.Entries.{EntryMeaning, all_rows, numbered}
use Rattle.rd_matrix.specs.Sources.{AreRowsOf, IsSource, SourceValues, rows_at}
use Rattle.rd_matrix.specs.declared.block.Block.{Block}
use Rattle.rd_rows.specs.Rows.{RowMeaning}
use Rattle.rd_rows.specs.Shapes.{IsShape, ShapeValues}
use Rattle.rd_start.specs.Chosen.{anchor_row, begins_item, row_in_block}
use Rattle.rd_start.proofs.Lists.{first-among, first-behind}
use Rattle.rd_start.proofs.Tests.{above-range, in-range}

pub fit-front : (rows : Block → List RowMeaning) (from : ℕ) (xs ys : List Block) → Fit rows from (xs ++ ys) → Fit rows from xs
fit-front rows from [] ys h = tt
fit-front rows from (x ∷ xs) ys h = (h.0, h.1, h.2, fit-front rows x.end xs ys h.3)

pub fit-back : (rows : Block → List RowMeaning) (from : ℕ) (xs ys : List Block) → Fit rows from (xs ++ ys) → Fit rows (end_from from xs) ys
fit-back rows from [] ys h = h
fit-back rows from (x ∷ xs) ys h = fit-back rows x.end xs ys h.3

some-of-two : (a b : Bool) (m n : ℕ) → (m == 0) ≡ not a → b ≡ not (n == 0) → (a || b) ≡ not (m + n == 0)
some-of-two a b m n h k = grind (arith, nat_tests)

-- an item that covers a position begins in a row of these, where some item of them covers it
any-counted : (point : ℕ) (es : List EntryMeaning) → list_any (begins_item point) es ≡ not (count_at point es == 0)
any-counted point [] = refl
any-counted point (e ∷ es) =
    some-of-two (begins_item point e) (list_any (begins_item point) es) (covering point e) (count_at point es) (none_counted (covers e.start point) e.row.begins) (any-counted point es)

any-told : (point : ℕ) (es : List EntryMeaning) (t : Bool) → count_at point es ≡ cond t 1 0 → list_any (begins_item point) es ≡ t
any-told point es true one = any-counted point es ∙ ap (λ n. not (n == 0)) one
any-told point es false none = any-counted point es ∙ ap (λ n. not (n == 0)) none

-- an item that covers a position begins in a row of the block that holds the position, and of no other
pub any-block : (point start end : ℕ) (rows : List RowMeaning) → AreRowsOf start end rows
    → list_any (begins_item point) (numbered start 0 rows) ≡ (leb start point && ltb point end)
any-block point start end rows h = any-told point (numbered start 0 rows) (leb start point && ltb point end) (count-block point start end rows h)

pub any-fit : (rows : Block → List RowMeaning) (from point : ℕ) (bs : List Block) → Fit rows from bs
    → list_any (begins_item point) (all_rows rows bs) ≡ (leb from point && ltb point (end_from from bs))
any-fit rows from point bs h = any-told point (all_rows rows bs) (leb from point && ltb point (end_from from bs)) (count-fit rows from point bs h)

-- the row in which an item that covers a position begins, among rows of blocks up to the position, of those that hold it, and of others
pub record FirstRow (point : ℕ) (front held back : List EntryMeaning) : Type 0 where
  pub some : list_any (begins_item point) held ≡ true
  pub place : position_or_len (begins_item point) (front ++ (held ++ back)) ≡ length front + position_or_len (begins_item point) held
  pub inside : position_or_len (begins_item point) held < length held

pub first-row : (point start end from to : ℕ) (front held back : List EntryMeaning) → list_any (begins_item point) front ≡ (leb start point && ltb point end)
    → list_any (begins_item point) held ≡ (leb from point && ltb point to) → end ≤ point → from ≤ point → point < to → FirstRow point front held back
first-row point start end from to front held back in_front in_held above low high =
    let begins = begins_item point in
    let some = in_held ∙ in-range from to point low high in
    record {
      some = some;
      place = first-behind begins front (held ++ back) (in_front ∙ above-range start end point above) ∙ ap (λ n. length front + n) (first-among begins held back some);
      inside = first-inside begins held some;
    }

-- an item that covers a position of a source begins in one of its rows
pub some-begins : (m : SourceValues) (shape : ShapeValues) (point : ℕ) → IsSource m → IsShape shape → IsWithin point m.blocks → list_any (begins_item point) (rows_at m shape) ≡ true
some-begins m shape point source is within =
    let start = first_start m.blocks in
    let high = subst (λ n. point < n) (end-any 0 start m.blocks source.blocks.some) within.1 in
    any-fit (λ b. m.rows_of b shape) start point m.blocks (whole-fit m shape source is) ∙ in-range start (end_from start m.blocks) point within.0 high

-- an anchor's row is one of the block that holds its position
pub anchor-skips : (rows : Block → List RowMeaning) (anchor : Anchor) (from : ℕ) (before after : List Block) (b : Block) → StandFrom from (before ++ (b ∷ after))
    → b.start ≤ anchor.pos → anchor.pos < b.end
    → anchor_row rows anchor (before ++ (b ∷ after)) ≡ length (all_rows rows before) + row_in_block anchor b.start (rows b)
anchor-skips rows anchor from [] after b stand low high =
    let here = lt-ltb anchor.pos b.end high in
    rw here (sym (zero-add (row_in_block anchor b.start (rows b))))
anchor-skips rows anchor from (x ∷ before) after b stand low high =
    let start = (later-start x.end (length before) (before ++ (b ∷ after)) b stand.2 (get-second before (b ∷ after) (length before) 0 (omega arith))).0 in
    let later = le-ltb anchor.pos x.end (omega (arith, start, low)) in
    let rest = anchor-skips rows anchor x.end before after b stand.2 low high in
    let count = count-cons rows x before in
    rw later (omega (arith, rest, count))

held-below : (b : Bool) (row count : ℕ) → 0 < count → cond b (min row (count - 1)) 0 < count
held-below true row count some = omega arith
held-below false row count some = some

pub row-below : (anchor : Anchor) (start : ℕ) (rows : List RowMeaning) → 0 < length rows → row_in_block anchor start rows < length rows
row-below anchor start rows some = held-below (anchor.pos == start) anchor.row (length rows) some

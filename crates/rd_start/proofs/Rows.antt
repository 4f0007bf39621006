-- A strip's rows among all rows, and where point's row is.
use Rattle.std.proofs.Common.{◌≡◌, ℕ, ◌+◌, ◌<◌, ◌≤◌, ◌⊎◌, inl, inr, true, false, leb, ltb, List, [], ◌∷◌, ◌++◌, length, map, Option, None, Some, refl, ap, subst, ◌∙◌, arith}
use Rattle.std.proofs.lemmas.Bool.{cases_Bool, leb-false, leb-true, ltb-false, ltb-true}
use Rattle.std.proofs.lemmas.List.{length-append, length-map}
use Rattle.std.proofs.lemmas.List.Sums.{fold-append}
use Rattle.std.proofs.lemmas.Option.{slice_get_within}
use Rattle.std.specs.List.{list_any, position, position_or_len, slice_get}
use Rattle.rd_base.proofs.Lists.{get-first, get-second}
use Rattle.rd_matrix.proofs.Counting.{all-append}
use Rattle.rd_matrix.proofs.Covering.{Fit, whole-fit}
use Rattle.rd_matrix.proofs.HeldLemmas.{end-any}
use Rattle.rd_matrix.proofs.Passing.{first-inside}
use Rattle.rd_matrix.specs.Blocks.{IsAmong, end_from, first_start}
use Rattle.rd_matrix.specs.Entries.{EntryMeaning, all_rows}
use Rattle.rd_matrix.specs.Sources.{SourceValues}
use Rattle.rd_matrix.specs.declared.block.Block.{Block}
use Rattle.rd_rows.specs.Rows.{RowMeaning}
use Rattle.rd_start.specs.Chosen.{begins_item}
use Rattle.rd_start.specs.Strips.{IsStrip, IsStripOf, count_in, first_row, home_row, strip_row_of, point_row, rows_in}
use Rattle.rd_start.specs.declared.strip.StripRow.{StripRow}
use Rattle.rd_start.specs.declared.strip.Strip.{Strip}
use Rattle.rd_start.specs.declared.strip.Sweep.{Sweep}
use Rattle.rd_start.proofs.Blocks.{any-fit, first-row, fit-back, fit-front}
use Rattle.rd_start.proofs.Tests.{above-range, below-range, in-range}
use Rattle.rd_start.proofs.Lists.{first-among, first-behind, position-mapped, position-none, position-some}

-- all rows are those before a strip, its own and those behind it
pub record RowsAround (m : SourceValues) (sweep : Sweep) (bs : List Block) (ls : List StripRow) (at : ℕ) : Type 0 where
  pub front : List EntryMeaning
  pub own : List EntryMeaning
  pub back : List EntryMeaning
  pub whole : all_rows (rows_in m sweep) m.blocks ≡ front ++ (own ++ back)
  pub from : length front + at ≡ home_row m sweep
  pub strip_rows : ls ≡ map (strip_row_of sweep.point) own
  pub count : length ls ≡ length own
  pub total : length front + (length ls + length back) ≡ count_in m sweep m.blocks

abbrev pub rows_around : (m : SourceValues) (sweep : Sweep) (bs : List Block) (ls : List StripRow) (at : ℕ) → IsStripOf m sweep bs ls at → RowsAround m sweep bs ls at
rows_around m sweep bs ls at h =
    let rows = λ (b : Block). rows_in m sweep b in
    let front = all_rows rows h.before in
    let own = all_rows rows bs in
    let back = all_rows rows h.after in
    let whole = ap (all_rows rows) h.pieces ∙ (all-append rows h.before (bs ++ h.after) ∙ ap (λ ys. front ++ ys) (all-append rows bs h.after)) in
    let count = ap length h.strip_rows ∙ length-map own (strip_row_of sweep.point) in
    record {
      front = front;
      own = own;
      back = back;
      whole = whole;
      from = h.home;
      strip_rows = h.strip_rows;
      count = count;
      total = omega (arith, count, ap length whole, length-append front (own ++ back), length-append own back);
    }

-- a strip's rows are rows of its source
pub all-inside : (m : SourceValues) (s : Strip) → IsStrip m s → first_row m s + length s.strip_rows.items ≤ count_in m s.sweep m.blocks
all-inside m s h =
    let z = rows_around m s.sweep s.blocks.items s.strip_rows.items s.home h in
    let from = z.from in
    let total = z.total in
    omega arith

-- a strip's blocks are blocks of its source
pub strip-among : (m : SourceValues) (sweep : Sweep) (bs : List Block) (ls : List StripRow) (at : ℕ) (b : Block) → IsStripOf m sweep bs ls at → IsAmong bs b → IsAmong m.blocks b
strip-among m sweep bs ls at b h among =
    let k = length h.before + among.0 in (
      k,
      ap (λ (ys : List Block). slice_get ys k) h.pieces
          ∙ (get-second h.before (bs ++ h.after) k among.0 refl ∙ (get-first bs h.after among.0 (slice_get_within bs among.0 b among.1) ∙ among.1)),
    )

abbrev pub find_point : List StripRow → Option ℕ
find_point ls = position (λ (r : StripRow). r.has_point) ls

found : (point : ℕ) (es : List EntryMeaning) → list_any (begins_item point) es ≡ true → find_point (map (strip_row_of point) es) ≡ Some (position_or_len (begins_item point) es)
found point es some = position-mapped (λ (r : StripRow). r.has_point) (strip_row_of point) es ∙ position-some (begins_item point) es some

not-found : (point : ℕ) (es : List EntryMeaning) → list_any (begins_item point) es ≡ false → find_point (map (strip_row_of point) es) ≡ None
not-found point es none = position-mapped (λ (r : StripRow). r.has_point) (strip_row_of point) es ∙ position-none (begins_item point) es none

-- point's row is above a strip's rows, among them or below them
pub record PointAbove (m : SourceValues) (sweep : Sweep) (bs : List Block) (ls : List StripRow) (at : ℕ) : Type 0 where
  pub first : Block
  pub here : slice_get bs 0 ≡ Some first
  pub low : sweep.point < first.start
  pub none : find_point ls ≡ None
  pub row : point_row m sweep + at < home_row m sweep

pub record PointAmong (m : SourceValues) (sweep : Sweep) (bs : List Block) (ls : List StripRow) (at : ℕ) : Type 0 where
  pub row : ℕ
  pub here : find_point ls ≡ Some row
  pub inside : row < length ls
  pub place : point_row m sweep + at ≡ home_row m sweep + row

pub record PointBelow (m : SourceValues) (sweep : Sweep) (bs : List Block) (ls : List StripRow) (at : ℕ) : Type 0 where
  pub first : Block
  pub here : slice_get bs 0 ≡ Some first
  pub high : first.start ≤ sweep.point
  pub none : find_point ls ≡ None
  pub row : home_row m sweep + length ls ≤ point_row m sweep + at
  pub inside : point_row m sweep < count_in m sweep m.blocks

pub record First (bs : List Block) (from : ℕ) : Type 0 where
  pub first : Block
  pub here : slice_get bs 0 ≡ Some first
  pub start : first.start ≡ from

first-of : (rows : Block → List RowMeaning) (from : ℕ) (bs : List Block) → 0 < length bs → Fit rows from bs → First bs from
first-of rows from [] some h = absurd (omega arith)
first-of rows from (b ∷ bs) some h = record { first = b; here = refl; start = h.0 }

-- the bounds of the positions before a strip, of its own and of those behind it
pub record Bounds (m : SourceValues) (sweep : Sweep) (bs before after : List Block) : Type 0 where
  pub start : ℕ
  pub first : ℕ
  pub last : ℕ
  pub end : ℕ
  pub front : Fit (rows_in m sweep) start before
  pub own : Fit (rows_in m sweep) first bs
  pub back : Fit (rows_in m sweep) last after
  pub at_first : first ≡ end_from start before
  pub at_last : last ≡ end_from first bs
  pub at_end : end ≡ end_from last after
  pub low : start ≤ sweep.point
  pub high : sweep.point < end

pub bounds : (m : SourceValues) (sweep : Sweep) (bs : List Block) (ls : List StripRow) (at : ℕ) → (h : IsStripOf m sweep bs ls at) → Bounds m sweep bs h.before h.after
bounds m sweep bs ls at h =
    let rows = λ (b : Block). rows_in m sweep b in
    let start = first_start m.blocks in
    let whole = subst (Fit rows start) h.pieces (whole-fit m sweep.shape h.source h.shape) in
    let rest = fit-back rows start h.before (bs ++ h.after) whole in
    let first = end_from start h.before in
    let last = end_from first bs in
    let last_end = ap (end_from start) h.pieces ∙ (fold-append _ start h.before (bs ++ h.after) ∙ fold-append _ first bs h.after) in
    let any_end = end-any 0 start m.blocks h.source.blocks.some in
    record {
      start = start;
      first = first;
      last = last;
      end = end_from last h.after;
      front = fit-front rows start h.before (bs ++ h.after) whole;
      own = fit-front rows first bs h.after rest;
      back = fit-back rows first bs h.after rest;
      at_first = refl;
      at_last = refl;
      at_end = refl;
      low = h.point.0;
      high = subst (λ n. sweep.point < n) (any_end ∙ last_end) h.point.1;
    }

pub whereabouts : (m : SourceValues) (sweep : Sweep) (bs : List Block) (ls : List StripRow) (at : ℕ) → IsStripOf m sweep bs ls at
    → PointAbove m sweep bs ls at ⊎ (PointAmong m sweep bs ls at ⊎ PointBelow m sweep bs ls at)
whereabouts m sweep bs ls at h =
    let rows = λ (b : Block). rows_in m sweep b in
    let p = sweep.point in
    let begins = begins_item p in
    let w = bounds m sweep bs ls at h in
    let z = rows_around m sweep bs ls at h in
    let row = ap (position_or_len begins) z.whole in
    let in_front = any-fit rows w.start p h.before w.front in
    let in_own = any-fit rows w.first p bs w.own in
    let in_back = any-fit rows w.last p h.after w.back in
    let size = z.count in
    let head = first-of rows w.first bs h.some w.own in
    let start_low = w.low in
    let end_high = w.high in
    let e1 = w.at_first in
    let e2 = w.at_last in
    let e3 = w.at_end in
    elim (cases_Bool (leb w.first p)) [
      | inr below ↦
          let low = leb-false w.first p below in
          let t = in-range w.start (end_from w.start h.before) p w.low (omega (arith, low, e1)) in
          let u = below-range w.first (end_from w.first bs) p low in
          let some = in_front ∙ t in
          let place = row ∙ first-among begins z.front (z.own ++ z.back) some in
          let inside = first-inside begins z.front some in
          let start = head.start in
          inl (record {
            first = head.first;
            here = head.here;
            low = omega (arith, low, start);
            none = ap find_point h.strip_rows ∙ not-found p z.own (in_own ∙ u);
            row = omega (arith, place, inside, z.from);
          })
      | inl from ↦ elim (cases_Bool (ltb p w.last)) [
        | inl here ↦
            let low = leb-true w.first p from in
            let high = ltb-true p w.last here in
            let first = first-row p w.start (end_from w.start h.before) w.first (end_from w.first bs) z.front z.own z.back in_front in_own (omega (arith, low, e1)) low (omega (arith, high, e2)) in
            let place = row ∙ first.place in
            inr (inl (record {
              row = position_or_len begins z.own;
              here = ap find_point h.strip_rows ∙ found p z.own first.some;
              inside = omega (arith, first.inside, size);
              place = omega (arith, place, z.from);
            }))
        | inr after ↦
            let high = leb-true w.first p from in
            let past = ltb-false p w.last after in
            let t = above-range w.start (end_from w.start h.before) p (omega (arith, high, e1)) in
            let u = above-range w.first (end_from w.first bs) p (omega (arith, past, e2)) in
            let v = in-range w.last (end_from w.last h.after) p past (omega (arith, end_high, e3)) in
            let place = row ∙ (first-behind begins z.front (z.own ++ z.back) (in_front ∙ t) ∙ ap (λ n. length z.front + n) (first-behind begins z.own z.back (in_own ∙ u))) in
            let inside = first-inside begins z.back (in_back ∙ v) in
            let start = head.start in
            inr (inr (record {
              first = head.first;
              here = head.here;
              high = omega (arith, high, start);
              none = ap find_point h.strip_rows ∙ not-found p z.own (in_own ∙ u);
              row = omega (arith, place, size, z.from);
              inside = omega (arith, place, inside, size, z.total);
            }))
      ]
    ]

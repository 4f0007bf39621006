-- A strip of one block.
use Rattle.std.proofs.Common.{◌≡◌, ℕ, ◌+◌, ◌-◌, ◌^◌, ◌<◌, ◌≤◌, inl, inr, Bool, true, List, [], ◌∷◌, ◌++◌, length, map, take, drop, sym, ap, subst, ◌∙◌, arith}
use Rattle.std.proofs.lemmas.List.{append-nil, length-map, take-append-drop}
use Rattle.std.specs.List.{list_any, position_or_len, range_with_len}
use Rattle.rd_base.proofs.Lists.{drop-at}
use Rattle.rd_matrix.proofs.Counting.{all-append, any-range, length-numbered, some-row}
use Rattle.rd_matrix.proofs.Covering.{Fit, whole-fit}
use Rattle.rd_matrix.specs.Blocks.{HoldsPosition, IsWithin, StandFrom, end_from, first_start}
use Rattle.rd_matrix.specs.Entries.{all_rows, entries_of, numbered}
use Rattle.rd_matrix.specs.Sources.{IsSource, SourceValues}
use Rattle.rd_matrix.specs.declared.block.Block.{Block}
use Rattle.rd_rows.specs.Rows.{RowMeaning}
use Rattle.rd_rows.specs.Shapes.{IsShape}
use Rattle.rd_start.specs.Chosen.{anchor_row, begins_item, row_in_block}
use Rattle.rd_start.specs.Strips.{HasPoint, IsAsked, IsPaid, IsPaidOf, IsPushed, IsStrip, IsStripOf, all_costs, cost_in, home_row, strip_row_of, point_row, rows_in}
use Rattle.rd_start.specs.declared.strip.Edge.TheVariants.{Bottom}
use Rattle.rd_start.specs.declared.strip.StripRow.{StripRow}
use Rattle.rd_start.specs.declared.strip.Strip.{Strip}
use Rattle.rd_start.specs.declared.strip.Sweep.{Sweep}
use Rattle.rd_start.proofs.Blocks.{anchor-skips, any-block, any-fit, first-row, fit-back, fit-front, row-below}
use Rattle.rd_start.proofs.Growth.{affords-pieces}
use Rattle.rd_start.proofs.Reaching.{paid-same, strip-same}

-- the block that holds a position, and those before and behind it
pub record Around (m : SourceValues) (sweep : Sweep) (b : Block) : Type 0 where
  pub before : List Block
  pub after : List Block
  pub pieces : m.blocks ≡ before ++ (b ∷ after)
  pub fit : Fit (rows_in m sweep) (first_start m.blocks) (before ++ (b ∷ after))
  pub home : home_row m sweep ≡ length (all_rows (rows_in m sweep) before) + row_in_block sweep.anchor b.start (rows_in m sweep b)
  pub some : 0 < length (rows_in m sweep b)

around : (m : SourceValues) (sweep : Sweep) (b : Block) → IsSource m → IsShape sweep.shape → HoldsPosition sweep.anchor.pos m.blocks b → Around m sweep b
around m sweep b source shape holds =
    let rows = λ (x : Block). rows_in m sweep x in
    let place = holds.among.0 in
    let before = take place m.blocks in
    let after = drop (place + 1) m.blocks in
    let pieces = sym (take-append-drop place m.blocks) ∙ ap (λ (ys : List Block). before ++ ys) (drop-at m.blocks place b holds.among.1) in
    let stand = subst (StandFrom (first_start m.blocks)) pieces source.blocks.stand in
    record {
      before = before;
      after = after;
      pieces = pieces;
      fit = subst (Fit rows (first_start m.blocks)) pieces (whole-fit m sweep.shape source shape);
      home = ap (λ (ys : List Block). anchor_row rows sweep.anchor ys) pieces ∙ anchor-skips rows sweep.anchor (first_start m.blocks) before after b stand holds.from holds.below;
      some = some-row (rows b) (source.rows b sweep.shape holds.among shape).ends;
    }

pub strip-around : (m : SourceValues) (sweep : Sweep) (b : Block) → IsSource m → IsShape sweep.shape → IsWithin sweep.point m.blocks → HoldsPosition sweep.anchor.pos m.blocks b → b.end < 2 ^ 32
    → IsStripOf m sweep (b ∷ []) (map (strip_row_of sweep.point) (entries_of (rows_in m sweep) b)) (row_in_block sweep.anchor b.start (rows_in m sweep b))
strip-around m sweep b source shape point holds small =
    let rows = λ (x : Block). rows_in m sweep x in
    let a = around m sweep b source shape holds in
    let size = length-map (entries_of rows b) (strip_row_of sweep.point) ∙ length-numbered b.start 0 (rows b) in
    let low = row-below sweep.anchor b.start (rows b) a.some in
    record {
      source = source;
      shape = shape;
      point = point;
      before = a.before;
      after = a.after;
      pieces = a.pieces;
      some = omega arith;
      small = (small, tt);
      strip_rows = ap (map (strip_row_of sweep.point)) (sym (append-nil (entries_of rows b)));
      home = sym a.home;
      inside = omega arith;
    }

-- point's row is one of the block that holds point
point-in-block : (m : SourceValues) (sweep : Sweep) (b : Block) (a : Around m sweep b) → sweep.anchor.pos ≡ sweep.point → b.start ≤ sweep.point → sweep.point < b.end
    → (length (all_rows (rows_in m sweep) a.before) ≤ point_row m sweep) × (point_row m sweep < length (all_rows (rows_in m sweep) a.before) + length (rows_in m sweep b))
point-in-block m sweep b a same low high =
    let rows = λ (x : Block). rows_in m sweep x in
    let p = sweep.point in
    let start = first_start m.blocks in
    let end = end_from start a.before in
    let fit_back = fit-back rows start a.before (b ∷ a.after) a.fit in
    let begin = fit_back.0 in
    let in_front = any-fit rows start p a.before (fit-front rows start a.before (b ∷ a.after) a.fit) in
    let in_block = any-block p b.start b.end (rows b) fit_back.2 in
    let first = first-row p start end b.start b.end (all_rows rows a.before) (entries_of rows b) (all_rows rows a.after) in_front in_block (omega (arith, begin, low)) low high in
    let whole = ap (all_rows rows) a.pieces ∙ all-append rows a.before (b ∷ a.after) in
    let place = ap (position_or_len (begins_item p)) whole ∙ first.place in
    let size = length-numbered b.start 0 (rows b) in
    (omega (arith, place), omega (arith, place, first.inside, size))

have-around : (kind : ℕ → Bool) (m : SourceValues) (sweep : Sweep) (b : Block) (a : Around m sweep b) → HoldsPosition sweep.anchor.pos m.blocks b → IsAsked kind m sweep
    → list_any kind (range_with_len (length (all_rows (rows_in m sweep) a.before)) (length (rows_in m sweep b))) ≡ true
have-around kind m sweep b a holds (inl here) =
    let first = length (all_rows (rows_in m sweep) a.before) in
    let low = row-below sweep.anchor b.start (rows_in m sweep b) a.some in
    let home = a.home in
    any-range kind first (length (rows_in m sweep b)) (home_row m sweep) (omega arith) (omega arith) here
have-around kind m sweep b a holds (inr there) =
    let first = length (all_rows (rows_in m sweep) a.before) in
    let same = there.0 in
    let from = holds.from in
    let below = holds.below in
    let inside = point-in-block m sweep b a there.0 (omega arith) (omega arith) in
    any-range kind first (length (rows_in m sweep b)) (point_row m sweep) inside.0 inside.1 there.1

-- a strip of this block alone is paid for, within the costs of all blocks that have a row of the kind
pub paid-around : (kind : ℕ → Bool) (base : ℕ) (m : SourceValues) (sweep : Sweep) (b : Block) (more : ℕ) → IsSource m → IsShape sweep.shape → HoldsPosition sweep.anchor.pos m.blocks b
    → IsAsked kind m sweep → more ≤ base + cost_in m sweep b → IsPaidOf kind base m sweep (b ∷ []) (row_in_block sweep.anchor b.start (rows_in m sweep b)) more × (more ≤ base + all_costs kind m sweep)
paid-around kind base m sweep b more source shape holds asked cost =
    let rows = λ (x : Block). rows_in m sweep x in
    let a = around m sweep b source shape holds in
    let here = have-around kind m sweep b a holds asked in
    let home = a.home in
    let at = row_in_block sweep.anchor b.start (rows b) in
    let first : length (all_rows rows a.before) ≡ home_row m sweep - at = omega arith in
    let paid : IsPaidOf kind base m sweep (b ∷ []) at more = record {
      have = (subst (λ n. list_any kind (range_with_len n (length (rows b))) ≡ true) first here, tt);
      paid = omega (arith, cost);
    } in
    (paid, affords-pieces kind base m sweep a.before (b ∷ []) a.after at more a.pieces (sym home) paid)

-- the strip that was made of the block
pub record Made (m : SourceValues) (sweep : Sweep) (b : Block) (empty new : Strip) (rows : List RowMeaning) : Type 0 where
  pub source : IsSource m
  pub shape : IsShape sweep.shape
  pub point : IsWithin sweep.point m.blocks
  pub holds : HoldsPosition sweep.anchor.pos m.blocks b
  pub same : rows ≡ rows_in m sweep b
  pub sweep_is : empty.sweep ≡ sweep
  pub blocks : empty.blocks.items ≡ []
  pub strip_rows : empty.strip_rows.items ≡ []
  pub home : empty.home ≡ row_in_block sweep.anchor b.start rows
  pub below : IsPushed Bottom empty new b rows

pub made-sweep : (m : SourceValues) (sweep : Sweep) (b : Block) (empty new : Strip) (rows : List RowMeaning) → Made m sweep b empty new rows → new.sweep ≡ sweep
made-sweep m sweep b empty new rows h = h.below.sweep ∙ h.sweep_is

made-blocks : (m : SourceValues) (sweep : Sweep) (b : Block) (empty new : Strip) (rows : List RowMeaning) → Made m sweep b empty new rows → new.blocks.items ≡ b ∷ []
made-blocks m sweep b empty new rows h = h.below.blocks ∙ ap (λ ys. ys ++ b ∷ []) h.blocks

made-home : (m : SourceValues) (sweep : Sweep) (b : Block) (empty new : Strip) (rows : List RowMeaning) → Made m sweep b empty new rows → new.home ≡ row_in_block sweep.anchor b.start (rows_in m sweep b)
made-home m sweep b empty new rows h = h.below.home ∙ (h.home ∙ ap (row_in_block sweep.anchor b.start) h.same)

made-strip_rows : (m : SourceValues) (sweep : Sweep) (b : Block) (empty new : Strip) (rows : List RowMeaning) → Made m sweep b empty new rows
    → new.strip_rows.items ≡ map (strip_row_of sweep.point) (entries_of (rows_in m sweep) b)
made-strip_rows m sweep b empty new rows h =
    h.below.strip_rows
    ∙ (ap (λ (ys : List StripRow). ys ++ map (strip_row_of empty.sweep.point) (numbered b.start 0 rows)) h.strip_rows
    ∙ (ap (λ (x : Sweep). map (strip_row_of x.point) (numbered b.start 0 rows)) h.sweep_is
    ∙ ap (λ (r : List RowMeaning). map (strip_row_of sweep.point) (numbered b.start 0 r)) h.same))

pub made-strip : (m : SourceValues) (sweep : Sweep) (b : Block) (empty new : Strip) (rows : List RowMeaning) → Made m sweep b empty new rows → IsStrip m new
made-strip m sweep b empty new rows h =
    strip-same m sweep new.sweep (b ∷ []) new.blocks.items (map (strip_row_of sweep.point) (entries_of (rows_in m sweep) b)) new.strip_rows.items (row_in_block sweep.anchor b.start (rows_in m sweep b)) new.home
    (made-sweep m sweep b empty new rows h) (made-blocks m sweep b empty new rows h) (made-strip_rows m sweep b empty new rows h) (made-home m sweep b empty new rows h)
    (strip-around m sweep b h.source h.shape h.point h.holds h.below.small)

pub made-paid : (kind : ℕ → Bool) (base : ℕ) (m : SourceValues) (sweep : Sweep) (b : Block) (empty new : Strip) (rows : List RowMeaning) (more : ℕ) → Made m sweep b empty new rows
    → IsAsked kind m sweep → more ≤ base + cost_in m sweep b → IsPaid kind base m new more
made-paid kind base m sweep b empty new rows more h asked cost = (
  made-strip m sweep b empty new rows h,
  paid-same kind base m sweep new.sweep (b ∷ []) new.blocks.items (row_in_block sweep.anchor b.start (rows_in m sweep b)) new.home more
      (made-sweep m sweep b empty new rows h) (made-blocks m sweep b empty new rows h) (made-home m sweep b empty new rows h)
      (paid-around kind base m sweep b more h.source h.shape h.holds asked cost).0,
)

pub made-point : (m : SourceValues) (sweep : Sweep) (b : Block) (empty new : Strip) (rows : List RowMeaning) → Made m sweep b empty new rows → sweep.anchor.pos ≡ sweep.point → HasPoint m new
made-point m sweep b empty new rows h same =
    let a = around m sweep b h.source h.shape h.holds in
    let from = h.holds.from in
    let below = h.holds.below in
    let inside = point-in-block m sweep b a same (omega arith) (omega arith) in
    let low = inside.0 in
    let high = inside.1 in
    let home = a.home in
    let e = made-sweep m sweep b empty new rows h in
    let homes = ap (home_row m) e in
    let points = ap (point_row m) e in
    let at = made-home m sweep b empty new rows h in
    let size = ap length (made-strip_rows m sweep b empty new rows h) ∙ (length-map (entries_of (rows_in m sweep) b) (strip_row_of sweep.point) ∙ length-numbered b.start 0 (rows_in m sweep b)) in
    record { strip = made-strip m sweep b empty new rows h; from = omega arith; to = omega arith }

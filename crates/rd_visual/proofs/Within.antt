-- The items of a row begin in columns of its window.
use Rattle.std.proofs.Common.{◌≡◌, ℕ, zero, suc, ◌+◌, ◌-◌, ◌<◌, ◌≤◌, ◌&&◌, min, max, nat_le, Bool, true, false, List, [], ◌∷◌, ◌++◌, All, get_or, Some, refl, subst, arith}
use Rattle.std.specs.Prelude.{flat_map, length, if◌then◌else◌, replicate, slice_get}
use Rattle.std.proofs.lemmas.List.Elements.{All-append, All-cons, All-map, All-nil, recursion_from_All}
use Rattle.rd_base.proofs.Choices.{either}
use Rattle.rd_base.proofs.Lists.{all-at, all-back, all-front}
use Rattle.rd_base.specs.Faces.{Attributes, plain}
use Rattle.rd_base.specs.Glyphs.{blanks, is_space, look_cells}
use Rattle.rd_base.specs.declared.cell.Cell.{Cell}
use Rattle.rd_base.specs.declared.cell.Cell.TheVariants.{Blank, First, Rest}
use Rattle.rd_base.specs.declared.cell.Glyph.{Glyph}
use Rattle.rd_base.specs.declared.element.Element.{Element}
use Rattle.rd_base.specs.declared.element.Look.{Look}
use Rattle.rd_base.specs.declared.element.Look.TheVariants as look
use Rattle.rd_matrix.proofs.EachRow.{rows-each}
use Rattle.rd_rows.proofs.Marks.{row-has}
use Rattle.rd_rows.proofs.Mirroring.{row-length}
use Rattle.rd_rows.proofs.Splits.{over-rows, placed_in}
use Rattle.rd_ucd.specs.Data.{Data}
use Rattle.rd_objects.specs.Things.{ObjectLists}
use Rattle.rd_props.specs.Buffers.{BufferValue}
use Rattle.rd_items.specs.Pieces.{scene_in}
use Rattle.rd_items.specs.Readings.{reading}
use Rattle.rd_stack.specs.Lines.{line_elements}
use Rattle.rd_matrix.specs.Entries.{EntryMeaning}
use Rattle.rd_matrix.specs.declared.block.Block.{Block}
use Rattle.rd_blocks.specs.Rows.{block_cutting}
use Rattle.rd_blocks.specs.Sources.{text_source}
use Rattle.rd_visual.specs.Hits.{AreAdjacentRows}
use Rattle.rd_rows.specs.Mirrors.{leading_rests}
use Rattle.rd_rows.specs.Rows.{LaidRow, RowMeaning, begin_of, first_seen, laid, mark, row_of, rows_of, seen}
use Rattle.rd_rows.specs.Shapes.{IsShape, ShapeValues, room}
use Rattle.rd_rows.specs.declared.begin.Begin.{Begin}
use Rattle.rd_rows.specs.declared.cutting.Cutting.{Cutting}
use Rattle.rd_rows.specs.declared.spot.Placed.{Placed}

abbrev pub IsLow : ℕ → Begin → Type 0
IsLow width b = b.column < width

abbrev pub AreLow : ℕ → LaidRow → Type 0
AreLow width r = All (IsLow width) r.row.begins

begin-low : (shape : ShapeValues) (p : Placed) (q : Bool) → p.first ≡ q → 1 ≤ shape.width → All (IsLow shape.width) (begin_of shape p)
begin-low shape p false first some = rw first (All-nil (IsLow shape.width))
begin-low shape p true first some = rw first (All-cons (IsLow shape.width) (record { from = p.element.origin.from; to = p.element.origin.to; column = min (p.start - shape.hscroll) (room shape) }) [] (omega (arith, some)) (All-nil (IsLow shape.width)))

begins-low : (shape : ShapeValues) (ps : List Placed) → 1 ≤ shape.width → All (IsLow shape.width) (flat_map (begin_of shape) ps)
begins-low shape [] some = All-nil (IsLow shape.width)
begins-low shape (p ∷ ps) some = All-append (IsLow shape.width) (begin_of shape p) (flat_map (begin_of shape) ps) (begin-low shape p _ refl some) (begins-low shape ps some)

-- what holds of each row that may be laid out holds of the rows of a line
each-row : (P : LaidRow → Type 0) (c : Cutting) (es : List Element) → ((used : ℕ) (marked : Bool) (ps : List Placed) → P (laid c used marked ps)) → All P (rows_of c es)
each-row P c es own =
    over-rows c (λ lead. Unit {0}) (λ lead spot ys rows. All P rows) tt tt (λ lead spot. All-nil P)
    (λ n lead spot xs rest marked ended one lines later. All-cons P _ _ (own _ marked (lead ++ placed_in c lead spot xs)) later) es

pub rows-low : (c : Cutting) (es : List Element) → 1 ≤ c.shape.width → All (λ r. All (λ b. b.column < c.shape.width) r.row.begins) (rows_of c es)
rows-low c es some = each-row (AreLow c.shape.width) c es (λ used marked ps. begins-low c.shape ps some)

-- no row has fewer cells than the window has columns

leading-append : (xs ys : List Cell) → leading_rests xs ≡ 0 → leading_rests ys ≡ 0 → leading_rests (xs ++ ys) ≡ 0
leading-append [] ys none more = more
leading-append (Rest ∷ xs) ys none more = absurd (omega (arith, none))
leading-append (Blank f ∷ xs) ys none more = refl
leading-append (First g f ∷ xs) ys none more = refl

leading-blanks : (n : ℕ) (f : Attributes) → leading_rests (blanks n f) ≡ 0
leading-blanks zero f = refl
leading-blanks (suc n) f = refl

leading-either : (b : Bool) (xs ys : List Cell) → leading_rests xs ≡ 0 → leading_rests ys ≡ 0 → leading_rests (if b then xs else ys) ≡ 0
leading-either b xs ys none more = either (λ cells. leading_rests cells ≡ 0) b xs ys none more

leading-look : (n : ℕ) (l : Look) (f : Attributes) → leading_rests (look_cells n l f) ≡ 0
leading-look n (look.Glyph g) f = leading-either (is_space g) (blanks n f) (First g f ∷ replicate (n - 1) Rest) (leading-blanks n f) refl
leading-look n other f = leading-blanks n f

leading-seen : (from to : ℕ) (p : Placed) → leading_rests (seen from to p) ≡ 0
leading-seen from to p =
    leading-either (nat_le from p.start && nat_le (p.start + p.columns) to)
    (look_cells p.columns p.element.look p.element.face) (blanks (min to (p.start + p.columns) - max from p.start) p.element.face)
    (leading-look p.columns p.element.look p.element.face) (leading-blanks (min to (p.start + p.columns) - max from p.start) p.element.face)

leading-mark : (g : Glyph) → leading_rests (mark g ∷ []) ≡ 0
leading-mark g = either (λ x. leading_rests (x ∷ []) ≡ 0) (is_space g) (Blank plain) (First g plain) refl refl

row-wide : (c : Cutting) (used : ℕ) (continued : Bool) (ps : List Placed) → c.shape.width ≤ length (row_of c used continued ps).cells
row-wide c used continued ps =
    let leads = row-has (λ xs. leading_rests xs ≡ 0) leading-append refl (λ n. leading-blanks n plain) c (leading-mark c.truncation) (leading-mark c.continuation)
    used continued ps (recursion_from_All _ ps (λ k d here. leading-seen (first_seen c.shape) (c.shape.hscroll + room c.shape) (get_or ps k d))) in
    let size = row-length c used continued ps leads in
    omega (arith, size)

-- each item begins in a column of its row

abbrev pub HoldsBegins : RowMeaning → Type 0
HoldsBegins row = All (λ b. b.column < length row.cells) row.begins

row-holds : (c : Cutting) (used : ℕ) (continued : Bool) (ps : List Placed) → 1 ≤ c.shape.width → HoldsBegins (row_of c used continued ps)
row-holds c used continued ps some =
    let wide = row-wide c used continued ps in
    λ k b inside. let low = begins-low c.shape ps some k b inside in omega (arith, wide, low)

block-holds : (s : BufferValue) (objects : ObjectLists) (files : Data) (shape : ShapeValues) (b : Block) → 1 ≤ shape.width → All HoldsBegins ((text_source s objects files).rows_of b shape)
block-holds s objects files shape b some =
    let es = reading s objects b.start in
    let scene = scene_in s.settings objects files in
    let cutting = block_cutting scene b.base shape es in
    let line = line_elements scene b.base es in
    All-map HoldsBegins (λ (r : LaidRow). r.row) (rows_of cutting line)
    (each-row (λ r. HoldsBegins r.row) cutting line (λ used marked ps. row-holds cutting used marked ps some))

-- the rows of a buffer, each with its place

abbrev HoldsBeginsIn : EntryMeaning → Type 0
HoldsBeginsIn e = HoldsBegins e.row

pub entry-holds : (s : BufferValue) (objects : ObjectLists) (files : Data) (shape : ShapeValues) (es : List EntryMeaning) (k : ℕ) (e : EntryMeaning) → IsShape shape
    → AreAdjacentRows (text_source s objects files) shape es → slice_get es k ≡ Some e → HoldsBegins e.row
entry-holds s objects files shape es k e is rows there =
    let least = is.least in
    let source = text_source s objects files in
    let all = rows-each HoldsBegins (λ b. source.rows_of b shape) source.blocks (λ b. block-holds s objects files shape b (omega (arith, least))) in
    let mine = subst (All HoldsBeginsIn) rows.rows all in
    all-at HoldsBeginsIn es k e (all-front HoldsBeginsIn es rows.below (all-back HoldsBeginsIn rows.above (es ++ rows.below) mine)) there

pub item-held : (s : BufferValue) (objects : ObjectLists) (files : Data) (shape : ShapeValues) (es : List EntryMeaning) (row : ℕ) (e : EntryMeaning) (k : ℕ) (b : Begin) → IsShape shape
    → AreAdjacentRows (text_source s objects files) shape es → slice_get es row ≡ Some e → slice_get e.row.begins k ≡ Some b → b.column < length e.row.cells
item-held s objects files shape es row e k b is rows there place =
    all-at (λ (x : Begin). x.column < length e.row.cells) e.row.begins k b (entry-holds s objects files shape es row e is rows there) place

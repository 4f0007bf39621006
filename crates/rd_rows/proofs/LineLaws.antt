-- The laws of rows, row by row.
use Rattle.std.proofs.Common.{◌≡◌, ℕ, suc, ◌+◌, ◌*◌, not, Bool, true, false, if◌then◌else◌, IsTrue, List, [], ◌∷◌, ◌++◌, length, flat_map, map, Option, None, Some, refl, ap, sym, ◌∙◌, subst, arith, length-append, append_assoc}
use Rattle.std.proofs.lemmas.List.{map-append, append-nil}
use Rattle.std.proofs.lemmas.Grind.{flat_map-append}
use Rattle.rd_base.proofs.Lists.{total-append}
use Rattle.rd_base.specs.Elements.{ends_once, is_line_end}
use Rattle.rd_base.specs.declared.element.Element.{Element}
use Rattle.rd_rows.specs.declared.begin.Begin.{Begin}
use Rattle.rd_rows.specs.declared.cutting.Cutting.{Cutting}
use Rattle.rd_rows.specs.declared.spot.Placed.{Placed}
use Rattle.rd_rows.specs.declared.spot.Spot.{Spot}
use Rattle.rd_rows.specs.Leads.{HasLeads, IsQuiet, HasQuietLeads}
use Rattle.rd_rows.specs.Shapes.{ShapeValues}
use Rattle.rd_rows.specs.Placing.{is_item, ends_row, placed_at, behind, behind_all, next_row, next_line, place_all, columns_of, has_line_end}
use Rattle.rd_rows.specs.Prefixes.{begins_none}
use Rattle.rd_rows.specs.Rows.{RowMeaning, LaidRow, rows_within, rows_of, row_of, begin_of, laid, weight_of}
use Rattle.rd_rows.specs.Laws.{seen_rows, ends_last, begins_of, range_of, ranges_of, lines_in, IsPlacedOnce}
use Rattle.rd_rows.proofs.Ends.{line_ends, line_end-ends, standing-ends, ends_once-parts, ends_once-all}
use Rattle.rd_rows.proofs.Fitting.{begins-none}
use Rattle.rd_rows.proofs.Splits.{placed_in, spot_behind, lead_behind, next_behind, none-left, over-rows}

pub quiet-leads : (c : Cutting) → HasLeads c → HasQuietLeads c
quiet-leads c leads = record {
  first = record { on = leads.first.on; items = leads.first.items };
  wrap = record { on = leads.wrap.on; items = leads.wrap.items };
}

-- the last row

last-cons : (r : RowMeaning) (rs : List RowMeaning) → r.ends_block ≡ false → ends_last rs ≡ true → ends_last (r ∷ rs) ≡ true
last-cons r [] h k = cc
last-cons r (s ∷ rs) h k = rw (h, k) refl

last-step : (c : Cutting) (lead lead2 : List Placed) (start spot2 : Spot) (r : RowMeaning) (xs rest : List Element) (n : ℕ) → has_line_end lead ≡ false
    → r.ends_block ≡ has_line_end (lead ++ place_all c.shape start xs) → IsTrue (ends_once (xs ++ rest))
    → (IsTrue (ends_once rest) → ends_last (seen_rows (rows_within n c lead2 spot2 rest)) ≡ true)
    → ends_last (r ∷ seen_rows (rows_within n c lead2 spot2 rest)) ≡ true
last-step c lead lead2 start spot2 r xs [] n none same end rest =
    let all : IsTrue (ends_once xs) = subst (λ ys. IsTrue (ends_once ys)) (append-nil xs) end in
    rw (none-left n c lead2 spot2) (same ∙ (standing-ends c.shape lead start xs none ∙ ends_once-all xs all))
last-step c lead lead2 start spot2 r xs (f ∷ fs) n none same end rest =
    let parts = ends_once-parts xs f fs end in
    last-cons r _ (same ∙ (standing-ends c.shape lead start xs none ∙ parts.0)) (rest parts.1)

pub last-rows : (c : Cutting) (es : List Element) → HasQuietLeads c → IsTrue (ends_once es) → IsTrue (ends_last (seen_rows (rows_of c es)))
last-rows c es leads =
    over-rows c IsQuiet (λ lead spot ys rows. IsTrue (ends_once ys) → ends_last (seen_rows rows) ≡ true) leads.first leads.wrap (λ lead spot end. cc) (λ n lead spot xs rest marked ended one lines later once.
    last-step c lead (lead_behind c ended) (next_row (columns_of lead) spot) (next_behind c lead spot xs ended) (row_of c (spot_behind c lead spot xs).used marked (lead ++ placed_in c lead spot xs)) xs rest n one.on refl once later)
    es

-- where items begin

-- the item of the element before, behind these
abbrev pub before_behind : Option ℕ → List Element → Option ℕ
before_behind before [] = before
before_behind before (e ∷ es) = before_behind (Some e.origin.item) es

pub ranges-append : (before : Option ℕ) (xs ys : List Element) → ranges_of before (xs ++ ys) ≡ ranges_of before xs ++ ranges_of (before_behind before xs) ys
ranges-append before [] ys = refl
ranges-append before (x ∷ xs) ys = rw (ranges-append (Some x.origin.item) xs ys) (sym (append_assoc _ (ranges_of (Some x.origin.item) xs) (ranges_of (before_behind (Some x.origin.item) xs) ys)))

before-placed : (shape : ShapeValues) (spot : Spot) (xs : List Element) → (behind_all spot (place_all shape spot xs)).before ≡ before_behind spot.before xs
before-placed shape spot [] = refl
before-placed shape spot (x ∷ xs) = before-placed shape (behind spot (placed_at shape spot x)) xs

begun-by : (b : Bool) (r : Begin) → map range_of (if not b then r ∷ [] else []) ≡ (if b then [] else (r.from, r.to) ∷ [])
begun-by true r = refl
begun-by false r = refl

begun-placed : (shape : ShapeValues) (spot : Spot) (xs : List Element) → map range_of (flat_map (begin_of shape) (place_all shape spot xs)) ≡ ranges_of spot.before xs
begun-placed shape spot [] = refl
begun-placed shape spot (x ∷ xs) =
    let p = placed_at shape spot x in
    map-append range_of (begin_of shape p) (flat_map (begin_of shape) (place_all shape (behind spot p) xs))
    ∙ rw (begun-placed shape (behind spot p) xs) (ap (λ (zs : List (ℕ × ℕ)). zs ++ ranges_of (Some x.origin.item) xs) (begun-by (is_item spot.before x.origin.item) _))

begun-row : (shape : ShapeValues) (lead : List Placed) (start : Spot) (xs : List Element) → IsTrue (begins_none lead)
    → map range_of (flat_map (begin_of shape) (lead ++ place_all shape start xs)) ≡ ranges_of start.before xs
begun-row shape lead start xs none =
    ap (map range_of) (flat_map-append (begin_of shape) lead (place_all shape start xs) ∙ ap (λ (bs : List Begin). bs ++ flat_map (begin_of shape) (place_all shape start xs)) (begins-none shape lead none))
    ∙ begun-placed shape start xs

before-next : (b : Bool) (spot : Spot) → (if b then next_line spot else spot).before ≡ spot.before
before-next true spot = refl
before-next false spot = refl

pub begun-rows : (c : Cutting) (es : List Element) → HasQuietLeads c → map range_of (begins_of (seen_rows (rows_of c es))) ≡ ranges_of None es
begun-rows c es leads =
    over-rows c IsQuiet (λ lead spot ys rows. map range_of (begins_of (seen_rows rows)) ≡ ranges_of spot.before ys) leads.first leads.wrap (λ lead spot. refl) (λ n lead spot xs rest marked ended one lines later.
    let start = next_row (columns_of lead) spot in
    let next = next_behind c lead spot xs ended in
    let before : next.before ≡ before_behind spot.before xs = before-next ended (spot_behind c lead spot xs) ∙ before-placed c.shape start xs in
    map-append range_of (flat_map (begin_of c.shape) (lead ++ placed_in c lead spot xs)) (begins_of (seen_rows (rows_within n c (lead_behind c ended) next rest)))
    ∙ rw (begun-row c.shape lead start xs one.items, later, before) (sym (ranges-append spot.before xs rest)))
    es

-- how often elements were placed

-- the rows of what is left, of which the first begins with a prefix of so many elements
record Counted (rows : List LaidRow) (lead left lines first wrap : ℕ) : Type 0 where
  continued : ℕ
  count : length rows ≡ lines + continued
  weight : weight_of rows + first ≡ lead + left + lines * first + continued * wrap

-- one row more, which holds so many line ends, one or none: where it holds none the row behind it is a further row of its line
counted-more : (r : LaidRow) (rows : List LaidRow) (lead next xs left here lines first wrap more : ℕ) → r.weight ≡ lead + xs → here + more ≡ 1 → next ≡ here * first + more * wrap
    → Counted rows next left lines first wrap → Counted (r ∷ rows) lead (xs + left) (here + lines) first wrap
counted-more r rows lead next xs left here lines first wrap more row one begins later =
    let count = later.count in let weight = later.weight in
    let all : weight_of (r ∷ rows) ≡ r.weight + weight_of rows = refl in
    let ended : (here + lines) * first ≡ here * first + lines * first = grind arith in
    let turned : (later.continued + more) * wrap ≡ later.continued * wrap + more * wrap = grind arith in
    record { continued = later.continued + more; count = omega arith; weight = omega arith }

no-line : (x : Element) (xs : List Element) (b : Bool) → is_line_end x.look ≡ b → lines_in (x ∷ xs) ≡ 0 → line_ends (x ∷ xs) ≡ true → (lines_in xs ≡ 0 → line_ends xs ≡ true → ⊥) → ⊥
no-line x xs true h none some rest = absurd (let ends = line_end-ends x.look h in let more : 1 + lines_in xs ≡ 0 = rw ends at none in omega (arith, more))
no-line x xs false h none some rest = rest (omega arith) (rw h at some)

no-lines : (xs : List Element) → lines_in xs ≡ 0 → line_ends xs ≡ true → ⊥
no-lines [] h k = cc
no-lines (x ∷ xs) h k = no-line x xs (is_line_end x.look) refl h k (no-lines xs)

line-end-counts : (xs : List Element) (b : Bool) → lines_in xs ≡ (if b then 1 else 0) → line_ends xs ≡ true → lines_in xs ≡ 1
line-end-counts xs true h k = h
line-end-counts xs false h k = absurd (no-lines xs h k)

counted-rest : (c : Cutting) (lead : List Placed) (spot2 : Spot) (r : LaidRow) (xs rest : List Element) (n : ℕ) (b : Bool) → r.weight ≡ length lead + length xs
    → lines_in xs ≡ (if b then 1 else 0) → IsTrue (ends_once (xs ++ rest))
    → (IsTrue (ends_once rest) → Counted (rows_within n c (if b then c.first else c.wrap) spot2 rest) (length (if b then c.first else c.wrap)) (length rest) (lines_in rest) (length c.first) (length c.wrap))
    → Counted (r ∷ rows_within n c (if b then c.first else c.wrap) spot2 rest) (length lead) (length xs + length rest) (lines_in xs + lines_in rest) (length c.first) (length c.wrap)
counted-rest c lead spot2 r xs [] n b weight lines end rest =
    let all : IsTrue (ends_once xs) = subst (λ ys. IsTrue (ends_once ys)) (append-nil xs) end in
    let one = line-end-counts xs b lines (ends_once-all xs all) in
    rw (none-left n c (if b then c.first else c.wrap) spot2)
    (counted-more r [] (length lead) (length c.first) (length xs) 0 (lines_in xs) 0 (length c.first) (length c.wrap) 0 weight (omega (arith, one)) (rw one (omega arith))
    (record { continued = 0; count = refl; weight = omega arith }))
counted-rest c lead spot2 r xs (f ∷ fs) n true weight lines end rest =
    counted-more r _ (length lead) (length c.first) (length xs) (length (f ∷ fs)) (lines_in xs) (lines_in (f ∷ fs)) (length c.first) (length c.wrap) 0
    weight (omega (arith, lines)) (rw lines (omega arith)) (rest (ends_once-parts xs f fs end).1)
counted-rest c lead spot2 r xs (f ∷ fs) n false weight lines end rest =
    counted-more r _ (length lead) (length c.wrap) (length xs) (length (f ∷ fs)) (lines_in xs) (lines_in (f ∷ fs)) (length c.first) (length c.wrap) 1
    weight (omega (arith, lines)) (rw lines (omega arith)) (rest (ends_once-parts xs f fs end).1)

pub length-placed : (shape : ShapeValues) (spot : Spot) (xs : List Element) → length (place_all shape spot xs) ≡ length xs
length-placed shape spot [] = refl
length-placed shape spot (x ∷ xs) = ap suc (length-placed shape (behind spot (placed_at shape spot x)) xs)

counted : (c : Cutting) (es : List Element) → IsTrue (ends_once es) → Counted (rows_of c es) (length c.first) (length es) (lines_in es) (length c.first) (length c.wrap)
counted c es =
    over-rows c (λ lead. Unit {0}) (λ lead spot ys rows. IsTrue (ends_once ys) → Counted rows (length lead) (length ys) (lines_in ys) (length c.first) (length c.wrap)) tt tt (λ lead spot end. cc) (λ n lead spot xs rest marked ended one lines later once.
    let ps = placed_in c lead spot xs in
    let weight : length (lead ++ ps) ≡ length lead + length xs = length-append lead ps ∙ ap (λ k. length lead + k) (length-placed c.shape (next_row (columns_of lead) spot) xs) in
    rw (length-append xs rest, total-append (λ (e : Element). if ends_row e.look then 1 else 0) xs rest)
    (counted-rest c lead (next_behind c lead spot xs ended) (laid c (spot_behind c lead spot xs).used marked (lead ++ ps)) xs rest n ended weight lines once later))
    es

pub placed-once : (c : Cutting) (es : List Element) → IsTrue (ends_once es) → IsPlacedOnce c es (rows_of c es)
placed-once c es end =
    let all = counted c es end in
    let weight = all.weight in
    record { continued = all.continued; count = all.count; weight = omega (arith, weight) }

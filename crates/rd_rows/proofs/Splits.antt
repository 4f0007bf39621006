-- How a row is cut from the elements of a line.
use Rattle.std.proofs.Common.{◌≡◌, ℕ, zero, suc, ◌<◌, ◌≤◌, ◌&&◌, ◌||◌, not, Bool, true, false, if◌then◌else◌, List, [], ◌∷◌, ◌++◌, length, drop, refl, ap, sym, ◌∙◌, subst, arith, append_assoc}
use Rattle.std.proofs.lemmas.Bool.{and_parts, not-true}
use Rattle.std.proofs.lemmas.List.{length-drop}
use Rattle.std.proofs.Math.Seq.{drop-append_seam}
use Rattle.rd_base.proofs.Choices.{either}
use Rattle.rd_base.specs.declared.element.Element.{Element}
use Rattle.rd_rows.specs.declared.cutting.Cutting.{Cutting}
use Rattle.rd_rows.specs.declared.spot.Placed.{Placed}
use Rattle.rd_rows.specs.declared.spot.Spot.{Spot}
use Rattle.rd_rows.specs.Cuts.{is_break, has_break, up_to_break, ends_some, fitting, room_for, RowCut, is_wrapped, cut_row}
use Rattle.rd_rows.specs.Laws.{lines_in}
use Rattle.rd_rows.specs.Placing.{ends_row, fits, placed_at, behind, behind_all, next_row, next_line, line_start, place_all, columns_of}
use Rattle.rd_rows.specs.Rows.{LaidRow, laid, rows_within, rows_of}
use Rattle.rd_rows.specs.Shapes.{ShapeValues}
use Rattle.rd_rows.proofs.Ends.{on-lines, on-parts}

-- a front of a list
pub record IsFront (xs es : List Element) : Type 0 where
  pub rest : List Element
  pub parts : es ≡ xs ++ rest

first-front : (e : Element) (es xs : List Element) (d : Bool) → IsFront xs es → IsFront (e ∷ (if d then [] else xs)) (e ∷ es)
first-front e es xs true f = record { rest = es; parts = refl }
first-front e es xs false f = record { rest = f.rest; parts = ap (λ ys. e ∷ ys) f.parts }

fitting-front : (shape : ShapeValues) (spot : Spot) (es : List Element) → IsFront (fitting shape spot es) es
fitting-front shape spot [] = record { rest = []; parts = refl }
fitting-front shape spot (e ∷ es) =
    either (λ xs. IsFront xs (e ∷ es)) (fits shape spot e) _ []
    (first-front e es _ (ends_row e.look) (fitting-front shape (behind spot (placed_at shape spot e)) es)) (record { rest = e ∷ es; parts = refl })

-- a row has at most one end, behind which nothing stands in it

first-lines : (e : Element) (xs : List Element) (d : Bool) → ends_row e.look ≡ d → lines_in xs ≡ (if ends_some xs then 1 else 0)
    → lines_in (e ∷ (if d then [] else xs)) ≡ (if ends_some (e ∷ (if d then [] else xs)) then 1 else 0)
first-lines e xs true h f = rw h refl
first-lines e xs false h f = rw h (let g = f in omega (arith, g))

fitting-lines : (shape : ShapeValues) (spot : Spot) (es : List Element) → lines_in (fitting shape spot es) ≡ (if ends_some (fitting shape spot es) then 1 else 0)
fitting-lines shape spot [] = refl
fitting-lines shape spot (e ∷ es) =
    either (λ xs. lines_in xs ≡ (if ends_some xs then 1 else 0)) (fits shape spot e) _ []
    (first-lines e _ (ends_row e.look) refl (fitting-lines shape (behind spot (placed_at shape spot e)) es)) refl

pub room-lines : (shape : ShapeValues) (spot : Spot) (e : Element) (es : List Element) → lines_in (room_for shape spot (e ∷ es)) ≡ (if ends_some (room_for shape spot (e ∷ es)) then 1 else 0)
room-lines shape spot e es = first-lines e _ (ends_row e.look) refl (fitting-lines shape (behind spot (placed_at shape spot e)) es)

-- up to the last break

if-front : (e : Element) (es : List Element) (b : Bool) → IsFront (up_to_break es) es → IsFront (if b then e ∷ up_to_break es else []) (e ∷ es)
if-front e es true f = record { rest = f.rest; parts = ap (λ xs. e ∷ xs) f.parts }
if-front e es false f = record { rest = e ∷ es; parts = refl }

pub break-front : (es : List Element) → IsFront (up_to_break es) es
break-front [] = record { rest = []; parts = refl }
break-front (e ∷ es) = if-front e es (is_break e.look || has_break es) (break-front es)

pub break-some : (es : List Element) → has_break es ≡ true → 0 < length (up_to_break es)
break-some [] h = cc
break-some (e ∷ es) h = rw h (omega arith)

front-trans : (xs ys es : List Element) → IsFront xs ys → IsFront ys es → IsFront xs es
front-trans xs ys es f g = record { rest = f.rest ++ g.rest; parts = g.parts ∙ (ap (λ zs. zs ++ g.rest) f.parts ∙ append_assoc xs f.rest g.rest) }

-- the row that is cut from some elements, of which there is one

pub record IsCut (es : List Element) (cut : RowCut) : Type 0 where
  pub parts : es ≡ cut.elements ++ drop (length cut.elements) es
  pub some : 0 < length cut.elements
  pub lines : lines_in cut.elements ≡ (if cut.ended then 1 else 0)
  pub ended : cut.ended ≡ ends_some cut.elements

front-parts : (xs es : List Element) → IsFront xs es → es ≡ xs ++ drop (length xs) es
front-parts xs es f =
    let rest : drop (length xs) es ≡ f.rest = ap (drop (length xs)) f.parts ∙ drop-append_seam xs f.rest in
    f.parts ∙ ap (λ ys. xs ++ ys) (sym rest)

wrapped-parts : (shape : ShapeValues) (xs : List Element) → is_wrapped shape xs ≡ true → (has_break xs ≡ true) × (ends_some xs ≡ false)
wrapped-parts shape xs h =
    let all = and_parts _ (not (ends_some xs)) h in
    ((and_parts _ (has_break xs) all.0).1, not-true (ends_some xs) all.1)

cut-by : (shape : ShapeValues) (es xs : List Element) (w : Bool) → is_wrapped shape xs ≡ w → IsFront xs es → 0 < length xs → lines_in xs ≡ (if ends_some xs then 1 else 0)
    → IsCut es (record { elements = if w then up_to_break xs else xs; ended = ends_some xs; marked = not (ends_some xs) && not w })
cut-by shape es xs true h f some lines =
    let parts = wrapped-parts shape xs h in
    let on = (on-parts (up_to_break xs) (break-front xs).rest (ap ends_some (sym (break-front xs).parts) ∙ parts.1)).0 in
    record {
      parts = front-parts (up_to_break xs) es (front-trans (up_to_break xs) xs es (break-front xs) f);
      some = break-some xs parts.0;
      lines = on-lines (up_to_break xs) on ∙ rw parts.1 refl;
      ended = parts.1 ∙ sym on;
    }
cut-by shape es xs false h f some lines = record {
  parts = front-parts xs es f;
  some = some;
  lines = lines;
  ended = refl;
}

cut-is : (shape : ShapeValues) (spot : Spot) (e : Element) (es : List Element) → IsCut (e ∷ es) (cut_row shape spot (e ∷ es))
cut-is shape spot e es =
    cut-by shape (e ∷ es) (room_for shape spot (e ∷ es)) (is_wrapped shape (room_for shape spot (e ∷ es))) refl
    (first-front e es _ (ends_row e.look) (fitting-front shape (behind spot (placed_at shape spot e)) es))
    (omega arith) (room-lines shape spot e es)

-- what is left behind a row is less

rest-less : (n : ℕ) (e : Element) (es xs : List Element) → 0 < length xs → length (e ∷ es) ≤ suc n → length (drop (length xs) (e ∷ es)) ≤ n
rest-less n e es xs some few = let size = length-drop (length xs) (e ∷ es) in omega (arith, size, some, few)

-- the rows are the same, however many there may be at most

pub none-left : (n : ℕ) (c : Cutting) (lead : List Placed) (spot : Spot) → rows_within n c lead spot [] ≡ []
none-left zero c lead spot = refl
none-left (suc n) c lead spot = refl

pub rows-same : (m n : ℕ) (c : Cutting) (lead : List Placed) (spot : Spot) (es : List Element) → length es ≤ m → length es ≤ n → rows_within m c lead spot es ≡ rows_within n c lead spot es
rows-same m n c lead spot [] h k = none-left m c lead spot ∙ sym (none-left n c lead spot)
rows-same zero n c lead spot (e ∷ es) h k = absurd (omega arith)
rows-same (suc m) zero c lead spot (e ∷ es) h k = absurd (omega arith)
rows-same (suc m) (suc n) c lead spot (e ∷ es) h k =
    let start = next_row (columns_of lead) spot in
    let cut = cut_row c.shape start (e ∷ es) in
    let some = (cut-is c.shape start e es).some in
    ap (λ rs. laid c (behind_all start (place_all c.shape start cut.elements)).used cut.marked (lead ++ place_all c.shape start cut.elements) ∷ rs)
    (rows-same m n c _ _ (drop (length cut.elements) (e ∷ es)) (rest-less m e es cut.elements some h) (rest-less n e es cut.elements some k))

-- the elements of a row in their places, and where they end
abbrev pub placed_in : Cutting → List Placed → Spot → List Element → List Placed
placed_in c lead spot xs = place_all c.shape (next_row (columns_of lead) spot) xs

abbrev pub spot_behind : Cutting → List Placed → Spot → List Element → Spot
spot_behind c lead spot xs = behind_all (next_row (columns_of lead) spot) (placed_in c lead spot xs)

-- the prefix of the next row, and where that begins
abbrev pub lead_behind : Cutting → Bool → List Placed
lead_behind c ended = if ended then c.first else c.wrap

abbrev pub next_behind : Cutting → List Placed → Spot → List Element → Bool → Spot
next_behind c lead spot xs ended = if ended then next_line (spot_behind c lead spot xs) else spot_behind c lead spot xs

-- the row with these elements, and those of what is left
abbrev pub row_with : ℕ → Cutting → List Placed → Spot → List Element → List Element → Bool → Bool → List LaidRow
row_with n c lead spot xs rest marked ended =
    laid c (spot_behind c lead spot xs).used marked (lead ++ placed_in c lead spot xs)
    ∷ rows_within n c (lead_behind c ended) (next_behind c lead spot xs ended) rest

-- what holds where no element is left, and of each row with those of what is left, holds of a line's rows. Each begins with a prefix, of
-- which something may hold too
module _ (c : Cutting) (Lead : List Placed → Type 0) (P : List Placed → Spot → List Element → List LaidRow → Type 0) (first : Lead c.first) (wrap : Lead c.wrap) (none : (lead : List Placed) (spot : Spot) → P lead spot [] [])
    (step : (n : ℕ) (lead : List Placed) (spot : Spot) (xs rest : List Element) (marked ended : Bool) → Lead lead → lines_in xs ≡ (if ended then 1 else 0)
    → P (lead_behind c ended) (next_behind c lead spot xs ended) rest (rows_within n c (lead_behind c ended) (next_behind c lead spot xs ended) rest)
    → P lead spot (xs ++ rest) (row_with n c lead spot xs rest marked ended)) where
  rows-behind : (n : ℕ) (lead : List Placed) (spot : Spot) (es : List Element) → Lead lead → length es ≤ n → P lead spot es (rows_within n c lead spot es)
  rows-behind n lead spot [] one few = subst (P lead spot []) (sym (none-left n c lead spot)) (none lead spot)
  rows-behind zero lead spot (e ∷ es) one few = absurd (omega arith)
  rows-behind (suc n) lead spot (e ∷ es) one few =
      let start = next_row (columns_of lead) spot in
      let cut = cut_row c.shape start (e ∷ es) in
      let is = cut-is c.shape start e es in
      let rest : List Element = drop (length cut.elements) (e ∷ es) in
      subst (λ ys. P lead spot ys (rows_within (suc n) c lead spot (e ∷ es))) (sym is.parts)
      (step n lead spot cut.elements rest cut.marked cut.ended one is.lines
      (rows-behind n (lead_behind c cut.ended) (next_behind c lead spot cut.elements cut.ended) rest (either Lead cut.ended c.first c.wrap first wrap) (rest-less n e es cut.elements is.some few)))

  pub over-rows : (es : List Element) → P c.first line_start es (rows_of c es)
  over-rows es = rows-behind (length es) c.first line_start es first (omega arith)

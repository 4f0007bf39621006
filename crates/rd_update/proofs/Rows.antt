-- What the bytes of a row, and those of the rows that differ, do to a terminal.
use Rattle.std.proofs.Common.{◌≡◌, if◌then◌else◌, ◌⊎◌, inl, inr, ℕ, zero, suc, ◌+◌, ◌-◌, ◌<◌, ◌≤◌, Bool, true, false, not, nat_lt, min, max, List, [], ◌∷◌, ◌++◌, length, get_or, set, take, drop, map, replicate, Option, None, Some, refl, sym, ap, ◌∙◌, subst, subst₂, arith, append_assoc, append-nil, drop_of_length-le, le_refl}
use Rattle.std.specs.List.{AllByRecursion}
use Rattle.std.proofs.lemmas.Bool.{cases_lt}
use Rattle.std.proofs.lemmas.Bool.Decides.{nat_tests}
use Rattle.std.proofs.lemmas.List.{get_or_at, set_at, take-take, take_at, length-append, length-map, length-take-le, length-drop, map-append, drop-drop, length-replicate, nil_from_length}
use Rattle.rd_base.proofs.Lists.{each-take, each-drop}
use Rattle.rd_base.proofs.Rows.{by-cells}
use Rattle.rd_base.proofs.Colours.{plain-coloured}
use Rattle.rd_base.specs.Cells.{IsColoured}
use Rattle.rd_base.specs.Faces.{plain}
use Rattle.rd_base.specs.Glyphs.{IsRowAfter}
use Rattle.rd_base.specs.declared.cell.Cell.{Cell}
use Rattle.rd_base.specs.declared.cell.Cell.TheVariants.{Blank, First, Rest}
use Rattle.rd_base.specs.Equals.{same_cell}
use Rattle.rd_term.specs.Overwriting.{first_column, later_columns}
use Rattle.rd_term.specs.Pictures.{blank}
use Rattle.rd_term.specs.Walks.{passing}
use Rattle.rd_term.specs.Terminals.{Tty, feed_bytes, known, erased_from, feed_byte}
use Rattle.rd_term.proofs.Cutting.{Row, front as front_of, behind, overwritten-is, map-replicate}
use Rattle.rd_term.proofs.Encoded.{Rows, standing}
use Rattle.rd_term.proofs.Shapes.{part-length}
use Rattle.rd_term.proofs.Walks.{back-stops, on-le}
use Rattle.std.proofs.lemmas.List.Sums.{fold-append}
use Rattle.rd_update.specs.Updates.{move, erase_to_end, text_by, pen_behind, dress, first_difference, end_of_differences, goes_on, begin_of, end_of, used, differs, row_bytes, rows_bytes, rows_after, allows, less_one}
use Rattle.rd_update.proofs.Dressing.{dress_fed}
use Rattle.rd_update.proofs.Sequences.{move_fed}
use Rattle.rd_update.proofs.Spans.{front-same, back-same, no-difference, first_before, end_within, blank-from, three-parts, begin-le, end-is, begin-first, at-whole}
use Rattle.rd_update.proofs.Texts.{TextFed, text_fed}

-- a terminal with these rows and a plain pen between two sequences, wherever its cursor is
pub record Stands (region : Option (ℕ × ℕ)) (rows : Rows) (t : Tty) : Type 0 where
  pub cursor : Option (ℕ × ℕ)
  pub wait : Bool
  pub latest : Option (ℕ × ℕ)
  pub is : t ≡ standing region rows cursor wait (Some plain) latest

stands-along : (region : Option (ℕ × ℕ)) → (rows rows2 : Rows) (t u : Tty) → rows ≡ rows2 → t ≡ u → Stands region rows t → Stands region rows2 u
stands-along region rows rows2 t u r e h = subst₂ (λ (x : Rows) (y : Tty). Stands region x y) r e h

-- ---- parts of a row of whole characters

-- a row that goes on with no later column owes none
none-due : (due : ℕ) (cells : List Cell) → IsRowAfter due cells → later_columns (map Some cells) ≡ 0 → due ≡ 0
none-due = by-cells (λ due cells. later_columns (map Some cells) ≡ 0 → due ≡ 0) (λ e. refl) (λ f cells so e. refl) (λ g f cells good row so e. refl)
    (λ due cells so e. absurd (omega arith))

-- both parts of a row that is cut where no character goes on hold whole characters
whole-cut : (n due : ℕ) (cells : List Cell) → IsRowAfter due cells → later_columns (map Some (drop n cells)) ≡ 0 → n ≤ length cells
    → IsRowAfter due (take n cells) × IsRowAfter 0 (drop n cells)
whole-cut zero due cells h e le =
    let none = none-due due cells h e in
    (subst (λ d. IsRowAfter d []) (sym none) tt, subst (λ d. IsRowAfter d cells) none h)
whole-cut (suc n) due [] h e le = absurd (omega arith)
whole-cut (suc n) zero (Blank f ∷ cells) h e le = whole-cut n 0 cells h e (omega arith)
whole-cut (suc n) zero (First g f ∷ cells) h e le =
    let cut = whole-cut n (g.width - 1) cells h.1 e (omega arith) in
    ((h.0, cut.0), cut.1)
whole-cut (suc n) zero (Rest ∷ cells) h e le = absurd h
whole-cut (suc n) (suc due) (Rest ∷ cells) h e le = whole-cut n due cells h e (omega arith)
whole-cut (suc n) (suc due) (Blank f ∷ cells) h e le = absurd h
whole-cut (suc n) (suc due) (First g f ∷ cells) h e le = absurd h

later-blanks : (n : ℕ) → later_columns (map Some (replicate n blank)) ≡ 0
later-blanks zero = refl
later-blanks (suc n) = refl

-- from its begin the interval holds whole characters
begin-whole : (old new : List Cell) (a : ℕ) → a < length new → IsRowAfter 0 new → (a ≡ 0) ⊎ (goes_on old new a ≡ false) → IsRowAfter 0 (drop a new)
begin-whole old new a q h (inl e) = subst (λ k. IsRowAfter 0 (drop k new)) (sym e) h
begin-whole old new a q h (inr e) = (whole-cut a 0 new h (at-whole old new a e).1 (omega (arith, q))).1

-- ---- the end of a row

pub erase_fed : (region : Option (ℕ × ℕ)) → (above below : Rows) (row : Row) (column : ℕ) (latest : Option (ℕ × ℕ)) → first_column row column ≡ column → column ≤ length row
    → feed_bytes (standing region (above ++ row ∷ below) (Some (length above, column)) false (Some plain) latest) erase_to_end
    ≡ standing region (above ++ (take column row ++ replicate (length row - column) (Some blank)) ∷ below) (Some (length above, column)) false (Some plain) None
erase_fed region above below row column latest first le =
    let at : get_or (above ++ row ∷ below) (length above) [] ≡ row = get_or_at above row below [] (length above) refl in
    let n : column + length (replicate (length row - column) (Some blank)) ≡ length row = omega (arith, le, length-replicate (length row - column) (Some blank)) in
    let gone : drop (length row) row ≡ [] = drop_of_length-le row (le_refl (length row)) in
    let none : column - column ≡ 0 = omega arith in
    let zero_more : length row + 0 ≡ length row = omega arith in
    let nothing : behind row (length row) ≡ [] = ap (λ xs. replicate (later_columns xs) None ++ drop (length row + later_columns xs) row) gone ∙ ap (λ k. drop k row) zero_more ∙ gone in
    let kept : front_of row column ≡ take column row = ap (λ k. take k row ++ replicate (column - k) None) first ∙ ap (λ k. take column row ++ replicate k None) none ∙ append-nil (take column row) in
    let over : erased_from column row ≡ take column row ++ replicate (length row - column) (Some blank) =
    overwritten-is row column (length row) (replicate (length row - column) (Some blank)) n
    ∙ ap (λ xs. xs ++ (replicate (length row - column) (Some blank) ++ behind row (length row))) kept
    ∙ ap (λ xs. take column row ++ (replicate (length row - column) (Some blank) ++ xs)) nothing
    ∙ ap (λ xs. take column row ++ xs) (append-nil (replicate (length row - column) (Some blank))) in
    let rows = set_at above row below (take column row ++ replicate (length row - column) (Some blank)) (length above) refl in
    let State = λ (rs : Rows). standing region rs (Some (length above, column)) false (Some plain) None in
    ap (λ (r : Row). State (set (above ++ row ∷ below) (length above) (erased_from column r))) at
    ∙ ap (λ (r : Row). State (set (above ++ row ∷ below) (length above) r)) over
    ∙ ap State rows

-- behind the text: the pen becomes plain, and the rest is erased or is as it has to be
row-end : (region : Option (ℕ × ℕ)) → (above below : Rows) (front back : Row) (many : ℕ) (cells rest : List Cell) (erases : Bool) (t : Tty)
    → TextFed region above below front many back cells (pen_behind plain cells) t
    → (erases ≡ true → (length cells < many) × (map Some rest ≡ replicate (many - length cells + length back) (Some blank)))
    → (erases ≡ false → (length cells ≡ many) × (map Some rest ≡ back))
    → Stands region (above ++ (front ++ (map Some cells ++ map Some rest)) ∷ below) (feed_bytes t (dress (pen_behind plain cells) plain ++ (if erases then erase_to_end else [])))
row-end region above below front back many cells rest true t fed gone kept =
    let pen = pen_behind plain cells in
    let X = fed.left ++ back in
    let row = front ++ (map Some cells ++ (fed.left ++ back)) in
    let K = length front + length cells in
    let less = (gone refl).0 in
    let some : 0 < length (fed.left ++ back) = omega (arith, fed.long, less, length-append fed.left back) in
    let free = fed.goes_on some in
    let dressed = dress_fed region (above ++ row ∷ below) fed.cursor fed.wait pen plain fed.latest plain-coloured in
    let n : length (front ++ map Some cells) ≡ length front + length cells = length-append front (map Some cells) ∙ ap (λ k. length front + k) (length-map cells Some) in
    let long : length (front ++ (map Some cells ++ (fed.left ++ back))) ≡ length front + length cells + length (fed.left ++ back) =
    omega (arith, length-append front (map Some cells ++ (fed.left ++ back)), length-append (map Some cells) (fed.left ++ back), length-map cells Some) in
    let erased = erase_fed region above below row K dressed.0 fed.whole (omega (arith, long)) in
    let taken : take (length front + length cells) (front ++ (map Some cells ++ (fed.left ++ back))) ≡ front ++ map Some cells =
    ap (take (length front + length cells)) (sym (append_assoc front (map Some cells) (fed.left ++ back))) ∙ take_at (front ++ map Some cells) (fed.left ++ back) (length front + length cells) n in
    let left : length (front ++ (map Some cells ++ (fed.left ++ back))) - (length front + length cells) ≡ many - length cells + length back = omega (arith, long, fed.long, less, length-append fed.left back) in
    let State = λ (r : Row) (c : Option (ℕ × ℕ)) (w : Bool) (l : Option (ℕ × ℕ)). standing region (above ++ r ∷ below) c w (Some plain) l in
    record {
      cursor = Some (length above, length front + length cells);
      wait = false;
      latest = None;
      is =
          fold-append feed_byte t (dress pen plain) erase_to_end
          ∙ ap (λ u. feed_bytes u erase_to_end) (
          ap (λ u. feed_bytes u (dress pen plain)) fed.is ∙ dressed.1
          ∙ ap (λ c. State row c fed.wait dressed.0) free.0 ∙ ap (λ w. State row (Some (length above, K)) w dressed.0) free.1)
          ∙ erased
          ∙ ap (λ r. State r (Some (length above, K)) false None) (
          ap (λ xs. xs ++ replicate (length row - K) (Some blank)) taken
          ∙ ap (λ k. (front ++ map Some cells) ++ replicate k (Some blank)) left
          ∙ append_assoc front (map Some cells) (replicate (many - length cells + length back) (Some blank))
          ∙ ap (λ xs. front ++ (map Some cells ++ xs)) (sym (gone refl).1));
    }
row-end region above below front back many cells rest false t fed gone kept =
    let pen = pen_behind plain cells in
    let all = kept refl in
    let row = front ++ (map Some cells ++ (fed.left ++ back)) in
    let dressed = dress_fed region (above ++ row ∷ below) fed.cursor fed.wait pen plain fed.latest plain-coloured in
    let none : fed.left ≡ [] = nil_from_length fed.left (omega (arith, fed.long, all.0)) in
    record {
      cursor = fed.cursor;
      wait = fed.wait;
      latest = dressed.0;
      is =
          ap (feed_bytes t) (append-nil (dress pen plain))
          ∙ ap (λ u. feed_bytes u (dress pen plain)) fed.is ∙ dressed.1
          ∙ ap (λ xs. standing region (above ++ (front ++ (map Some cells ++ (xs ++ back))) ∷ below) fed.cursor fed.wait (Some plain) dressed.0) none
          ∙ ap (λ xs. standing region (above ++ (front ++ (map Some cells ++ xs)) ∷ below) fed.cursor fed.wait (Some plain) dressed.0) (sym all.1);
    }

-- ---- a row that differs

-- before the interval both rows are the same, and behind it
begin-same : (old new : List Cell) → take (begin_of old new) new ≡ take (begin_of old new) old
begin-same old new =
    let le = begin-le old new (first_difference old new) in
    sym (take-take (begin_of old new) (first_difference old new) new le)
    ∙ ap (take (begin_of old new)) (front-same old new)
    ∙ take-take (begin_of old new) (first_difference old new) old le

end-same : (old new : List Cell) → length old ≡ length new → drop (end_of old new) new ≡ drop (end_of old new) old
end-same old new same =
    let e = end_of_differences old new in
    let n = passing (goes_on old new) e (length new - e) in
    sym (drop-drop n e new) ∙ ap (drop n) (back-same old new same) ∙ drop-drop n e old

-- the text ends where a character does
text-ends : (old new : List Cell) (k m : ℕ) → length old ≡ length new → m ≡ min (end_of old new) k → used new ≤ k → later_columns (map Some (drop m new)) ≡ 0
text-ends old new k m same e le = elim (cases_lt k (end_of old new)) [
  | inl less ↦
      let is : m ≡ k = omega (arith, e) in
      ap (λ j. later_columns (map Some (drop j new))) is ∙ ap (λ xs. later_columns (map Some xs)) (blank-from new k le) ∙ later-blanks (length new - k)
  | inr more ↦
      let is : m ≡ end_of old new = omega (arith, e) in
      ap (λ j. later_columns (map Some (drop j new))) is ∙ (at-whole old new (end_of old new) (end-is old new same)).1
]

-- behind the text the row is blank, or as it was
rest-blank : (new : List Cell) (m n : ℕ) → used new ≤ m → length new - m ≡ n → map Some (drop m new) ≡ replicate n (Some blank)
rest-blank new m n past e = ap (map Some) (blank-from new m past) ∙ map-replicate Some (length new - m) blank ∙ ap (λ k. replicate k (Some blank)) e

rest-same : (old new : List Cell) (m : ℕ) → length old ≡ length new → m ≡ end_of old new → map Some (drop m new) ≡ map Some (drop (end_of old new) old)
rest-same old new m same is = ap (map Some) (ap (λ n. drop n new) is ∙ end-same old new same)

pub row_fed : (region : Option (ℕ × ℕ)) → (above below : Rows) (old new : List Cell) (cursor : Option (ℕ × ℕ)) (wait : Bool) (latest : Option (ℕ × ℕ)) (w : ℕ)
    → length above < 65535 → length old ≡ w → length new ≡ w → w ≤ 400 → IsRowAfter 0 new → AllByRecursion IsColoured new → differs old new ≡ true
    → Stands region (above ++ map Some new ∷ below) (feed_bytes (standing region (above ++ map Some old ∷ below) cursor wait (Some plain) latest) (row_bytes (length above) old new))
row_fed region above below old new cursor wait latest w few old_wide new_wide narrow row colours d =
    let first = first_difference old new in
    let last = end_of_differences old new in
    let a = begin_of old new in
    let b = end_of old new in
    let k = max (begin_of old new) (used new) in
    let m = min (end_of old new) k in
    let some : 0 < end_of_differences old new = grind (arith, nat_tests) in
    let before : first_difference old new < end_of_differences old new = first_before old new some in
    let begins : begin_of old new ≤ first_difference old new = begin-le old new (first_difference old new) in
    let inside : end_of_differences old new ≤ length new = end_within same_cell old new in
    let behind_last = on-le (goes_on old new) last (length new - last) in
    let most : end_of old new ≤ length new = omega (arith, behind_last, inside) in
    let order : begin_of old new < end_of old new = omega arith in
    let same : length old ≡ length new = old_wide ∙ sym new_wide in
    let past : used new ≤ k = omega arith in
    let cells = take (m - a) (drop a new) in
    let front : Row = map Some (take a old) in
    let mid : Row = map Some (take (b - a) (drop a old)) in
    let back : Row = map Some (drop b old) in
    let here : begin_of old new < length old = omega arith in
    let front_length : length front ≡ begin_of old new = length-map (take a old) Some ∙ length-take-le a old (omega arith) in
    let cells_length : length cells ≡ m - begin_of old new = part-length a m new (omega arith) (omega arith) in
    let mid_length : length mid ≡ end_of old new - begin_of old new = length-map (take (b - a) (drop a old)) Some ∙ part-length a b old (omega arith) (omega arith) in
    let back_length : length back ≡ length new - end_of old new = length-map (drop b old) Some ∙ length-drop b old ∙ ap (λ n. n - b) same in
    let row_old : map Some old ≡ front ++ (mid ++ back) =
    sym (ap (map Some) (three-parts a b old (omega arith))) ∙ map-append Some (take a old) (take (b - a) (drop a old) ++ drop b old) ∙ ap (λ xs. front ++ xs) (map-append Some (take (b - a) (drop a old)) (drop b old)) in
    let row_new : front ++ (map Some cells ++ map Some (drop m new)) ≡ map Some new =
    ap (λ xs. map Some xs ++ (map Some cells ++ map Some (drop m new))) (sym (begin-same old new))
    ∙ sym (map-append Some (take a new) (cells ++ drop m new) ∙ ap (λ xs. map Some (take a new) ++ xs) (map-append Some cells (drop m new)))
    ∙ ap (map Some) (three-parts a m new (omega arith)) in
    let starts : first_column (front ++ (mid ++ back)) (length front) ≡ length front =
    subst (λ j. first_column (front ++ (mid ++ back)) j ≡ j) (sym front_length) (subst (λ r. first_column r a ≡ a) row_old (begin-first old new a here (back-stops (goes_on old new) first))) in
    let ends = at-whole old new b (end-is old new same) in
    let from_begin : IsRowAfter 0 (drop a new) = begin-whole old new a (omega arith) row (back-stops (goes_on old new) first) in
    let sum : begin_of old new + (m - begin_of old new) ≡ m = omega arith in
    let stops : later_columns (map Some (drop (m - a) (drop a new))) ≡ 0 = ap (λ xs. later_columns (map Some xs)) (drop-drop (m - a) a new ∙ ap (λ j. drop j new) sum) ∙ text-ends old new k m same refl past in
    let whole : IsRowAfter 0 cells = (whole-cut (m - a) 0 (drop a new) from_begin stops (omega (arith, length-drop a new))).0 in
    let fits : length cells ≤ length mid = omega (arith, cells_length, mid_length) in
    let enough : length cells ≤ length cells = omega arith in
    let fed = text_fed region (length cells) above below front mid back cells plain None enough fits whole (each-take IsColoured (m - a) (drop a new) (each-drop IsColoured a new colours)) starts ends.0 in
    let gone : nat_lt k (end_of old new) ≡ true → (length cells < length mid) × (map Some (drop m new) ≡ replicate (length mid - length cells + length back) (Some blank)) = λ t.
    let less : k < end_of old new = grind (arith, nat_tests) in
    let n : length new - m ≡ length mid - length cells + length back = omega (arith, cells_length, mid_length, back_length) in
    (omega (arith, cells_length, mid_length), rest-blank new m (length mid - length cells + length back) (omega arith) n) in
    let kept : nat_lt k (end_of old new) ≡ false → (length cells ≡ length mid) × (map Some (drop m new) ≡ back) = λ f.
    let more : end_of old new ≤ k = grind (arith, nat_tests) in
    let is : m ≡ end_of old new = omega arith in
    (omega (arith, cells_length, mid_length), rest-same old new m same is) in
    let text = text_by plain cells in
    let ending = dress (pen_behind plain cells) plain ++ (if nat_lt k (end_of old new) then erase_to_end else []) in
    let ended = row-end region above below front back (length mid) cells (drop m new) (nat_lt k (end_of old new)) _ fed gone kept in
    let there : length above < length (above ++ map Some old ∷ below) = omega (arith, length-append above (map Some old ∷ below)) in
    let at : get_or (above ++ map Some old ∷ below) (length above) [] ≡ map Some old = get_or_at above (map Some old) below [] (length above) refl in
    let column : begin_of old new < length (get_or (above ++ map Some old ∷ below) (length above) []) = rw at (omega (arith, length-map old Some)) in
    let start = standing region (above ++ map Some old ∷ below) cursor wait (Some plain) latest in
    let moved = move_fed region (above ++ map Some old ∷ below) cursor wait (Some plain) latest (length above) a there column few (omega arith)
    ∙ ap (λ r. standing region (above ++ r ∷ below) (Some (length above, a)) false (Some plain) None) row_old
    ∙ ap (λ c. standing region (above ++ (front ++ (mid ++ back)) ∷ below) (Some (length above, c)) false (Some plain) None) (sym front_length) in
    stands-along region _ _ _ _ (ap (λ r. above ++ r ∷ below) row_new) (sym (
    fold-append feed_byte start (move (length above) a) (text ++ ending)
    ∙ ap (λ t. feed_bytes t (text ++ ending)) moved
    ∙ fold-append feed_byte (standing region (above ++ (front ++ (mid ++ back)) ∷ below) (Some (length above, length front)) false (Some plain) None) text ending)) ended

-- rows by a choice on whether the first differs and whether the limit allows it
chosen : (region : Option (ℕ × ℕ)) → (differ allow : Bool) (same_bytes bytes : List ℕ) (above : Rows) (same_rows rows rest : List (List Cell)) (t : Tty)
    → (differ ≡ false → Stands region (above ++ known same_rows) (feed_bytes t same_bytes))
    → (differ ≡ true → Stands region (above ++ known rows) (feed_bytes t bytes))
    → Stands region (above ++ known rest) t
    → Stands region (above ++ known (if not differ then same_rows else if allow then rows else rest))
    (feed_bytes t (if not differ then same_bytes else if allow then bytes else []))
chosen region false allow same_bytes bytes above same_rows rows rest t a b c = a refl
chosen region true true same_bytes bytes above same_rows rows rest t a b c = b refl
chosen region true false same_bytes bytes above same_rows rows rest t a b c = c

-- the rows that differ, while the limit allows
pub rows_fed : (region : Option (ℕ × ℕ)) → (above : Rows) (limit : Option ℕ) (olds news : List (List Cell)) (w : ℕ) (cursor : Option (ℕ × ℕ)) (wait : Bool) (latest : Option (ℕ × ℕ))
    → length above + length olds ≤ 200 → w ≤ 400 → length olds ≡ length news
    → AllByRecursion (λ row. length row ≡ w) olds → AllByRecursion (λ row. length row ≡ w) news → AllByRecursion (λ row. IsRowAfter 0 row) news → AllByRecursion (λ row. AllByRecursion IsColoured row) news
    → Stands region (above ++ known (rows_after limit olds news)) (feed_bytes (standing region (above ++ known olds) cursor wait (Some plain) latest) (rows_bytes (length above) limit olds news))
rows_fed region above limit [] [] w cursor wait latest few narrow same ow nw wholes colours = record { cursor = cursor; wait = wait; latest = latest; is = refl }
rows_fed region above limit [] (n ∷ ns) w cursor wait latest few narrow same ow nw wholes colours = absurd (cc)
rows_fed region above limit (o ∷ os) [] w cursor wait latest few narrow same ow nw wholes colours = absurd (cc)
rows_fed region above limit (o ∷ os) (n ∷ ns) w cursor wait latest few narrow same ow nw wholes colours =
    let t = standing region (above ++ known (o ∷ os)) cursor wait (Some plain) latest in
    let less : length os ≡ length ns = omega arith in
    let length_next : length (above ++ map Some n ∷ []) ≡ length above + 1 = length-append above (map Some n ∷ []) in
    let few_next : length (above ++ map Some n ∷ []) + length os ≤ 200 = omega arith in
    let next = λ (limit : Option ℕ) (cursor : Option (ℕ × ℕ)) (wait : Bool) (latest : Option (ℕ × ℕ)).
    stands-along region _ _ _ _
    (append_assoc above (map Some n ∷ []) (known (rows_after limit os ns)))
    (ap (λ rows. feed_bytes (standing region rows cursor wait (Some plain) latest) (rows_bytes (length (above ++ map Some n ∷ [])) limit os ns)) (append_assoc above (map Some n ∷ []) (known os))
    ∙ ap (λ r. feed_bytes (standing region (above ++ map Some n ∷ known os) cursor wait (Some plain) latest) (rows_bytes r limit os ns)) length_next)
    (rows_fed region (above ++ map Some n ∷ []) limit os ns w cursor wait latest few_next narrow less ow.1 nw.1 wholes.1 colours.1) in
    chosen region (differs o n) (allows limit) (rows_bytes (length above + 1) limit os ns) (row_bytes (length above) o n ++ rows_bytes (length above + 1) (less_one limit) os ns)
    above (n ∷ rows_after limit os ns) (n ∷ rows_after (less_one limit) os ns) (o ∷ os) t
    (λ d.
    let is = no-difference o n (ow.0 ∙ sym nw.0) d in
    stands-along region _ _ _ _ refl (ap (λ r. feed_bytes (standing region (above ++ map Some r ∷ known os) cursor wait (Some plain) latest) (rows_bytes (length above + 1) limit os ns)) is) (next limit cursor wait latest))
    (λ d.
    let row = row_fed region above (known os) o n cursor wait latest w (omega arith) ow.0 nw.0 narrow wholes.0 colours.0 d in
    stands-along region _ _ _ _ refl (sym (
    fold-append feed_byte t (row_bytes (length above) o n) (rows_bytes (length above + 1) (less_one limit) os ns)
    ∙ ap (λ t. feed_bytes t (rows_bytes (length above + 1) (less_one limit) os ns)) row.is)) (next (less_one limit) row.cursor row.wait row.latest))
    (record { cursor = cursor; wait = wait; latest = latest; is = refl })

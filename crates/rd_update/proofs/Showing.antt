-- What the bytes of a character do to a row: its cells stand in place of others, and what they cut is unknown.
use Rattle.std.proofs.Common.{◌≡◌, if◌then◌else◌, ℕ, zero, suc, ◌+◌, ◌-◌, ◌<◌, ◌≤◌, ◌==◌, ◌&&◌, Bool, true, false, nat_lt, nat_le, min, [], ◌∷◌, ◌++◌, length, get_or, set, take, drop, map, replicate, Option, None, Some, refl, sym, ap, ◌∙◌, arith, append_assoc, append-nil}
use Rattle.std.specs.List.{flat_map}
use Rattle.std.proofs.Math.Bool.{and-false}
use Rattle.std.proofs.lemmas.Bool.{and_parts}
use Rattle.std.proofs.lemmas.Bool.Decides.{nat_tests}
use Rattle.std.proofs.lemmas.List.{get_or_at, set_at, take_at, drop_at, drop-drop, drop-append-le, length-append, length-replicate, length-drop, drop_more}
use Rattle.std.proofs.lemmas.List.Folds.{prefix_len-append}
use Rattle.std.proofs.lemmas.List.Sums.{prefix_len-le-length}
use Rattle.rd_base.proofs.Rows.{all-marks, more-marks, upto}
use Rattle.rd_base.specs.Cells.{single}
use Rattle.rd_base.proofs.Equals.{glyphs-same}
use Rattle.rd_base.specs.Chars.{encoded}
use Rattle.rd_base.specs.Faces.{Attributes}
use Rattle.rd_base.specs.Glyphs.{is_space, blanks, glyph_bytes, glyph_cells, IsMeasured, IsGood}
use Rattle.rd_base.specs.declared.cell.Glyph.{Glyph}
use Rattle.rd_base.specs.declared.cell.Cell.{Cell}
use Rattle.rd_base.specs.declared.cell.Cell.TheVariants.{Blank, First, Rest}
use Rattle.rd_term.specs.Overwriting.{first_column, is_later, later_columns, overwritten}
use Rattle.rd_term.specs.Terminals.{Tty, feed_bytes, show, put, join_mark, join_mark_into, marked, feed_byte}
use Rattle.rd_term.proofs.Cutting.{Row, front as front_of, behind, overwritten-is, length-glyph, map-replicate}
use Rattle.rd_term.proofs.Encoded.{Rows, standing}
use Rattle.std.proofs.lemmas.List.Sums.{fold-append}
use Rattle.rd_term.proofs.Measured.{shown_fed, base-columns, mark-columns, space-narrow, space-columns}

-- ---- cells that are left where a character was put before them

-- later columns at the front become unknown
abbrev pub loose : Row → Row
loose row = replicate (later_columns row) None ++ drop (later_columns row) row

pub length-loose : (row : Row) → length (loose row) ≡ length row
length-loose row =
    length-append (replicate (later_columns row) None) (drop (later_columns row) row)
    ∙ omega (arith, length-replicate {A = Option Cell} (later_columns row) None, length-drop (later_columns row) row, prefix_len-le-length is_later row)

later-append : (row back : Row) → later_columns back ≡ 0 → later_columns (row ++ back) ≡ later_columns row
later-append row back e = prefix_len-append is_later row back ∙ grind (arith, nat_tests, e)

loose-chosen : (n : ℕ) (row back : Row) → later_columns row ≡ n → later_columns back ≡ 0 → later_columns ((replicate n None ++ drop n row) ++ back) ≡ 0
loose-chosen zero row back e h = later-append row back h ∙ e
loose-chosen (suc n) row back e h = refl

-- what is left begins with no later column
pub loose-whole : (row back : Row) → later_columns back ≡ 0 → later_columns (loose row ++ back) ≡ 0
loose-whole row back h = loose-chosen (later_columns row) row back refl h

-- ---- cells in place of others

front-seam : (front rest : Row) → first_column (front ++ rest) (length front) ≡ length front → front_of (front ++ rest) (length front) ≡ front
front-seam front rest e =
    let none : length front - length front ≡ 0 = omega arith in
    rw (e, none) (append-nil (take (length front) (front ++ rest)) ∙ take_at front rest (length front) refl)

behind-seam : (front o1 o2 back : Row) (to : ℕ) → length front + length o1 ≡ to → later_columns back ≡ 0 → behind (front ++ (o1 ++ (o2 ++ back))) to ≡ loose o2 ++ back
behind-seam front o1 o2 back to e h =
    let row = front ++ (o1 ++ (o2 ++ back)) in
    let rest : drop to row ≡ o2 ++ back = ap (drop to) (sym (append_assoc front o1 (o2 ++ back))) ∙ drop_at (front ++ o1) (o2 ++ back) to (length-append front o1 ∙ e) in
    let n : later_columns (drop to row) ≡ later_columns o2 = ap later_columns rest ∙ later-append o2 back h in
    ap (λ k. replicate k None ++ drop (to + k) row) n
    ∙ ap (λ xs. replicate (later_columns o2) None ++ xs) (
    sym (drop-drop (later_columns o2) to row) ∙ ap (drop (later_columns o2)) rest ∙ drop-append-le (later_columns o2) o2 back (prefix_len-le-length is_later o2))
    ∙ sym (append_assoc (replicate (later_columns o2) None) (drop (later_columns o2) o2) back)

pub over-seam : (front o1 o2 back cells : Row) → first_column (front ++ (o1 ++ (o2 ++ back))) (length front) ≡ length front → length cells ≡ length o1 → later_columns back ≡ 0
    → overwritten (length front) cells (front ++ (o1 ++ (o2 ++ back))) ≡ front ++ (cells ++ (loose o2 ++ back))
over-seam front o1 o2 back cells first same h =
    let row = front ++ (o1 ++ (o2 ++ back)) in
    let to = length front + length o1 in
    overwritten-is row (length front) to cells (ap (λ k. length front + k) same)
    ∙ ap (λ xs. xs ++ (cells ++ behind row to)) (front-seam front (o1 ++ (o2 ++ back)) first)
    ∙ ap (λ xs. front ++ (cells ++ xs)) (behind-seam front o1 o2 back to refl h)

-- ---- a character that is put

-- where the cursor is behind a character that was put
abbrev pub behind_it : ℕ → ℕ → ℕ → ℕ → Option (ℕ × ℕ)
behind_it row column w long = Some (row, min (column + w) (long - 1))

pub put_seam : (region : Option (ℕ × ℕ)) → (above below : Rows) (front o1 o2 back : Row) (base w : ℕ) (f : Attributes) (latest : Option (ℕ × ℕ))
    → first_column (front ++ (o1 ++ (o2 ++ back))) (length front) ≡ length front → length o1 ≡ w → 1 ≤ w → later_columns back ≡ 0
    → put base w (Some f) (Some (length above, length front)) (standing region (above ++ (front ++ (o1 ++ (o2 ++ back))) ∷ below) (Some (length above, length front)) false (Some f) latest)
    ≡ standing region (above ++ (front ++ (map Some (glyph_cells w (single base w) f) ++ (loose o2 ++ back))) ∷ below)
    (behind_it (length above) (length front) w (length (front ++ (o1 ++ (o2 ++ back))))) (nat_le (length (front ++ (o1 ++ (o2 ++ back)))) (length front + w)) (Some f) (Some (length above, length front))
put_seam region above below front o1 o2 back base w f latest first same some h =
    let row = front ++ (o1 ++ (o2 ++ back)) in
    let cells = map Some (glyph_cells w (single base w) f) in
    let at : get_or (above ++ row ∷ below) (length above) [] ≡ row = get_or_at above row below [] (length above) refl in
    let long : length row ≡ length front + (length o1 + length (o2 ++ back)) = length-append front (o1 ++ (o2 ++ back)) ∙ ap (λ k. length front + k) (length-append o1 (o2 ++ back)) in
    let room : nat_lt (length row) (length front + w) ≡ false = grind (arith, nat_tests) in
    let over = over-seam front o1 o2 back cells first (length-glyph w (single base w) f some ∙ sym same) h in
    let rows = set_at above row below (front ++ (cells ++ (loose o2 ++ back))) (length above) refl in
    rw (at, room, over, rows) refl

-- ---- marks that join a glyph

-- the cell of a glyph with the first of its marks
abbrev pub grown : Glyph → ℕ → Attributes → Cell
grown g k f = if is_space (upto g k) then Blank f else First (upto g k) f

-- a mark joins the glyph as far as it has grown
grow-chosen : (g : Glyph) (k code : ℕ) (f : Attributes) (b : Bool) → is_space (upto g k) ≡ b → length g.marks ≡ 6 → k < 6 → get_or g.marks k 0 ≡ code
    → ((g.base ≡ 32) → g.width ≡ 1) → marked code (Some (if b then Blank f else First (upto g k) f)) ≡ Some (First (upto g (suc k)) f)
grow-chosen g k code f false e six lt at narrow =
    let less : nat_lt k 6 ≡ true = grind (arith, nat_tests) in
    let next : k + 1 ≡ suc k = omega arith in
    rw less (ap (λ (x : Glyph). Some (First x f)) (glyphs-same g.base (k + 1) g.width g.base (suc k) g.width (set (take k g.marks ++ replicate (6 - k) 0) k code) (take (suc k) g.marks ++ replicate (6 - suc k) 0)
    refl (more-marks g.marks k code six lt at) next refl))
grow-chosen g k code f true e six lt at narrow =
    let parts = and_parts (g.base == 32) (k == 0) e in
    let base : g.base ≡ 32 = grind (arith, nat_tests) in
    let none : k ≡ 0 = grind (arith, nat_tests) in
    let here : get_or g.marks 0 0 ≡ code = ap (λ j. get_or g.marks j 0) (sym none) ∙ at in
    let one : 1 ≡ suc k = ap suc (sym none) in
    ap (λ (x : Glyph). Some (First x f)) (glyphs-same 32 1 1 g.base (suc k) g.width (set (replicate 6 0) 0 code) (take (suc k) g.marks ++ replicate (6 - suc k) 0)
    (sym base) (more-marks g.marks 0 code six (omega arith) here ∙ ap (λ j. take j g.marks ++ replicate (6 - j) 0) one) one (sym (narrow base)))

grow : (g : Glyph) (k code : ℕ) (f : Attributes) → length g.marks ≡ 6 → k < 6 → get_or g.marks k 0 ≡ code → (g.base ≡ 32 → g.width ≡ 1)
    → marked code (Some (grown g k f)) ≡ Some (grown g (suc k) f)
grow g k code f six lt at narrow =
    let some : (suc k == 0) ≡ false = grind (arith, nat_tests) in
    let seen : is_space (upto g (suc k)) ≡ false = ap (λ b. g.base == 32 && b) some ∙ and-false (g.base == 32) in
    grow-chosen g k code f (is_space (upto g k)) refl six lt at narrow
    ∙ ap (λ (b : Bool). Some (if b then Blank f else First (upto g (suc k)) f)) (sym seen)

-- a row with a glyph as far as it has grown
abbrev pub with_glyph : Rows → Rows → Row → Row → Cell → Rows
with_glyph above below front tail cell = above ++ (front ++ Some cell ∷ tail) ∷ below

mark_joins : (region : Option (ℕ × ℕ)) → (above below : Rows) (front tail : Row) (g : Glyph) (f : Attributes) (cursor : Option (ℕ × ℕ)) (wait : Bool) (k code : ℕ)
    → length g.marks ≡ 6 → k < 6 → get_or g.marks k 0 ≡ code → (g.base ≡ 32 → g.width ≡ 1)
    → join_mark code (Some (length above, length front)) (standing region (with_glyph above below front tail (grown g k f)) cursor wait (Some f) (Some (length above, length front)))
    ≡ standing region (with_glyph above below front tail (grown g (suc k) f)) cursor wait (Some f) (Some (length above, length front))
mark_joins region above below front tail g f cursor wait k code six lt at narrow =
    let row = front ++ Some (grown g k f) ∷ tail in
    let next = front ++ Some (grown g (suc k) f) ∷ tail in
    let here : get_or (above ++ row ∷ below) (length above) [] ≡ row = get_or_at above row below [] (length above) refl in
    let cell : get_or row (length front) None ≡ Some (grown g k f) = get_or_at front (Some (grown g k f)) tail None (length front) refl in
    let more = grow g k code f six lt at narrow in
    let put = set_at front (Some (grown g k f)) tail (Some (grown g (suc k) f)) (length front) refl in
    let rows = set_at above row below next (length above) refl in
    let all = above ++ row ∷ below in
    let State = λ (rs : Rows). standing region rs cursor wait (Some f) (Some (length above, length front)) in
    let mark = ap (λ (r : Row). marked code (get_or r (length front) None)) here ∙ ap (marked code) cell ∙ more in
    ap (λ (c : Option Cell). join_mark_into c (length above) (length front) (State all)) mark
    ∙ ap (λ (r : Row). State (set all (length above) (set r (length front) (Some (grown g (suc k) f))))) here
    ∙ ap (λ (r : Row). State (set all (length above) r)) put
    ∙ ap State rows

-- so many marks join, from one on
marks_join : (region : Option (ℕ × ℕ)) → (above below : Rows) (front tail : Row) (g : Glyph) (f : Attributes) (cursor : Option (ℕ × ℕ)) (wait : Bool) (n k : ℕ) → IsMeasured g → k + n ≤ g.count
    → feed_bytes (standing region (with_glyph above below front tail (grown g k f)) cursor wait (Some f) (Some (length above, length front))) (flat_map encoded (take n (drop k g.marks)))
    ≡ standing region (with_glyph above below front tail (grown g (k + n) f)) cursor wait (Some f) (Some (length above, length front))
marks_join region above below front tail g f cursor wait zero k h le =
    let e : k ≡ k + 0 = omega arith in
    ap (λ j. standing region (with_glyph above below front tail (grown g j f)) cursor wait (Some f) (Some (length above, length front))) e
marks_join region above below front tail g f cursor wait (suc n) k h le =
    let State = λ (j : ℕ). standing region (with_glyph above below front tail (grown g j f)) cursor wait (Some f) (Some (length above, length front)) in
    let code = get_or g.marks k 0 in
    let lt : k < g.count = omega arith in
    let within : k < 6 = omega (arith, lt, h.count) in
    let here : k < length g.marks = omega (arith, within, h.places) in
    let mark = h.marks k lt in
    let bytes = ap (λ ms. flat_map encoded (take (suc n) ms)) (drop_more g.marks k 0 here) in
    let after : suc k + n ≡ k + suc n = omega arith in
    let next : k + 1 ≡ suc k = omega arith in
    ap (feed_bytes (State k)) bytes
    ∙ fold-append feed_byte (State k) (encoded code) (flat_map encoded (take n (drop (k + 1) g.marks)))
    ∙ ap (λ t. feed_bytes t (flat_map encoded (take n (drop (k + 1) g.marks)))) (
    shown_fed region (with_glyph above below front tail (grown g k f)) cursor wait (Some f) (Some (length above, length front)) code 0 mark.0 (mark-columns g k h lt)
    ∙ mark_joins region above below front tail g f cursor wait k code h.places within refl (space-narrow g h))
    ∙ ap (λ j. feed_bytes (State (suc k)) (flat_map encoded (take n (drop j g.marks)))) next
    ∙ marks_join region above below front tail g f cursor wait n (suc k) h (omega (arith, le))
    ∙ ap State after

whole-glyph : (g : Glyph) (f : Attributes) → IsGood g → grown g g.count f ≡ First g f
whole-glyph g f h =
    ap (λ (b : Bool). if b then Blank f else First (upto g g.count) f) h.seen
    ∙ ap (λ (x : Glyph). First x f) (all-marks g h.measured)

-- the cells of a character without its marks
bare-chosen : (g : Glyph) (f : Attributes) (b : Bool) → (g.base == 32) ≡ b → IsMeasured g
    → map Some (if b && true then blanks g.width f else First (single g.base g.width) f ∷ replicate (g.width - 1) Rest)
    ≡ Some (if b && true then Blank f else First (upto g 0) f) ∷ replicate (g.width - 1) (Some Rest)
bare-chosen g f false e h = ap (λ xs. Some (First (single g.base g.width) f) ∷ xs) (map-replicate Some (g.width - 1) Rest)
bare-chosen g f true e h =
    let base : g.base ≡ 32 = grind (arith, nat_tests) in
    let one = space-narrow g h base in
    rw one refl

bare : (g : Glyph) (f : Attributes) → IsMeasured g → map Some (glyph_cells g.width (single g.base g.width) f) ≡ Some (grown g 0 f) ∷ replicate (g.width - 1) (Some Rest)
bare g f h = bare-chosen g f (g.base == 32) refl h

-- showing a character of some columns puts it
shown-put : (code w : ℕ) (t : Tty) → 1 ≤ w → show code (Some w) t ≡ put code w t.pen t.cursor t
shown-put code zero t p = absurd (omega arith)
shown-put code (suc w) t p = refl

-- ---- a whole glyph

pub glyph_fed : (region : Option (ℕ × ℕ)) → (above below : Rows) (front o1 o2 back : Row) (g : Glyph) (f : Attributes) (latest : Option (ℕ × ℕ))
    → first_column (front ++ (o1 ++ (o2 ++ back))) (length front) ≡ length front → length o1 ≡ g.width → later_columns back ≡ 0 → IsGood g
    → feed_bytes (standing region (above ++ (front ++ (o1 ++ (o2 ++ back))) ∷ below) (Some (length above, length front)) false (Some f) latest) (glyph_bytes g)
    ≡ standing region (above ++ (front ++ (map Some (First g f ∷ replicate (g.width - 1) Rest) ++ (loose o2 ++ back))) ∷ below)
    (behind_it (length above) (length front) g.width (length (front ++ (o1 ++ (o2 ++ back))))) (nat_le (length (front ++ (o1 ++ (o2 ++ back)))) (length front + g.width)) (Some f) (Some (length above, length front))
glyph_fed region above below front o1 o2 back g f latest first same h good =
    let m = good.measured in
    let row = front ++ (o1 ++ (o2 ++ back)) in
    let before = standing region (above ++ row ∷ below) (Some (length above, length front)) false (Some f) latest in
    let cursor = behind_it (length above) (length front) g.width (length row) in
    let wait = nat_le (length row) (length front + g.width) in
    let tail : Row = replicate (g.width - 1) (Some Rest) ++ (loose o2 ++ back) in
    let State = λ (cell : Cell). standing region (with_glyph above below front tail cell) cursor wait (Some f) (Some (length above, length front)) in
    let marks = flat_map encoded (take g.count g.marks) in
    let begun = shown_fed region (above ++ row ∷ below) (Some (length above, length front)) false (Some f) latest g.base g.width m.scalar (base-columns g m)
    ∙ shown-put g.base g.width before m.some
    ∙ put_seam region above below front o1 o2 back g.base g.width f latest first same m.some h
    ∙ ap (λ (cells : Row). standing region (above ++ (front ++ (cells ++ (loose o2 ++ back))) ∷ below) cursor wait (Some f) (Some (length above, length front))) (bare g f m) in
    let end : 0 + g.count ≡ g.count = omega arith in
    let cells : map Some (First g f ∷ replicate (g.width - 1) Rest) ≡ Some (First g f) ∷ replicate (g.width - 1) (Some Rest) = ap (λ xs. Some (First g f) ∷ xs) (map-replicate Some (g.width - 1) Rest) in
    fold-append feed_byte before (encoded g.base) marks
    ∙ ap (λ t. feed_bytes t marks) begun
    ∙ marks_join region above below front tail g f cursor wait g.count 0 m (omega arith)
    ∙ ap (λ k. State (grown g k f)) end
    ∙ ap State (whole-glyph g f good)
    ∙ ap (λ (cs : Row). standing region (above ++ (front ++ (cs ++ (loose o2 ++ back))) ∷ below) cursor wait (Some f) (Some (length above, length front))) (sym cells)

-- a space puts a blank cell in the face of the pen
pub blank_fed : (region : Option (ℕ × ℕ)) → (above below : Rows) (front back : Row) (o : Option Cell) (o2 : Row) (f : Attributes) (latest : Option (ℕ × ℕ))
    → first_column (front ++ (o ∷ (o2 ++ back))) (length front) ≡ length front → later_columns back ≡ 0
    → feed_bytes (standing region (above ++ (front ++ (o ∷ (o2 ++ back))) ∷ below) (Some (length above, length front)) false (Some f) latest) (32 ∷ [])
    ≡ standing region (above ++ (front ++ (Some (Blank f) ∷ (loose o2 ++ back))) ∷ below)
    (behind_it (length above) (length front) 1 (length (front ++ (o ∷ (o2 ++ back))))) (nat_le (length (front ++ (o ∷ (o2 ++ back)))) (length front + 1)) (Some f) (Some (length above, length front))
blank_fed region above below front back o o2 f latest first h =
    let before = standing region (above ++ (front ++ (o ∷ (o2 ++ back))) ∷ below) (Some (length above, length front)) false (Some f) latest in
    ap (λ c. show 32 c before) space-columns
    ∙ put_seam region above below front (o ∷ []) o2 back 32 1 f latest first refl (omega arith) h

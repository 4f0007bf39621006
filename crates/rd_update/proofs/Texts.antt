-- What the text of whole characters does to a row.
use Rattle.std.proofs.Common.{◌≡◌, ℕ, zero, suc, ◌+◌, ◌-◌, ◌<◌, ◌≤◌, Bool, false, nat_le, min, List, [], ◌∷◌, ◌++◌, length, get_or, take, drop, map, replicate, Option, None, Some, refl, sym, ap, ◌∙◌, subst, subst₂, arith, append_assoc, append-nil}
use Rattle.std.specs.List.{AllByRecursion}
use Rattle.std.proofs.lemmas.Bool.Decides.{nat_tests}
use Rattle.std.proofs.lemmas.List.{length-append, length-map, length-take-le, length-drop, length-replicate, map-append, take-append-drop}
use Rattle.rd_base.specs.Faces.{Attributes}
use Rattle.rd_base.specs.Glyphs.{IsRowAfter, glyph_bytes}
use Rattle.rd_base.specs.declared.cell.Cell.{Cell}
use Rattle.rd_base.specs.declared.cell.Cell.TheVariants.{Blank, First, Rest}
use Rattle.rd_term.specs.Overwriting.{is_later, first_column, later_columns}
use Rattle.rd_base.specs.Cells.{IsColoured}
use Rattle.rd_term.specs.Terminals.{Tty, feed_bytes, feed_byte}
use Rattle.rd_term.proofs.Cutting.{Row}
use Rattle.rd_term.proofs.Encoded.{Rows, standing}
use Rattle.std.proofs.lemmas.List.Sums.{fold-append}
use Rattle.rd_update.specs.Updates.{dress, text_by, pen_behind}
use Rattle.rd_update.proofs.Dressing.{dress_fed}
use Rattle.rd_update.proofs.Showing.{loose, length-loose, loose-whole, behind_it, glyph_fed, blank_fed}

-- ---- where a row goes on with a new character

get-seam : (front rest : Row) → get_or (front ++ rest) (length front) None ≡ get_or rest 0 None
get-seam [] rest = refl
get-seam (x ∷ front) rest = get-seam front rest

not-later : (rest : Row) → later_columns rest ≡ 0 → is_later (get_or rest 0 None) ≡ false
not-later [] h = refl
not-later (None ∷ rest) h = refl
not-later (Some (Blank f) ∷ rest) h = refl
not-later (Some (First g f) ∷ rest) h = refl
not-later (Some Rest ∷ rest) h = absurd (omega arith)

pub first-whole : (front rest : Row) → later_columns rest ≡ 0 → first_column (front ++ rest) (length front) ≡ length front
first-whole [] rest h = refl
first-whole (x ∷ front) rest h =
    let not : is_later (get_or ((x ∷ front) ++ rest) (length (x ∷ front)) None) ≡ false = ap is_later (get-seam (x ∷ front) rest) ∙ not-later rest h in
    rw not refl

-- ---- what a text leaves

-- what a text leaves: its cells in place, what is left of the cells that were before them, and the cursor behind it where the row goes on
pub record TextFed (region : Option (ℕ × ℕ)) (above below : Rows) (front : Row) (many : ℕ) (back : Row) (new : List Cell) (pen : Attributes) (t : Tty) : Type 0 where
  pub cursor : Option (ℕ × ℕ)
  pub wait : Bool
  pub latest : Option (ℕ × ℕ)
  pub left : Row
  pub long : length left + length new ≡ many
  pub is : t ≡ standing region (above ++ (front ++ (map Some new ++ (left ++ back))) ∷ below) cursor wait (Some pen) latest
  pub whole : first_column (front ++ (map Some new ++ (left ++ back))) (length front + length new) ≡ length front + length new
  pub goes_on : 0 < length (left ++ back) → (cursor ≡ Some (length above, length front + length new)) × (wait ≡ false)

fed-along : (region : Option (ℕ × ℕ)) → (above below : Rows) (front : Row) (many other : ℕ) (back : Row) (new : List Cell) (pen : Attributes) (t u : Tty) → many ≡ other → u ≡ t
    → TextFed region above below front many back new pen t → TextFed region above below front other back new pen u
fed-along region above below front many other back new pen t u e s h =
    subst₂ (λ (k : ℕ) (x : Tty). TextFed region above below front k back new pen x) e (sym s) h

-- behind a character the row is whole again
whole-behind : (front : Row) (chars : List Cell) (o2 back : Row) → later_columns back ≡ 0
    → first_column ((front ++ map Some chars) ++ (loose o2 ++ back)) (length (front ++ map Some chars)) ≡ length (front ++ map Some chars)
whole-behind front chars o2 back h = first-whole (front ++ map Some chars) (loose o2 ++ back) (loose-whole o2 back h)

length-behind : (front : Row) (chars : List Cell) → length (front ++ map Some chars) ≡ length front + length chars
length-behind front chars = length-append front (map Some chars) ∙ ap (λ k. length front + k) (length-map chars Some)

not-full : (a b c n : ℕ) → n ≡ a + (b + c) → 0 < c → (min (a + b) (n - 1) ≡ a + b) × (nat_le n (a + b) ≡ false)
not-full a b c n e p = (omega arith, grind (arith, nat_tests))

-- a character, and the text behind it
carry : (region : Option (ℕ × ℕ)) → (above below : Rows) (front : Row) (chars rest : List Cell) (o2 back : Row) (f pen : Attributes) (latest : Option (ℕ × ℕ)) (long : ℕ)
    → long ≡ length front + (length chars + length (loose o2 ++ back)) → later_columns back ≡ 0 → length rest ≤ length o2 → pen_behind f rest ≡ pen
    → ((front : Row) (latest : Option (ℕ × ℕ)) → first_column (front ++ (loose o2 ++ back)) (length front) ≡ length front
    → TextFed region above below front (length (loose o2)) back rest pen (feed_bytes (standing region (above ++ (front ++ (loose o2 ++ back)) ∷ below) (Some (length above, length front)) false (Some f) latest) (text_by f rest)))
    → TextFed region above below front (length chars + length o2) back (chars ++ rest) pen
    (feed_bytes (standing region (above ++ (front ++ (map Some chars ++ (loose o2 ++ back))) ∷ below) (behind_it (length above) (length front) (length chars) long) (nat_le long (length front + length chars)) (Some f) latest) (text_by f rest))
carry region above below front chars [] o2 back f pen latest long n h few e next =
    let X = loose o2 ++ back in
    let K = length front + length chars in
    let at = length-behind front chars in
    let whole : first_column (front ++ (map Some chars ++ (loose o2 ++ back))) (length front + length chars) ≡ length front + length chars =
    subst (λ k. first_column (front ++ (map Some chars ++ X)) k ≡ k) at (subst (λ r. first_column r (length (front ++ map Some chars)) ≡ length (front ++ map Some chars)) (append_assoc front (map Some chars) X) (whole-behind front chars o2 back h)) in
    subst (λ cs. TextFed region above below front (length chars + length o2) back cs pen
    (feed_bytes (standing region (above ++ (front ++ (map Some chars ++ X)) ∷ below) (behind_it (length above) (length front) (length chars) long) (nat_le long K) (Some f) latest) []))
    (sym (append-nil chars)) (record {
      cursor = behind_it (length above) (length front) (length chars) long;
      wait = nat_le long (length front + length chars);
      latest = latest;
      left = loose o2;
      long = omega (arith, length-loose o2);
      is = ap (λ p. standing region (above ++ (front ++ (map Some chars ++ X)) ∷ below) (behind_it (length above) (length front) (length chars) long) (nat_le long K) (Some p) latest) e;
      whole = whole;
      goes_on = λ p. let free = not-full (length front) (length chars) (length (loose o2 ++ back)) long n p in (ap (λ k. Some (length above, k)) free.0, free.1);
    })
carry region above below front chars (r ∷ rs) o2 back f pen latest long n h few e next =
    let X = loose o2 ++ back in
    let rest = r ∷ rs in
    let text = text_by f (r ∷ rs) in
    let at = length-behind front chars in
    let more : 0 < length (loose o2 ++ back) = omega (arith, few, length-loose o2, length-append (loose o2) back) in
    let free = not-full (length front) (length chars) (length (loose o2 ++ back)) long n more in
    let front2 = front ++ map Some chars in
    let C = behind_it (length above) (length front) (length chars) long in
    let W = nat_le long (length front + length chars) in
    let fed = next front2 latest (whole-behind front chars o2 back h) in
    let Start = λ (row : Row) (c : Option (ℕ × ℕ)) (w : Bool). feed_bytes (standing region (above ++ row ∷ below) c w (Some f) latest) text in
    let begun : Start (front ++ (map Some chars ++ X)) C W ≡ Start (front2 ++ X) (Some (length above, length front2)) false =
    ap (λ row. Start row C W) (sym (append_assoc front (map Some chars) X))
    ∙ ap (λ k. Start (front2 ++ X) (Some (length above, k)) W) (free.0 ∙ sym at)
    ∙ ap (λ w. Start (front2 ++ X) (Some (length above, length front2)) w) free.1 in
    let Y = fed.left ++ back in
    let shift : front2 ++ (map Some rest ++ Y) ≡ front ++ (map Some (chars ++ rest) ++ Y) =
    append_assoc front (map Some chars) (map Some rest ++ Y)
    ∙ ap (λ xs. front ++ xs) (sym (append_assoc (map Some chars) (map Some rest) Y) ∙ ap (λ ys. ys ++ Y) (sym (map-append Some chars rest))) in
    let count : length (front ++ map Some chars) + length (r ∷ rs) ≡ length front + length (chars ++ (r ∷ rs)) = omega (arith, at, length-append chars (r ∷ rs)) in
    record {
      cursor = fed.cursor;
      wait = fed.wait;
      latest = fed.latest;
      left = fed.left;
      long = omega (arith, fed.long, length-append chars (r ∷ rs), length-loose o2);
      is = begun ∙ fed.is ∙ ap (λ row. standing region (above ++ row ∷ below) fed.cursor fed.wait (Some pen) fed.latest) shift;
      whole = subst (λ k. first_column (front ++ (map Some (chars ++ rest) ++ Y)) k ≡ k) count (subst (λ row. first_column row (length front2 + length rest) ≡ length front2 + length rest) shift fed.whole);
      goes_on = λ q. let g = fed.goes_on q in (g.0 ∙ ap (λ k. Some (length above, k)) count, g.1);
    }

-- ---- the later columns of a character

-- so many later columns, and whole characters behind them
record Rests (k : ℕ) (cells : List Cell) : Type 0 where
  pub more : List Cell
  pub is : cells ≡ replicate k Rest ++ more
  pub row : IsRowAfter 0 more
  pub colours : AllByRecursion IsColoured more

rests-of : (k : ℕ) (cells : List Cell) → IsRowAfter k cells → AllByRecursion IsColoured cells → Rests k cells
rests-of zero cells h c = record { more = cells; is = refl; row = h; colours = c }
rests-of (suc k) [] h c = absurd h
rests-of (suc k) (Blank f ∷ cells) h c = absurd h
rests-of (suc k) (First g f ∷ cells) h c = absurd h
rests-of (suc k) (Rest ∷ cells) h c =
    let next = rests-of k cells h c.1 in
    record { more = next.more; is = ap (λ xs. Rest ∷ xs) next.is; row = next.row; colours = next.colours }

rests-text : (k : ℕ) (f : Attributes) (more : List Cell) → text_by f (replicate k Rest ++ more) ≡ text_by f more
rests-text zero f more = refl
rests-text (suc k) f more = rests-text k f more

rests-pen : (k : ℕ) (f : Attributes) (more : List Cell) → pen_behind f (replicate k Rest ++ more) ≡ pen_behind f more
rests-pen zero f more = refl
rests-pen (suc k) f more = rests-pen k f more

-- ---- a text

pub text_fed : (region : Option (ℕ × ℕ)) → (n : ℕ) (above below : Rows) (front old back : Row) (new : List Cell) (pen : Attributes) (latest : Option (ℕ × ℕ))
    → length new ≤ n → length new ≤ length old → IsRowAfter 0 new → AllByRecursion IsColoured new
    → first_column (front ++ (old ++ back)) (length front) ≡ length front → later_columns back ≡ 0
    → TextFed region above below front (length old) back new (pen_behind pen new)
    (feed_bytes (standing region (above ++ (front ++ (old ++ back)) ∷ below) (Some (length above, length front)) false (Some pen) latest) (text_by pen new))
text_fed region n above below front old back [] pen latest few room row colours first h =
    let none : length front ≡ length front + 0 = omega arith in
    record {
      cursor = Some (length above, length front);
      wait = false;
      latest = latest;
      left = old;
      long = omega arith;
      is = refl;
      whole = subst (λ k. first_column (front ++ (old ++ back)) k ≡ k) none first;
      goes_on = λ p. (ap (λ k. Some (length above, k)) none, refl);
    }
text_fed region zero above below front old back (c ∷ cs) pen latest few room row colours first h = absurd (omega arith)
text_fed region (suc n) above below front [] back (c ∷ cs) pen latest few room row colours first h = absurd (omega arith)
text_fed region (suc n) above below front (o ∷ os) back (Rest ∷ rest) pen latest few room row colours first h = absurd row
text_fed region (suc n) above below front (o ∷ os) back (Blank f ∷ rest) pen latest few room row colours first h =
    let t = standing region (above ++ (front ++ (o ∷ (os ++ back))) ∷ below) (Some (length above, length front)) false (Some pen) latest in
    let dressed = dress_fed region (above ++ (front ++ (o ∷ (os ++ back))) ∷ below) (Some (length above, length front)) false pen f latest colours.0 in
    let shown = blank_fed region above below front back o os f dressed.0 first h in
    let begun = fold-append feed_byte t (dress pen f ++ 32 ∷ []) (text_by f rest)
    ∙ ap (λ u. feed_bytes u (text_by f rest)) (fold-append feed_byte t (dress pen f) (32 ∷ []) ∙ ap (λ u. feed_bytes u (32 ∷ [])) dressed.1 ∙ shown) in
    let long : length (front ++ (o ∷ (os ++ back))) ≡ length front + (1 + length (loose os ++ back)) =
    omega (arith, length-append front (o ∷ (os ++ back)), length-append os back, length-append (loose os) back, length-loose os) in
    let made = carry region above below front (Blank f ∷ []) rest os back f (pen_behind f rest) (Some (length above, length front)) (length (front ++ (o ∷ (os ++ back)))) long h (omega arith) refl
    (λ (front : Row) (latest : Option (ℕ × ℕ)) (first : first_column (front ++ (loose os ++ back)) (length front) ≡ length front).
    text_fed region n above below front (loose os) back rest f latest (omega (arith, few)) (omega (arith, room, length-loose os)) row colours.1 first h) in
    let many : 1 + length os ≡ length (o ∷ os) = omega arith in
    fed-along region above below front (1 + length os) (length (o ∷ os)) back (Blank f ∷ rest) (pen_behind f rest) _ _ many begun made
text_fed region (suc n) above below front (o ∷ os) back (First g f ∷ rest) pen latest few room row colours first h =
    let old = o ∷ os in
    let w = g.width in
    let good = row.0 in
    let some = good.measured.some in
    let rests = rests-of (w - 1) rest row.1 colours.1 in
    let chars = First g f ∷ replicate (w - 1) Rest in
    let wide : length (First g f ∷ replicate (g.width - 1) Rest) ≡ g.width = omega (arith, some, length-replicate (g.width - 1) Rest) in
    let count : length rest ≡ (g.width - 1) + length rests.more = ap length rests.is ∙ length-append (replicate (w - 1) Rest) rests.more ∙ ap (λ k. k + length rests.more) (length-replicate (w - 1) Rest) in
    let le : g.width ≤ length (o ∷ os) = omega (arith, some, count, room) in
    let o1 = take w old in
    let o2 = drop w old in
    let same : length (take g.width (o ∷ os)) ≡ g.width = length-take-le w old le in
    let behind : length (drop g.width (o ∷ os)) ≡ length (o ∷ os) - g.width = length-drop w old in
    let split : front ++ (old ++ back) ≡ front ++ (o1 ++ (o2 ++ back)) = ap (λ xs. front ++ xs) (ap (λ ys. ys ++ back) (sym (take-append-drop w old)) ∙ append_assoc o1 o2 back) in
    let there = length front in
    let State = λ (r : Row) (p : Attributes) (l : Option (ℕ × ℕ)). standing region (above ++ r ∷ below) (Some (length above, there)) false (Some p) l in
    let dressed = dress_fed region (above ++ (front ++ (old ++ back)) ∷ below) (Some (length above, length front)) false pen f latest colours.0 in
    let first2 = subst (λ r. first_column r there ≡ there) split first in
    let long = length (front ++ (o1 ++ (o2 ++ back))) in
    let After = λ (k : ℕ). standing region (above ++ (front ++ (map Some chars ++ (loose o2 ++ back))) ∷ below) (behind_it (length above) there k long) (nat_le long (there + k)) (Some f) (Some (length above, there)) in
    let shown = ap (λ r. feed_bytes (State r f dressed.0) (glyph_bytes g)) split ∙ glyph_fed region above below front o1 o2 back g f dressed.0 first2 same h good ∙ ap After (sym wide) in
    let rest_text = ap (text_by f) rests.is ∙ rests-text (w - 1) f rests.more in
    let begun = fold-append feed_byte (State (front ++ (old ++ back)) pen latest) (dress pen f ++ glyph_bytes g) (text_by f rest)
    ∙ ap (λ u. feed_bytes u (text_by f rest)) (fold-append feed_byte (State (front ++ (old ++ back)) pen latest) (dress pen f) (glyph_bytes g) ∙ ap (λ u. feed_bytes u (glyph_bytes g)) dressed.1 ∙ shown)
    ∙ ap (feed_bytes (After (length chars))) rest_text in
    let total : length (front ++ (take g.width (o ∷ os) ++ (drop g.width (o ∷ os) ++ back))) ≡ length front + (length (First g f ∷ replicate (g.width - 1) Rest) + length (loose (drop g.width (o ∷ os)) ++ back)) =
    omega (
      arith,
      length-append front (take g.width (o ∷ os) ++ (drop g.width (o ∷ os) ++ back)),
      length-append (take g.width (o ∷ os)) (drop g.width (o ∷ os) ++ back),
      length-append (drop g.width (o ∷ os)) back,
      length-append (loose (drop g.width (o ∷ os))) back,
      length-loose (drop g.width (o ∷ os)),
      same,
      wide,
    ) in
    let pens : pen_behind f rests.more ≡ pen_behind f rest = sym (ap (pen_behind f) rests.is ∙ rests-pen (w - 1) f rests.more) in
    let fits : length rests.more ≤ length (drop g.width (o ∷ os)) = omega (arith, count, room, behind, some) in
    let made = carry region above below front chars rests.more o2 back f (pen_behind f rest) (Some (length above, there)) long total h fits pens
    (λ (front : Row) (latest : Option (ℕ × ℕ)) (first : first_column (front ++ (loose o2 ++ back)) (length front) ≡ length front).
    subst (λ p. TextFed region above below front (length (loose o2)) back rests.more p (feed_bytes (standing region (above ++ (front ++ (loose o2 ++ back)) ∷ below) (Some (length above, length front)) false (Some f) latest) (text_by f rests.more))) pens
    (text_fed region n above below front (loose o2) back rests.more f latest (omega (arith, count, few)) (omega (arith, fits, length-loose (drop g.width (o ∷ os)))) rests.row rests.colours first h)) in
    let many : length (First g f ∷ replicate (g.width - 1) Rest) + length (drop g.width (o ∷ os)) ≡ length (o ∷ os) = omega (arith, wide, behind, le) in
    let cells : chars ++ rests.more ≡ First g f ∷ rest = ap (λ xs. First g f ∷ xs) (sym rests.is) in
    subst (λ cs. TextFed region above below front (length old) back cs (pen_behind f rest) (feed_bytes (State (front ++ (old ++ back)) pen latest) (text_by pen (First g f ∷ rest)))) cells
    (fed-along region above below front (length chars + length o2) (length old) back (chars ++ rests.more) (pen_behind f rest) _ _ many begun made)

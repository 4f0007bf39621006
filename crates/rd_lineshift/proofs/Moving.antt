-- Rows that are moved.
use Rattle.std.proofs.Common.{◌≡◌, ℕ, zero, suc, ◌+◌, ◌-◌, ◌<◌, ◌≤◌, ◌⊎◌, inl, inr, List, [], ◌++◌, length, get_or, map, take, drop, replicate, sym, ap, ap₂, ◌∙◌, arith, All}
use Rattle.std.specs.Prelude.{ℤ, pos, negsuc, ◌+ℤ◌, ◌<ℤ◌, ◌≤ℤ◌, neg_ℤ, unsigned_abs}
use Rattle.std.proofs.lemmas.Int.{ints}
use Rattle.std.proofs.lemmas.List.{get_or_append_left, get_or-append_right, get_or-take, get_or-drop, get_or-replicate, map-append, length-map, length-append, length-take-le, length-drop, length-replicate, take_all, take-map, drop-map, drop-take, drop-drop, take-take, take-append-drop}
use Rattle.std.proofs.lemmas.List.Elements.{recursion_from_All, All-append, All-take, All-drop, All-replicate}
use Rattle.rd_base.specs.declared.cell.Cell.{Cell}
use Rattle.rd_term.specs.Pictures.{Picture, IsGrid, blank, blank_row, width_of}
use Rattle.rd_term.proofs.Cutting.{map-replicate}
use Rattle.rd_term.proofs.Shapes.{between-all, length-between, part-length}
use Rattle.rd_update.specs.Updates.{differing}
use Rattle.rd_update.proofs.Spans.{three-parts}
use Rattle.rd_lineshift.specs.Choices.{cost, shift_by}
use Rattle.rd_lineshift.specs.Laws.{IsShift}
use Rattle.rd_lineshift.specs.Numbers.{number_cost, number_in, unlike, unlike_moved}
use Rattle.rd_lineshift.specs.Shifts.{moved, shifted_rows}
use Rattle.rd_lineshift.specs.declared.band.Band.{Band}
use Rattle.rd_lineshift.specs.declared.band.Shift.{Shift}
use Rattle.rd_lineshift.proofs.Counting.{all-in, counted, unlike-append}

-- ---- what is kept

map-moved : {A B : Type 0} (f : A → B) (by : ℤ) (free : A) (rows : List A) → map f (moved by free rows) ≡ moved by (f free) (map f rows)
map-moved f (pos n) free rows =
    map-append f (drop n rows) (replicate n free)
    ∙ ap₂ (λ xs ys. xs ++ ys) (sym (drop-map f n rows)) (map-replicate f n free)
map-moved f (negsuc n) free rows =
    map-append f (replicate (suc n) free) (take (length rows - suc n) rows)
    ∙ ap₂ (λ xs ys. xs ++ ys) (map-replicate f (suc n) free) (sym (take-map f (length rows - suc n) rows))
    ∙ ap (λ k. replicate (suc n) (f free) ++ take (k - suc n) (map f rows)) (sym (length-map rows f))

pub map-shifted : {A B : Type 0} (f : A → B) (s : Shift) (free : A) (rows : List A) → map f (shifted_rows s free rows) ≡ shifted_rows s (f free) (map f rows)
map-shifted f s free rows =
    let end = s.top + s.height in
    let part = take (end - s.top) (drop s.top rows) in
    map-append f (take s.top rows) (moved s.by free part ++ drop end rows)
    ∙ ap (λ ys. map f (take s.top rows) ++ ys) (map-append f (moved s.by free part) (drop end rows))
    ∙ ap (λ xs. xs ++ (map f (moved s.by free part) ++ map f (drop end rows))) (sym (take-map f s.top rows))
    ∙ ap (λ ys. take s.top (map f rows) ++ (map f (moved s.by free part) ++ ys)) (sym (drop-map f end rows))
    ∙ ap (λ ys. take s.top (map f rows) ++ (ys ++ drop end (map f rows))) (map-moved f s.by free part)
    ∙ ap (λ ys. take s.top (map f rows) ++ (moved s.by (f free) ys ++ drop end (map f rows))) (
    sym (take-map f (end - s.top) (drop s.top rows)) ∙ ap (take (end - s.top)) (sym (drop-map f s.top rows)))

moved-all : {A : Type 0} (P : A → Type 0) (by : ℤ) (free : A) (rows : List A) → P free → All P rows → All P (moved by free rows)
moved-all P (pos n) free rows p h = All-append P (drop n rows) (replicate n free) (All-drop P n rows h) (All-replicate P n free p)
moved-all P (negsuc n) free rows p h =
    All-append P (replicate (suc n) free) (take (length rows - suc n) rows) (All-replicate P (suc n) free p) (All-take P (length rows - suc n) rows h)

pub shifted-all : {A : Type 0} (P : A → Type 0) (s : Shift) (free : A) (rows : List A) → P free → All P rows → All P (shifted_rows s free rows)
shifted-all P s free rows p h = between-all P s.top (s.top + s.height) (moved s.by free) rows (λ part. moved-all P s.by free part p) h

moved-length : {A : Type 0} (by : ℤ) (free : A) (rows : List A) → unsigned_abs by ≤ length rows → length (moved by free rows) ≡ length rows
moved-length (pos n) free rows le = length-append (drop n rows) (replicate n free) ∙ omega (arith, length-drop n rows, length-replicate n free)
moved-length (negsuc n) free rows le =
    length-append (replicate (suc n) free) (take (length rows - suc n) rows)
    ∙ omega (arith, length-take-le (length rows - suc n) rows (omega arith), length-replicate (suc n) free)

-- how many rows a band has
pub band-length : {A : Type 0} (xs : List A) (top height : ℕ) → top + height ≤ length xs → length (take (top + height - top) (drop top xs)) ≡ height
band-length xs top height le = part-length top (top + height) xs (omega arith) le ∙ omega arith

pub shifted-length : {A : Type 0} (s : Shift) (free : A) (rows : List A) → IsShift (length rows) s → length (shifted_rows s free rows) ≡ length rows
shifted-length s free rows h =
    length-between s.top (s.top + s.height) (moved s.by free) rows (λ part n. moved-length s.by free part (omega (arith, n, h.left)))
    (omega arith) (omega (arith, h.within))

-- ---- costs by numbers

pub cost-told : (current target : Picture) (w : ℕ) (s : Shift) → IsGrid w current.rows → IsGrid w target.rows → width_of current.rows ≡ w
    → number_cost (map (number_in target.rows) current.rows) (map (number_in target.rows) target.rows) (number_in target.rows (blank_row w)) s ≡ cost current target s
cost-told current target w s old new e =
    let f = number_in target.rows in
    let after = shifted_rows s (blank_row w) current.rows in
    let wide = shifted-all (λ (r : List Cell). length r ≡ w) s (blank_row w) current.rows (length-replicate w blank) old in
    ap (λ xs. unlike xs (map f target.rows)) (sym (map-shifted f s (blank_row w) current.rows))
    ∙ counted w target.rows after target.rows (recursion_from_All (λ r. length r ≡ w) target.rows new) (recursion_from_All (λ r. length r ≡ w) after wide)
    (recursion_from_All (λ r. length r ≡ w) target.rows new) (all-in target.rows)
    ∙ ap (λ k. differing (shifted_rows s (blank_row k) current.rows) target.rows) (sym e)

-- a part of a part
take-within : (xs : List ℕ) (t k a m : ℕ) → a + m ≤ k → take m (drop a (take k (drop t xs))) ≡ take m (drop (t + a) xs)
take-within xs t k a m le =
    let sum : a + (k - a) ≡ k = omega arith in
    ap (λ j. take m (drop a (take j (drop t xs)))) (sym sum)
    ∙ ap (take m) (drop-take a (k - a) (drop t xs))
    ∙ take-take m (k - a) (drop a (drop t xs)) (omega arith)
    ∙ ap (take m) (drop-drop a t xs)

front-of : (xs : List ℕ) (t h m : ℕ) → m ≤ h → take m (take (t + h - t) (drop t xs)) ≡ take m (drop t xs)
front-of xs t h m le = take-take m (t + h - t) (drop t xs) (omega arith)

back-of : (xs : List ℕ) (t h a m : ℕ) → t + h ≤ length xs → a + m ≡ h → drop a (take (t + h - t) (drop t xs)) ≡ take m (drop (t + a) xs)
back-of xs t h a m le e =
    let part = take (t + h - t) (drop t xs) in
    let n : length (drop a part) ≤ m = omega (arith, length-drop a part, band-length xs t h le) in
    sym (take_all m (drop a part) n) ∙ take-within xs t (t + h - t) a m (omega arith)

-- the cost in four parts: above the band, in the two parts that it becomes, and below
in-parts : (old new a b : List ℕ) (t h m k : ℕ) → length old ≡ length new → t + h ≤ length new → length a ≡ m → length b ≡ k → m + k ≡ h
    → unlike (take t old ++ ((a ++ b) ++ drop (t + h) old)) new
    ≡ unlike (take t old) (take t new) + unlike a (take m (drop t new)) + unlike b (take k (drop (t + m) new)) + unlike (drop (t + h) old) (drop (t + h) new)
in-parts old new a b t h m k same le first second sum =
    let part = take (t + h - t) (drop t new) in
    let above = unlike (take t old) (take t new) in
    let below = drop (t + h) new in
    let size = band-length new t h le in
    let high : length (take t old) ≡ length (take t new) = length-take-le t old (omega arith) ∙ sym (length-take-le t new (omega arith)) in
    let change : length (a ++ b) ≡ length (take (t + h - t) (drop t new)) = omega (arith, length-append a b, size) in
    let front : length a ≡ length (take m (take (t + h - t) (drop t new))) = omega (arith, length-take-le m part (omega (arith, size))) in
    ap (unlike (take t old ++ ((a ++ b) ++ drop (t + h) old))) (sym (three-parts t (t + h) new (omega arith)))
    ∙ unlike-append (take t old) ((a ++ b) ++ drop (t + h) old) (take t new) (part ++ below) high
    ∙ ap (λ n. above + n) (unlike-append (a ++ b) (drop (t + h) old) part below change)
    ∙ ap (λ n. above + (n + unlike (drop (t + h) old) below)) (
    ap (unlike (a ++ b)) (sym (take-append-drop m part))
    ∙ unlike-append a b (take m part) (drop m part) front
    ∙ ap₂ (λ x y. unlike a x + unlike b y) (front-of new t h m (omega arith)) (back-of new t h m k le sum))
    ∙ omega arith

-- a cost where rows move up
pub up-cost : (old new : List ℕ) (blank : ℕ) (band : Band) (n : ℕ) → length old ≡ length new → band.top + band.height ≤ length new → n ≤ band.height
    → unlike_moved old new blank band n (band.top + n) band.top (band.top + (band.height - n)) ≡ number_cost old new blank (shift_by band (pos n))
up-cost old new blank band n same le fits =
    let t = band.top in
    let h = band.height in
    let P = take (t + h - t) (drop t old) in
    let free = replicate n blank in
    let kept = back-of old t h n (h - n) (omega arith) (omega arith) in
    let left : length (drop n (take (t + h - t) (drop t old))) ≡ h - n = length-drop n P ∙ ap (λ k. k - n) (band-length old t h (omega arith)) in
    ap (λ xs. unlike (take t old) (take t new) + unlike xs (take (h - n) (drop t new)) + unlike free (take n (drop (t + (h - n)) new)) + unlike (drop (t + h) old) (drop (t + h) new)) (sym kept)
    ∙ sym (in-parts old new (drop n P) free t h (h - n) n same le left (length-replicate n blank) (omega arith))

swapped : (a b c d : ℕ) → a + b + c + d ≡ a + c + b + d
swapped a b c d = omega arith

-- what a shift costs where rows move down
pub down-cost : (old new : List ℕ) (blank : ℕ) (band : Band) (n : ℕ) → length old ≡ length new → band.top + band.height ≤ length new → 1 ≤ n → n ≤ band.height
    → unlike_moved old new blank band n band.top (band.top + n) band.top ≡ number_cost old new blank (shift_by band (neg_ℤ (pos n)))
down-cost old new blank band zero same le some fits = absurd (omega arith)
down-cost old new blank band (suc k) same le some fits =
    let t = band.top in
    let h = band.height in
    let n = suc k in
    let P = take (t + h - t) (drop t old) in
    let free = replicate n blank in
    let size = band-length old t h (omega arith) in
    let kept = ap (λ j. take (j - n) P) size ∙ front-of old t h (h - n) (omega arith) in
    let left : length (take (length P - n) P) ≡ h - n = length-take-le (length P - n) P (omega arith) ∙ ap (λ j. j - n) size in
    swapped (unlike (take t old) (take t new)) (unlike (take (h - n) (drop t old)) (take (h - n) (drop (t + n) new))) (unlike free (take n (drop t new))) (unlike (drop (t + h) old) (drop (t + h) new))
    ∙ ap (λ xs. unlike (take t old) (take t new) + unlike free (take n (drop t new)) + unlike xs (take (h - n) (drop (t + n) new)) + unlike (drop (t + h) old) (drop (t + h) new)) (sym kept)
    ∙ sym (in-parts old new free (take (length P - n) P) t h n (h - n) same le (length-replicate n blank) left (omega arith))

-- ---- the rows after a shift, one by one

row-behind : (s : Shift) (free : List Cell) (rows : List (List Cell)) (row : ℕ) → s.top + s.height ≤ length rows → s.top ≤ row
    → get_or (shifted_rows s free rows) row [] ≡ get_or (moved s.by free (take (s.top + s.height - s.top) (drop s.top rows)) ++ drop (s.top + s.height) rows) (row - s.top) []
row-behind s free rows row within le =
    let rest = moved s.by free (take (s.top + s.height - s.top) (drop s.top rows)) ++ drop (s.top + s.height) rows in
    get_or-append_right (take s.top rows) rest s.top row [] (length-take-le s.top rows (omega arith)) le

moved-long : (s : Shift) (free : List Cell) (rows : List (List Cell)) → IsShift (length rows) s → length (moved s.by free (take (s.top + s.height - s.top) (drop s.top rows))) ≡ s.height
moved-long s free rows h =
    let n = band-length rows s.top s.height h.within in
    moved-length s.by free (take (s.top + s.height - s.top) (drop s.top rows)) (omega (arith, n, h.left)) ∙ n

row-within : (s : Shift) (free : List Cell) (rows : List (List Cell)) (row : ℕ) → IsShift (length rows) s → s.top ≤ row → row < s.top + s.height
    → get_or (shifted_rows s free rows) row [] ≡ get_or (moved s.by free (take (s.top + s.height - s.top) (drop s.top rows))) (row - s.top) []
row-within s free rows row h le lt =
    let change = moved s.by free (take (s.top + s.height - s.top) (drop s.top rows)) in
    row-behind s free rows row h.within le
    ∙ get_or_append_left change (drop (s.top + s.height) rows) [] (row - s.top) (omega (arith, moved-long s free rows h))

-- a row of the band
part-row : (rows : List (List Cell)) (t h k : ℕ) → k < h → get_or (take (t + h - t) (drop t rows)) k [] ≡ get_or rows (t + k) []
part-row rows t h k lt = get_or-take (t + h - t) (drop t rows) k [] (omega arith) ∙ get_or-drop t rows k []

-- by the number of a row of the band after a move, and where it stood before, which is in the band or not
moved-kept : (by : ℤ) (free : List Cell) (P : List (List Cell)) (k j : ℕ) → k < length P → j < length P → pos k +ℤ by ≡ pos j → get_or (moved by free P) k [] ≡ get_or P j []
moved-kept (pos n) free P k j less within from =
    let sum : n + k ≡ j = omega (arith, ints, from) in
    get_or_append_left (drop n P) (replicate n free) [] k (omega (arith, length-drop n P))
    ∙ get_or-drop n P k []
    ∙ ap (λ i. get_or P i []) sum
moved-kept (negsuc n) free P k j less within from =
    let sum : j + suc n ≡ k = omega (arith, ints, from) in
    let back : k - suc n ≡ j = omega (arith, sum) in
    get_or-append_right (replicate (suc n) free) (take (length P - suc n) P) (suc n) k [] (length-replicate (suc n) free) (omega (arith, sum))
    ∙ get_or-take (length P - suc n) P (k - suc n) [] (omega (arith, sum))
    ∙ ap (λ i. get_or P i []) back

moved-free : (by : ℤ) (free : List Cell) (P : List (List Cell)) (k : ℕ) → unsigned_abs by ≤ length P → k < length P → ((pos k +ℤ by) <ℤ pos 0) ⊎ (pos (length P) ≤ℤ (pos k +ℤ by))
    → get_or (moved by free P) k [] ≡ free
moved-free (pos n) free P k few less (inl above) = absurd (omega (arith, ints, above))
moved-free (pos n) free P k few less (inr below) =
    let past : length P ≤ k + n = omega (arith, ints, below) in
    get_or-append_right (drop n P) (replicate n free) (length P - n) k [] (length-drop n P) (omega (arith, past))
    ∙ get_or-replicate n (k - (length P - n)) free [] (omega (arith, past))
moved-free (negsuc n) free P k few less (inl above) =
    let short : k < suc n = omega (arith, ints, above) in
    get_or_append_left (replicate (suc n) free) (take (length P - suc n) P) [] k (omega (arith, short, length-replicate (suc n) free))
    ∙ get_or-replicate (suc n) k free [] short
moved-free (negsuc n) free P k few less (inr below) = absurd (omega (arith, ints, below))

pub row-kept : (s : Shift) (free : List Cell) (rows : List (List Cell)) (row j : ℕ) → IsShift (length rows) s → s.top ≤ row → row < s.top + s.height
    → s.top ≤ j → j < s.top + s.height → pos row +ℤ s.by ≡ pos j → get_or rows j [] ≡ get_or (shifted_rows s free rows) row []
row-kept s free rows row j h le lt from to origin =
    let n = band-length rows s.top s.height h.within in
    let same : pos (row - s.top) +ℤ s.by ≡ pos (j - s.top) = omega (arith, ints, origin) in
    let place : s.top + (j - s.top) ≡ j = omega arith in
    sym (
    row-within s free rows row h le lt
    ∙ moved-kept s.by free (take (s.top + s.height - s.top) (drop s.top rows)) (row - s.top) (j - s.top) (omega (arith, n)) (omega (arith, n)) same
    ∙ part-row rows s.top s.height (j - s.top) (omega arith)
    ∙ ap (λ k. get_or rows k []) place)

pub row-free : (s : Shift) (free : List Cell) (rows : List (List Cell)) (row : ℕ) → IsShift (length rows) s → s.top ≤ row → row < s.top + s.height
    → ((pos row +ℤ s.by) <ℤ pos s.top) ⊎ (pos (s.top + s.height) ≤ℤ (pos row +ℤ s.by)) → free ≡ get_or (shifted_rows s free rows) row []
row-free s free rows row h le lt origin =
    let P = take (s.top + s.height - s.top) (drop s.top rows) in
    let n = band-length rows s.top s.height h.within in
    let outside : ((pos (row - s.top) +ℤ s.by) <ℤ pos 0) ⊎ (pos (length P) ≤ℤ (pos (row - s.top) +ℤ s.by)) = elim origin [
      | inl above ↦ inl (omega (arith, ints, above))
      | inr below ↦ inr (omega (arith, ints, below, n))
    ] in
    sym (row-within s free rows row h le lt ∙ moved-free s.by free P (row - s.top) (omega (arith, n, h.left)) (omega (arith, n)) outside)

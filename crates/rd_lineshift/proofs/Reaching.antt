-- What the bytes of a shift do to the terminal that reads them, and the law of the update that begins with one.
use Rattle.std.proofs.Common.{◌≡◌, ℕ, zero, suc, ◌+◌, ◌-◌, ◌<◌, ◌≤◌, ◌&&◌, nat_lt, nat_le, Bool, true, false, List, [], ◌∷◌, ◌++◌, length, get_or, map, take, drop, replicate, Option, None, Some, IfSome, refl, sym, ap, ◌∙◌, arith, subst}
use Rattle.std.specs.Prelude.{ℤ, pos, negsuc, unsigned_abs, IsSome}
use Rattle.std.specs.List.{AllByRecursion, flat_map}
use Rattle.std.proofs.lemmas.Bool.Decides.{nat_tests}
use Rattle.std.proofs.lemmas.List.{length-map, length-take-le, length-drop, length-replicate}
use Rattle.std.proofs.lemmas.List.Elements.{recursion_from_All, All-take, All-drop, All-nil}
use Rattle.std.proofs.lemmas.List.Sums.{fold-append}
use Rattle.std.proofs.lemmas.Option.{IfSome_then}
use Rattle.rd_base.proofs.Choices.{either}
use Rattle.rd_base.proofs.Lists.{each-append, all-one}
use Rattle.rd_base.specs.Faces.{Attributes, plain}
use Rattle.rd_base.specs.declared.cell.Cell.{Cell}
use Rattle.rd_term.specs.Pictures.{Picture, blank, blank_row, width_of, IsGrid, IsOfSize}
use Rattle.rd_term.specs.Shifts.{cleared, moved_down, moved_up, changed_between}
use Rattle.rd_term.specs.Terminals.{Tty, feed_byte, feed_bytes, known}
use Rattle.rd_term.proofs.Cutting.{map-replicate}
use Rattle.rd_term.proofs.Encoded.{Rows, standing}
use Rattle.rd_term.proofs.Shapes.{grid-width, length-between, length-up, length-down, grid-known}
use Rattle.rd_update.specs.Laws.{IsReady, IsUpdated}
use Rattle.rd_update.specs.Updates.{differing, sequence, update, Update}
use Rattle.rd_update.proofs.Parts.{cleared-all}
use Rattle.rd_update.proofs.Sequences.{move_fed, sequence-read, tty-same}
use Rattle.rd_lineshift.specs.Choices.{AreWithin, cheaper, cheapest, choice, cost, if_gains, shifts_from, shifts_of}
use Rattle.rd_lineshift.specs.Laws.{IsShift, ShiftLaw}
use Rattle.rd_lineshift.specs.Plans.{after_shift, opening}
use Rattle.rd_lineshift.specs.Shifts.{moved, moving, region, shift_bytes, shifted, shifted_rows}
use Rattle.rd_lineshift.specs.declared.band.Band.{Band}
use Rattle.rd_lineshift.specs.declared.band.Shift.{Shift}
use Rattle.rd_lineshift.proofs.Moving.{band-length, map-shifted, shifted-all, shifted-length}

abbrev Place : Type 0
Place = Option (ℕ × ℕ)

-- ---- sequences

region-fed : (r : Place) (rows : Rows) (cursor : Place) (wait : Bool) (pen : Option Attributes) (latest : Place) (top bottom : ℕ)
    → top + 1 < bottom → bottom ≤ length rows → bottom ≤ 65535
    → feed_bytes (standing r rows cursor wait pen latest) (region (top + 1) bottom) ≡ standing (Some (top, bottom - 1)) rows None false pen None
region-fed r rows cursor wait pen latest top bottom order within small =
    let test : (nat_lt 0 (top + 1) && nat_lt (top + 1) bottom && nat_le bottom (length rows)) ≡ true = grind (arith, nat_tests) in
    let e : top + 1 - 1 ≡ top = omega arith in
    sequence-read (standing r rows cursor wait pen latest) 114 (top + 1) (bottom ∷ []) refl refl refl refl (omega arith) (all-one (λ (k : ℕ). k ≤ 65535) bottom small) (omega arith)
    ∙ rw (test, e) refl

-- the rows as the terminal moves them
abbrev pub terminal_moved : ℤ → Rows → Rows
terminal_moved (pos n) rows = moved_up n rows
terminal_moved (negsuc n) rows = moved_down (suc n) rows

moving-fed : (rows : Rows) (latest : Place) (top bottom : ℕ) (by : ℤ) → 1 ≤ unsigned_abs by → unsigned_abs by ≤ 65535 → top ≤ bottom
    → feed_bytes (standing (Some (top, bottom)) rows (Some (top, 0)) false (Some plain) latest) (moving by)
    ≡ standing (Some (top, bottom)) (changed_between top (bottom + 1) (terminal_moved by) rows) None false (Some plain) None
moving-fed rows latest top bottom (pos n) some small order =
    let first : nat_lt 0 n ≡ true = grind (arith, nat_tests) in
    let inside : (nat_le top top && nat_le top bottom) ≡ true = grind (arith, nat_tests) in
    sequence-read (standing (Some (top, bottom)) rows (Some (top, 0)) false (Some plain) latest) 77 n [] refl refl refl refl small (All-nil (λ (k : ℕ). k ≤ 65535)) (omega arith)
    ∙ rw (first, inside) refl
moving-fed rows latest top bottom (negsuc n) some small order =
    let first : nat_lt 0 (suc n) ≡ true = grind (arith, nat_tests) in
    let inside : (nat_le top top && nat_le top bottom) ≡ true = grind (arith, nat_tests) in
    sequence-read (standing (Some (top, bottom)) rows (Some (top, 0)) false (Some plain) latest) 76 (suc n) [] refl refl refl refl small (All-nil (λ (k : ℕ). k ≤ 65535)) (omega arith)
    ∙ rw (first, inside) refl

length-moved : (by : ℤ) (rows : Rows) → length (terminal_moved by rows) ≡ length rows
length-moved (pos n) rows = length-up n rows
length-moved (negsuc n) rows = length-down (suc n) rows

pub shift-fed : (r : Place) (rows : Rows) (cursor : Place) (wait : Bool) (latest : Place) (height : ℕ) (s : Shift)
    → length rows ≡ height → height ≤ 200 → IsShift height s → 0 < length (get_or rows s.top [])
    → feed_bytes (standing r rows cursor wait (Some plain) latest) (shift_bytes height s)
    ≡ standing (Some (0, height - 1)) (changed_between s.top (s.top + s.height) (terminal_moved s.by) rows) None false (Some plain) None
shift-fed r rows cursor wait latest height s n tall h some =
    let end = s.top + s.height in
    let t0 = standing r rows cursor wait (Some plain) latest in
    let t1 = standing (Some (s.top, end - 1)) rows None false (Some plain) None in
    let t2 = standing (Some (s.top, end - 1)) rows (Some (s.top, 0)) false (Some plain) None in
    let after = changed_between s.top (end - 1 + 1) (terminal_moved s.by) rows in
    let t3 = standing (Some (s.top, end - 1)) after None false (Some plain) None in
    let move = sequence (s.top + 1) (1 ∷ []) 72 in
    let order : s.top + 1 < s.top + s.height = omega (arith, h.some, h.left) in
    let back : s.top + s.height - 1 + 1 ≡ s.top + s.height = omega (arith, order) in
    let one = region-fed r rows cursor wait (Some plain) latest s.top end order (omega (arith, n, h.within)) (omega (arith, h.within, tall)) in
    let two = move_fed (Some (s.top, end - 1)) rows None false (Some plain) None s.top 0 (omega (arith, n, h.within, order)) some (omega (arith, h.within, tall, order)) (omega arith) in
    let three = moving-fed rows None s.top (end - 1) s.by h.some (omega (arith, h.left, h.within, tall)) (omega (arith, order)) in
    let long : length after ≡ height =
    length-between s.top (end - 1 + 1) (terminal_moved s.by) rows (λ part _. length-moved s.by part) (omega (arith, back)) (omega (arith, back, n, h.within)) ∙ n in
    let four = region-fed (Some (s.top, end - 1)) after None false (Some plain) None 0 height (omega (arith, h.within, order)) (omega (arith, long)) (omega (arith, tall)) in
    fold-append feed_byte t0 (region (s.top + 1) end) (move ++ (moving s.by ++ region 1 height))
    ∙ ap (λ t. feed_bytes t (move ++ (moving s.by ++ region 1 height))) one
    ∙ fold-append feed_byte t1 move (moving s.by ++ region 1 height)
    ∙ ap (λ t. feed_bytes t (moving s.by ++ region 1 height)) two
    ∙ fold-append feed_byte t2 (moving s.by) (region 1 height)
    ∙ ap (λ t. feed_bytes t (region 1 height)) three
    ∙ four
    ∙ ap (λ e. standing (Some (0, height - 1)) (changed_between s.top e (terminal_moved s.by) rows) None false (Some plain) None) back

-- ---- the rows that the terminal then has

cleared-some : (w k : ℕ) (rows : Rows) → IsGrid w rows → length rows ≡ k → map cleared rows ≡ replicate k (replicate w (Some blank))
cleared-some w k rows h n = cleared-all w rows (recursion_from_All (λ row. length row ≡ w) rows h) ∙ ap (λ j. replicate j (replicate w (Some blank))) n

moved-same : (w : ℕ) (by : ℤ) (rows : Rows) → IsGrid w rows → unsigned_abs by ≤ length rows → terminal_moved by rows ≡ moved by (replicate w (Some blank)) rows
moved-same w (pos n) rows h le =
    ap (λ xs. drop n rows ++ xs) (cleared-some w n (take n rows) (All-take (λ row. length row ≡ w) n rows h) (length-take-le n rows le))
moved-same w (negsuc n) rows h le =
    let kept = length rows - suc n in
    ap (λ xs. xs ++ take kept rows) (cleared-some w (suc n) (drop kept rows) (All-drop (λ row. length row ≡ w) kept rows h) (length-drop kept rows ∙ omega arith))

pub shifted-known : (w : ℕ) (s : Shift) (rows : List (List Cell)) → IsGrid w rows → IsShift (length rows) s
    → changed_between s.top (s.top + s.height) (terminal_moved s.by) (known rows) ≡ known (shifted_rows s (blank_row w) rows)
shifted-known w s rows grid h =
    let end = s.top + s.height in
    let all = known rows in
    let part = take (end - s.top) (drop s.top all) in
    let wide = grid-known w rows grid in
    let inside = All-take (λ row. length row ≡ w) (end - s.top) (drop s.top all) (All-drop (λ row. length row ≡ w) s.top all wide) in
    let n = band-length all s.top s.height (omega (arith, length-map rows (map Some), h.within)) in
    ap (λ xs. take s.top all ++ (xs ++ drop end all)) (moved-same w s.by part inside (omega (arith, n, h.left)))
    ∙ ap (λ free. shifted_rows s free all) (sym (map-replicate Some w blank))
    ∙ sym (map-shifted (map Some) s (blank_row w) rows)

-- ---- the shift that is taken

all-flat : (P : Shift → Type 0) (bands : List Band) → AllByRecursion (λ band. AllByRecursion P (shifts_of band)) bands → AllByRecursion P (flat_map shifts_of bands)
all-flat P [] h = tt
all-flat P (band ∷ bands) h = each-append P (shifts_of band) (flat_map shifts_of bands) h.0 (all-flat P bands h.1)

shifts-within : (height : ℕ) (band : Band) (k more : ℕ) → band.top + band.height ≤ height → suc k + more ≤ band.height → AllByRecursion (IsShift height) (shifts_from band (suc k) more)
shifts-within height band k zero within le = tt
shifts-within height band k (suc more) within le = (
  record { within = within; some = omega arith; left = omega arith },
  (record { within = within; some = omega arith; left = omega arith }, shifts-within height band (suc k) more within (omega arith)),
)

shifts-some : (height : ℕ) (band : Band) (n : ℕ) → band.height ≡ n → band.top + band.height ≤ height → AllByRecursion (IsShift height) (shifts_from band 1 (n - 1))
shifts-some height band zero e within = tt
shifts-some height band (suc k) e within =
    let less : suc k - 1 ≡ k = omega arith in
    rw less (shifts-within height band 0 k within (omega arith))

shifts-all : (height : ℕ) (band : Band) → band.top + band.height ≤ height → AllByRecursion (IsShift height) (shifts_of band)
shifts-all height band within = shifts-some height band band.height refl within

cheaper-keeps : (P : Shift → Type 0) (f : Shift → ℕ) (s : Shift) (t : Option Shift) → P s → IfSome t P → IfSome (cheaper f (Some s) t) P
cheaper-keeps P f s None p q = p
cheaper-keeps P f s (Some t) p q = either (λ o. IfSome o P) (nat_le (f s) (f t)) (Some s) (Some t) p q

cheapest-one : (P : Shift → Type 0) (f : Shift → ℕ) (xs : List Shift) → AllByRecursion P xs → IfSome (cheapest f xs) P
cheapest-one P f [] h = tt
cheapest-one P f (x ∷ xs) h = cheaper-keeps P f x (cheapest f xs) h.0 (cheapest-one P f xs h.1)

gains-one : (P : Shift → Type 0) (f : Shift → ℕ) (rows : ℕ) (s : Option Shift) → IfSome s P → IfSome (if_gains f rows s) P
gains-one P f rows None p = tt
gains-one P f rows (Some s) p = either (λ o. IfSome o P) (nat_le (f s + 3) rows) (Some s) None p tt

pub taken-fits : (height : ℕ) (current : Option Picture) (target : Picture) (bands : List Band) → AreWithin height bands → IfSome (choice current target bands) (IsShift height)
taken-fits height None target bands h = tt
taken-fits height (Some current) target bands h =
    gains-one (IsShift height) (cost current target) (differing current.rows target.rows) (cheapest (cost current target) (flat_map shifts_of bands))
    (cheapest-one (IsShift height) (cost current target) (flat_map shifts_of bands)
    (all-flat (IsShift height) bands (recursion_from_All (λ band. AllByRecursion (IsShift height) (shifts_of band)) bands (λ k d lt. shifts-all height (get_or bands k d) (h k d lt)))))

-- ---- the screen after a shift

pub shifted-size : (w h : ℕ) (s : Shift) (screen : Picture) → IsOfSize w h screen → IsShift h s → IsOfSize w h (shifted s screen)
shifted-size w h s screen size fits =
    let e = grid-width w screen.rows (omega (arith, size.rows, size.row)) size.each in
    let fits_rows : IsShift (length screen.rows) s = rw size.rows fits in
    record {
      rows = shifted-length s (blank_row (width_of screen.rows)) screen.rows fits_rows ∙ size.rows;
      each = shifted-all (λ (row : List Cell). length row ≡ w) s (blank_row (width_of screen.rows)) screen.rows (length-replicate (width_of screen.rows) blank ∙ e) size.each;
      row = size.row;
      column = size.column;
    }

pub ready-shifted : (w h : ℕ) (screen target : Picture) (t : Tty) (s : Shift) → IsReady w h (Some screen) target t → IsShift h s
    → IsReady w h (Some (shifted s screen)) target (feed_bytes t (shift_bytes h s))
ready-shifted w h screen target t s r fits =
    let size = r.there.now.0 in
    let v = width_of screen.rows in
    let e : width_of screen.rows ≡ w = grid-width w screen.rows (omega (arith, size.rows, size.row)) size.each in
    let grid : IsGrid (width_of screen.rows) screen.rows = subst (λ k. IsGrid k screen.rows) (sym e) size.each in
    let fits_rows : IsShift (length screen.rows) s = rw size.rows fits in
    let after = shifted-size w h s screen size fits in
    let before = tty-same t.rows t.region t.cursor t.wait t.pen t.latest t.reading t.confused (known screen.rows) (Some plain) r.there.now.1 r.there.now.2 r.there.between r.there.sure in
    let n : length (known screen.rows) ≡ h = length-map screen.rows (map Some) ∙ size.rows in
    let top : s.top < length (known screen.rows) = omega (arith, n, fits.within, fits.left) in
    let some : 0 < length (get_or (known screen.rows) s.top []) = omega (arith, grid-known w screen.rows size.each s.top [] top, size.column) in
    let is : feed_bytes t (shift_bytes h s) ≡ standing (Some (0, h - 1)) (known (shifted s screen).rows) None false (Some plain) None =
    ap (λ x. feed_bytes x (shift_bytes h s)) before
    ∙ shift-fed t.region (known screen.rows) t.cursor t.wait t.latest h s n r.tall fits some
    ∙ ap (λ rows. standing (Some (0, h - 1)) rows None false (Some plain) None) (shifted-known v s screen.rows grid fits_rows) in
    let rows = length-map (shifted s screen).rows (map Some) ∙ after.rows in
    let each = grid-known w (shifted s screen).rows after.each in
    rw is (record {
      there = record { sure = refl; between = refl; rows = rows; each = each; now = (after, refl, refl) };
      wide = r.wide;
      tall = r.tall;
      size = r.size;
      sound = r.sound;
    })

-- ---- the law

-- how a terminal reads an update
abbrev pub Updates : Type 0
Updates = (width height : ℕ) (current : Option Picture) (target : Picture) (limit : Option ℕ) (t : Tty) → IsReady width height current target t
    → IsUpdated width height (update current target limit) target (feed_bytes t (update current target limit).bytes)

other-bytes : (w h : ℕ) (u : Update) (bytes : List ℕ) (target : Picture) (t : Tty) → IsUpdated w h u target t → IsUpdated w h (record u { bytes = bytes }) target t
other-bytes w h u bytes target t x = record { sure = x.sure; between = x.between; size = x.size; cells = x.cells; pen = x.pen; cursor = x.cursor }

taken-updated : Updates → (w h : ℕ) (current : Option Picture) (target : Picture) (limit : Option ℕ) (t : Tty) (taken : Option Shift)
    → IsReady w h current target t → IfSome taken (λ s. IsSome current × IsShift h s)
    → let rest = update (after_shift taken current) target limit in
    IsUpdated w h (record rest { bytes = opening h taken ++ rest.bytes }) target (feed_bytes t (opening h taken ++ rest.bytes))
taken-updated updates w h current target limit t None r fits =
    let u = update current target limit in
    other-bytes w h u u.bytes target (feed_bytes t u.bytes) (updates w h current target limit t r)
taken-updated updates w h None target limit t (Some s) r fits = absurd (let none : false ≡ true = fits.0 in cc)
taken-updated updates w h (Some screen) target limit t (Some s) r fits =
    let u = update (Some (shifted s screen)) target limit in
    let ready = ready-shifted w h screen target t s r fits.1 in
    let bytes = shift_bytes h s ++ u.bytes in
    rw (fold-append feed_byte t (shift_bytes h s) u.bytes)
    (other-bytes w h u bytes target (feed_bytes (feed_bytes t (shift_bytes h s)) u.bytes) (updates w h (Some (shifted s screen)) target limit (feed_bytes t (shift_bytes h s)) ready))

known-taken : (height : ℕ) (current : Option Picture) (target : Picture) (bands : List Band) → AreWithin height bands → IfSome (choice current target bands) (λ s. IsSome current × IsShift height s)
known-taken height None target bands h = tt
known-taken height (Some current) target bands h =
    IfSome_then (choice (Some current) target bands) (taken-fits height (Some current) target bands h) (λ s fits. (refl, fits))

pub shifted-updated : Updates → ShiftLaw
shifted-updated updates w h current target bands limit t r within =
    rw r.size.rows (taken-updated updates w h current target limit t (choice current target bands) r (known-taken h current target bands within))

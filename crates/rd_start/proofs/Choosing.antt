-- What is chosen, from what was found.
use Rattle.std.proofs.Common.{◌≡◌, ℕ, ◌+◌, ◌<◌, ◌≤◌, Bool, true, false, cond, min, max, ltb, List, [], ◌∷◌, take, drop, None, Some, refl, sym, ap, ◌∙◌, arith}
use Rattle.std.proofs.lemmas.Bool.{cond-false, cond-true, le-ltb, lt-ltb}
use Rattle.std.proofs.lemmas.Bool.Decides.{nat_tests}
use Rattle.std.specs.List.{find, fold, reduce}
use Rattle.std.specs.Option.{unwrap_or}
use Rattle.rd_matrix.specs.Entries.{EntryMeaning}
use Rattle.rd_matrix.specs.Sources.{SourceValues, rows_at}
use Rattle.rd_rows.specs.Shapes.{ShapeValues}
use Rattle.rd_start.specs.Chosen.{anchor_at, chosen_of, first_positions, forced_point, places_of, point_from}
use Rattle.rd_start.specs.Starts.{Places, around, centred, following, is_in_view, scrolled, start_of, suits}
use Rattle.rd_start.specs.Strips.{span_of}
use Rattle.rd_start.specs.declared.span.Span.{Span}
use Rattle.rd_start.specs.declared.strip.PointSide.{PointSide}
use Rattle.rd_start.specs.declared.strip.PointSide.TheVariants.{Above, Below, Within}
use Rattle.rd_start.specs.declared.wanted.Chosen.{Chosen}
use Rattle.rd_start.specs.declared.wanted.Wanted.{Wanted}
use Rattle.rd_start.proofs.Lists.{find-first}
use Rattle.rd_start.proofs.Sides.{Sees}

abbrev chosen_at : List EntryMeaning → ℕ → ℕ → Chosen
chosen_at rows j point = record { anchor = anchor_at rows j; point = point }

chosen-by : (m : SourceValues) (shape : ShapeValues) (w : Wanted) (j p : ℕ) → start_of w (places_of m shape w) ≡ j → p ≡ point_from w (places_of m shape w) j (rows_at m shape)
    → chosen_at (rows_at m shape) j p ≡ chosen_of m shape w
chosen-by m shape w j p start point =
    let at = places_of m shape w in
    let rows = rows_at m shape in
    ap (λ n. chosen_at rows n p) (sym start) ∙ ap (chosen_at rows (start_of w at)) (point ∙ ap (λ n. point_from w at n rows) (sym start))

pub chosen-free : (m : SourceValues) (shape : ShapeValues) (w : Wanted) (j : ℕ) → w.forced ≡ false → following w (places_of m shape w) ≡ j
    → record { anchor = anchor_at (rows_at m shape) j; point = w.point } ≡ chosen_of m shape w
chosen-free m shape w j free e = chosen-by m shape w j w.point (cond-false w.forced _ _ free ∙ e) (sym (cond-false w.forced _ _ free))

pub follows-found : (w : Wanted) (at : Places) (j : ℕ) → find (suits w at) (around at.old w.conservatively) ≡ Some j → following w at ≡ j
follows-found w at j e = ap (λ o. unwrap_or o (centred w at)) e

pub follows-none : (w : Wanted) (at : Places) → find (suits w at) (around at.old w.conservatively) ≡ None → following w at ≡ centred w at
follows-none w at e = ap (λ o. unwrap_or o (centred w at)) e

pub follows-old : (w : Wanted) (at : Places) → suits w at at.old ≡ true → following w at ≡ at.old
follows-old w at e = follows-found w at at.old (find-first (suits w at) at.old w.conservatively e)

pub chosen-forced : (m : SourceValues) (shape : ShapeValues) (w : Wanted) (j p : ℕ) → w.forced ≡ true → scrolled w (places_of m shape w) ≡ j
    → p ≡ forced_point w j (places_of m shape w).point (take w.height (drop j (rows_at m shape)))
    → record { anchor = anchor_at (rows_at m shape) j; point = p } ≡ chosen_of m shape w
chosen-forced m shape w j p forced e point = chosen-by m shape w j p (cond-true w.forced _ _ forced ∙ e) (point ∙ sym (cond-true w.forced _ _ forced))

shown : (start height row : ℕ) → start ≤ row → row < start + height → is_in_view height start row ≡ true
shown start height row low high = grind (arith, nat_tests)

hidden-above : (start height row : ℕ) → row < start → is_in_view height start row ≡ false
hidden-above start height row low = grind (arith, nat_tests)

hidden-below : (start height row : ℕ) → start + height ≤ row → is_in_view height start row ≡ false
hidden-below start height row high = grind (arith, nat_tests)

-- point where a start is forced
abbrev forced_to : Wanted → List ℕ → Bool → Bool → ℕ
forced_to w ps shown above = cond shown w.point (cond above (unwrap_or (reduce min ps) w.point) (unwrap_or (reduce max ps) w.point))

forced-none : (w : Wanted) (ps : List ℕ) (shown above : Bool) → None ≡ span_of ps → w.point ≡ forced_to w ps shown above
forced-none w [] true above e = refl
forced-none w [] false true e = refl
forced-none w [] false false e = refl
forced-none w (p ∷ ps) shown above e = absurd cc

pub point-kept : (w : Wanted) (start row : ℕ) (view : List EntryMeaning) → None ≡ span_of (first_positions view) → w.point ≡ forced_point w start row view
point-kept w start row view e = forced-none w (first_positions view) (is_in_view w.height start row) (ltb row start) e

-- point where a view spans something, by the side of it on which point's row is
abbrev pub point_by : PointSide → Wanted → Span → ℕ
point_by Above w span = span.first
point_by Within w span = w.point
point_by Below w span = span.last

forced-some : (w : Wanted) (ps : List ℕ) (span : Span) (shown above : Bool) → Some span ≡ span_of ps → cond shown w.point (cond above span.first span.last) ≡ forced_to w ps shown above
forced-some w [] span shown above e = absurd cc
forced-some w (p ∷ ps) span shown above e =
    let is : span ≡ record { first = fold min p ps; last = fold max p ps } = cc in
    ap (λ (s : Span). cond shown w.point (cond above s.first s.last)) is

side-taken : (there : PointSide) (w : Wanted) (start row : ℕ) (span : Span) → Sees there start w.height row
    → point_by there w span ≡ cond (is_in_view w.height start row) w.point (cond (ltb row start) span.first span.last)
side-taken Within w start row span sees = sym (ap (λ b. cond b w.point (cond (ltb row start) span.first span.last)) (shown start w.height row sees.0 sees.1))
side-taken Above w start row span low =
    sym (ap (λ b. cond b w.point (cond (ltb row start) span.first span.last)) (hidden-above start w.height row low) ∙ ap (λ b. cond b span.first span.last) (lt-ltb row start low))
side-taken Below w start row span high =
    sym (ap (λ b. cond b w.point (cond (ltb row start) span.first span.last)) (hidden-below start w.height row high) ∙ ap (λ b. cond b span.first span.last) (le-ltb row start (omega (arith, high))))

pub point-spanned : (there : PointSide) (w : Wanted) (start row : ℕ) (view : List EntryMeaning) (span : Span) → Some span ≡ span_of (first_positions view)
    → Sees there start w.height row → point_by there w span ≡ forced_point w start row view
point-spanned there w start row view span e sees =
    side-taken there w start row span sees ∙ forced-some w (first_positions view) span (is_in_view w.height start row) (ltb row start) e

-- At most as many elements wait behind the last break of a row as it has columns.
use Rattle.std.proofs.Common.{◌≡◌, ℕ, ◌+◌, ◌-◌, ◌≤◌, ◌||◌, nat_le, Bool, true, false, List, [], ◌∷◌, ◌++◌, length, Option, None, Some, refl, ap, sym, ◌∙◌, arith, length-append}
use Rattle.std.proofs.Math.Bool.{or-false}
use Rattle.std.proofs.lemmas.Bool.{and_parts, or_parts}
use Rattle.std.proofs.lemmas.Bool.Decides.{nat_tests}
use Rattle.rd_base.specs.Elements.{IsSound, IsSoundLook}
use Rattle.rd_base.specs.declared.element.Element.{Element}
use Rattle.rd_base.specs.declared.element.Extent.{Extent}
use Rattle.rd_base.specs.declared.element.Extent.TheVariants.{Fixed, Tab, Column}
use Rattle.rd_base.specs.declared.element.Look.{Look}
use Rattle.rd_base.specs.declared.element.Look.TheVariants.{Blank, Glyph as Shown, RowEnd, LineEnd}
use Rattle.rd_rows.specs.declared.draft.Break.{Break}
use Rattle.rd_rows.specs.declared.spot.Placed.{Placed}
use Rattle.rd_rows.specs.declared.spot.Spot.{Spot}
use Rattle.rd_rows.specs.Cuts.{is_break, has_break, up_to_break}
use Rattle.rd_rows.specs.Makers.{IsNoted, reached, is_empty, has_room}
use Rattle.rd_rows.specs.Placing.{width_at, is_blank, ends_row, fits, columns_in}
use Rattle.rd_rows.specs.Shapes.{ShapeValues, room, is_word, truncates}
use Rattle.rd_rows.proofs.Fill.{reached-append, break-more, break-here, break-before}

-- The elements behind a row's last break are no more than the columns taken so far and, where rows are not truncated, than the row's
-- columns before the last.
pub record AreFewBehind (shape : ShapeValues) (spot : Spot) (xs : List Element) : Type 0 where
  pub taken : has_break xs ≡ true → length xs - length (up_to_break xs) ≤ spot.used
  pub fit : has_break xs ≡ true → truncates shape ≡ false → length xs - length (up_to_break xs) ≤ room shape

pub few-none : (shape : ShapeValues) (spot : Spot) → AreFewBehind shape spot []
few-none shape spot = record { taken = λ h. omega arith; fit = λ h k. omega arith }

-- what is no break and ends no row is a glyph, of a column or more
glyph-columns : (look : Look) (extent : Extent) (column : ℕ) → IsSoundLook look extent → is_break look ≡ false → ends_row look ≡ false → (is_blank look ≡ false) × (1 ≤ width_at extent column)
glyph-columns Blank extent column sound break on = cc
glyph-columns RowEnd extent column sound break on = cc
glyph-columns LineEnd extent column sound break on = cc
glyph-columns (Shown g) (Fixed n) column sound break on = (refl, sound.1)
glyph-columns (Shown g) (Tab t) column sound break on = absurd sound
glyph-columns (Shown g) (Column n) column sound break on = absurd sound

some-break : (xs : List Element) → has_break xs ≡ true → is_empty xs ≡ false
some-break [] h = cc
some-break (x ∷ xs) h = refl

fits-columns : (shape : ShapeValues) (spot : Spot) (e : Element) → fits shape spot e ≡ true → ends_row e.look ≡ false → truncates shape ≡ false → is_blank e.look ≡ false
    → spot.used + width_at e.extent spot.column ≤ room shape
fits-columns shape spot e fit on whole seen =
    let test : (nat_le (spot.used + width_at e.extent spot.column) (room shape) || false) ≡ true = rw (on, whole, seen) at fit in
    let within : nat_le (spot.used + width_at e.extent spot.column) (room shape) ≡ true = sym (or-false (nat_le (spot.used + width_at e.extent spot.column) (room shape))) ∙ test in
    grind (arith, nat_tests)

few-by : (b : Bool) (shape : ShapeValues) (start : Spot) (xs : List Element) (e : Element) → is_break e.look ≡ b → IsSound e → has_room shape xs (reached shape start xs) e ≡ true → ends_row e.look ≡ false
    → AreFewBehind shape (reached shape start xs) xs → AreFewBehind shape (reached shape start (xs ++ e ∷ [])) (xs ++ e ∷ [])
few-by true shape start xs e break sound fit on few =
    let none = ap length (break-here xs e break) in
    record { taken = λ h. omega (arith, none); fit = λ h k. omega (arith, none) }
few-by false shape start xs e break sound fit on few =
    let spot = reached shape start xs in
    let glyph = glyph-columns e.look e.extent spot.column sound break on in
    let some = glyph.1 in
    let size = length-append xs (e ∷ []) in
    let kept = ap length (break-before xs e break) in
    let next : (reached shape start (xs ++ e ∷ [])).used ≡ spot.used + columns_in shape spot e = ap (λ (s : Spot). s.used) (reached-append shape start xs (e ∷ [])) in
    let columns : columns_in shape spot e ≡ width_at e.extent spot.column = rw glyph.0 refl in
    let before : has_break (xs ++ e ∷ []) ≡ true → has_break xs ≡ true
    = λ h. sym (or-false (has_break xs)) ∙ (ap (λ (b : Bool). has_break xs || b) (sym break) ∙ (sym (break-more xs e) ∙ h)) in
    record {
      taken = λ h. let least = few.taken (before h) in omega (arith, some, size, kept, next, columns, least);
      fit = λ h whole.
          let least = few.taken (before h) in
          let empty = some-break xs (before h) in
          let fitting : fits shape spot e ≡ true = rw empty at fit in
          let within = fits-columns shape spot e fitting on whole glyph.0 in
          omega (arith, some, size, kept, least, within);
    }

-- a row's elements are few with one element more
pub few-more : (shape : ShapeValues) (start : Spot) (xs : List Element) (e : Element) → IsSound e → has_room shape xs (reached shape start xs) e ≡ true → ends_row e.look ≡ false
    → AreFewBehind shape (reached shape start xs) xs → AreFewBehind shape (reached shape start (xs ++ e ∷ [])) (xs ++ e ∷ [])
few-more shape start xs e sound fit on few = few-by (is_break e.look) shape start xs e refl sound fit on few

noted-few : (shape : ShapeValues) (lead : List Placed) (start spot : Spot) (xs : List Element) (b : Option Break) (waiting : List Element) → IsNoted shape lead start xs b waiting → AreFewBehind shape spot xs
    → truncates shape ≡ false → length waiting ≤ room shape
noted-few shape lead start spot xs None waiting noted few whole = let none = ap length noted.1 in omega (arith, none)
noted-few shape lead start spot xs (Some b) waiting noted few whole =
    let parts = ap length noted.2 ∙ length-append (up_to_break xs) waiting in
    let least = few.fit (and_parts (is_word shape.wrap) (has_break xs) noted.0).1 whole in
    omega (arith, parts, least)

-- where an element has no room, those that wait before it are fewer than the row's columns
pub few-wait : (shape : ShapeValues) (lead : List Placed) (start spot : Spot) (xs : List Element) (b : Option Break) (waiting : List Element) (e : Element) → IsNoted shape lead start xs b waiting
    → AreFewBehind shape spot xs → has_room shape xs spot e ≡ false → length waiting ≤ room shape
few-wait shape lead start spot xs b waiting e noted few unfit =
    let tests = (or_parts _ _ (or_parts _ _ (or_parts (is_empty xs) _ unfit).1).0).0 in
    noted-few shape lead start spot xs b waiting noted few (or_parts (ends_row e.look) (truncates shape) tests).1

-- Glyphs as Unicode measures them.
use Rattle.std.proofs.Common.{rules, ◌≡◌, ℕ, ◌+◌, ◌<◌, ◌≤◌, Bool, true, false, IsTrue, List, length, get_or, set, Option, Some, None, All, IfSome, refl, sym, subst, ap, ◌∙◌, ◌⊎◌, inl, inr, arith, tests, unwrap_or, replicate, length-set, get_or-set_same, get_or-set_other}
use Rattle.std.specs.Prelude.{◌-◌, ◌/◌, ◌%◌, ◌≢◌, ◌==◌, nat_le, nat_lt, ◌&&◌, if◌then◌else◌}
use Rattle.std.specs.List.{AllByRecursion, list_all}
use Rattle.std.proofs.lemmas.Bool.{and_parts, eqb-true}
use Rattle.std.proofs.lemmas.Bool.Decides.{nat_tests}
use Rattle.std.proofs.lemmas.List.Sums.{AllPass-from_list_all}
use Rattle.std.proofs.lemmas.List.Elements.{All-from_recursion}
use Rattle.unicode_width.specs.Width.{char_width, alone}
use Rattle.rd_ucd.specs.declared.spans.Pair.{Pair}
use Rattle.rd_ucd.specs.Lookup.{mirror_in}
use Rattle.rd_base.specs.Chars.{is_scalar, is_code}
use Rattle.rd_base.specs.Cells.{single, with_mark}
use Rattle.rd_base.specs.Glyphs.{IsMeasured, IsMeasuredLook}
use Rattle.rd_base.proofs.Choices.{either}
use Rattle.rd_base.proofs.Equals.{glyphs-same}
use Rattle.rd_base.proofs.Rows.{single-measured, printable-measured, zeros}
use Rattle.rd_base.specs.declared.cell.Glyph.{Glyph}
use Rattle.rd_base.specs.declared.class.Class.{Class}
use Rattle.rd_objects.specs.Widths.{columns}
use Rattle.rd_objects.proofs.Widths.{few-columns}
use Rattle.rd_objects.specs.Tables.{TableValue, IsTable, HoldsGlyph, is_glyph_character, is_slot_glyph, slot_of}
use Rattle.rd_objects.specs.declared.run.Slot.{Slot}
use Rattle.rd_objects.specs.declared.run.Slot.TheVariants.{Truncation, Continuation, Escape, Control, Border}
use Rattle.rd_base.specs.declared.element.Look.{Look}
use Rattle.rd_base.specs.declared.element.Look.TheVariants as look
use Rattle.rd_glyphs.specs.declared.shown.Shown.{Shown}
use Rattle.rd_glyphs.specs.declared.shown.Shown.TheVariants.{Caret, Octal, Space, Mark, Itself}
use Rattle.rd_glyphs.specs.MarkRoles.{mark_role_by, IsMeasuredRole}
use Rattle.rd_glyphs.specs.Characters.{is_control, is_formatting, caret, shown_as, mirror_code, mirrored, on_blank, narrow, digit, looks_of, slot_or}

-- what is put for a character has the columns that Unicode gives it: a letter is printable, a mark takes none, and a character
-- that is shown itself takes 1 to 3
abbrev pub ShowsMeasured : Shown → Type 0
ShowsMeasured (Caret letter) = (32 ≤ letter) × (letter < 127)
ShowsMeasured (Mark code) = IsTrue (is_scalar code) × (char_width false code ≡ Some 0)
ShowsMeasured (Itself code width) = IsTrue (is_scalar code) × (char_width false code ≡ Some width) × (1 ≤ width) × (width ≤ 3)
ShowsMeasured s = Unit {0}

-- the columns of a number that has some are those of a scalar value
pub own-columns : (code width : ℕ) → columns code ≡ width → 1 ≤ width → char_width false code ≡ Some width
own-columns code width own some = by-cases (is_scalar code) (char_width false code) width own some where
  by-cases : (scalar : Bool) (found : Option ℕ) (width : ℕ) → unwrap_or (if scalar then found else None) 0 ≡ width → 1 ≤ width → found ≡ Some width
  by-cases true (Some n) width own some = ap Some own
  by-cases true None width own some = absurd (omega arith)
  by-cases false found width own some = absurd (omega arith)

zero-mark : (marks : List ℕ) → list_all (λ mark. mark == 0) marks ≡ true → (k : ℕ) → k < length marks → get_or marks k 0 ≡ 0
zero-mark marks zeros k inside = grind (arith, nat_tests, AllPass-from_list_all (λ mark. mark == 0) marks zeros k 0 inside)

character-with : (g : Glyph) → length g.marks ≡ 6 → is_glyph_character g ≡ true → IsMeasured g
character-with g places is =
    let scalar : is_scalar g.base ≡ true = grind (arith, nat_tests) in
    let own : columns g.base ≡ g.width = grind (arith, nat_tests) in
    let some : 1 ≤ g.width = grind (arith, nat_tests) in
    let few : g.width ≤ 3 = grind (arith, nat_tests) in
    let none : 0 ≡ g.count = grind (arith, nat_tests) in
    let empty : list_all (λ mark. mark == 0) g.marks ≡ true = grind (arith, nat_tests) in
    let marks : replicate 6 0 ≡ g.marks = sym (zeros 6 g.marks places (λ k below. zero-mark g.marks empty k (rw places below))) in
    subst IsMeasured (glyphs-same g.base 0 g.width g.base g.count g.width (replicate 6 0) g.marks refl marks none refl)
    (single-measured g.base g.width (search (rules, tests)) (own-columns g.base g.width own some) some few)

-- a glyph character in its own columns
pub character-measured : (g : Glyph) → is_glyph_character g ≡ true → IsMeasured g
character-measured g is =
    let places : length g.marks ≡ 6 = grind (arith, nat_tests) in
    character-with g places is

-- a measured glyph takes one more mark
pub marked-measured : (g : Glyph) (code : ℕ) → IsMeasured g → g.count < 6 → IsTrue (is_scalar code) → char_width false code ≡ Some 0 → IsMeasured (with_mark g code)
marked-measured g code is room scalar none = record {
  scalar = is.scalar;
  columns = is.columns;
  some = is.some;
  few = is.few;
  places = length-set g.marks g.count code ∙ is.places;
  count = omega arith;
  marks = marks;
  rest = rest;
} where
  inside : g.count < length g.marks
  inside = rw is.places room

  marks : (k : ℕ) → k < g.count + 1 → IsTrue (is_scalar (get_or (set g.marks g.count code) k 0)) × (char_width false (get_or (set g.marks g.count code) k 0) ≡ Some 0)
  marks k p = by-place (nat_lt k g.count) refl where
    by-place : (before : Bool) → nat_lt k g.count ≡ before → IsTrue (is_scalar (get_or (set g.marks g.count code) k 0)) × (char_width false (get_or (set g.marks g.count code) k 0) ≡ Some 0)
    by-place true e =
        let below : k < g.count = grind (arith, nat_tests) in
        let other : k ≢ g.count = omega arith in
        rw (get_or-set_other g.marks g.count k code 0 other) (is.marks k below)
    by-place false e =
        let same : g.count ≡ k = grind (arith, nat_tests) in
        let last = get_or-set_same g.marks g.count code 0 inside in
        rw (sym same) (rw last (scalar, none))

  rest : (k : ℕ) → g.count + 1 ≤ k → k < 6 → get_or (set g.marks g.count code) k 0 ≡ 0
  rest k p q =
      let other : k ≢ g.count = omega arith in
      get_or-set_other g.marks g.count k code 0 other ∙ is.rest k (omega arith) q

-- a mark on a blank
pub on_blank-measured : (code : ℕ) → IsTrue (is_scalar code) → char_width false code ≡ Some 0 → IsMeasured (on_blank code)
on_blank-measured code scalar none = marked-measured (single 32 1) code (printable-measured 32 (omega arith) (omega arith)) (omega arith) scalar none

above-controls : (code : ℕ) → 160 ≤ code → char_width false code ≡ Some (alone false code).0
unfolding char_width
above-controls code high = grind (arith, nat_tests)

-- the columns of a scalar value that has some
of-scalar : (code width : ℕ) → is_scalar code ≡ true → char_width false code ≡ Some width → columns code ≡ width
of-scalar code width scalar found = rw (scalar, found)

-- a character of no columns that is no control and no byte is a mark
pub mark-columns : (code : ℕ) → IsTrue (is_code code) → 32 ≤ code → (code ≡ 127 → ⊥) → code < 1114112 → (159 < code) ⊎ (code < 128) → columns code ≡ 0 → IsTrue (is_scalar code) × (char_width false code ≡ Some 0)
mark-columns code is low other small free none =
    let scalar : is_scalar code ≡ true = grind (arith, nat_tests) in
    (scalar, by-place free scalar) where
      by-place : (159 < code) ⊎ (code < 128) → is_scalar code ≡ true → char_width false code ≡ Some 0
      by-place (inl high) scalar =
          let found = above-controls code (omega arith) in
          found ∙ ap Some (sym (of-scalar code (alone false code).0 scalar found) ∙ none)
      by-place (inr ascii) scalar =
          let one = of-scalar code 1 scalar (printable-measured code low (omega arith)).columns in
          absurd (omega arith)

caret-printable : (code : ℕ) → is_control code ≡ true → (32 ≤ caret code) × (caret code < 127)
caret-printable code control = (grind (arith, nat_tests), grind (arith, nat_tests))

itself-measured : (code : ℕ) → columns code ≢ 0 → ShowsMeasured (Itself code (columns code))
itself-measured code some = (own (is_scalar code) some, own-columns code (columns code) refl (omega arith), omega arith, few-columns code) where
  own : (scalar : Bool) → unwrap_or (if scalar then char_width false code else None) 0 ≢ 0 → scalar ≡ true
  own true some = refl
  own false some = absurd (some refl)

pub mirror-measured : (code width : ℕ) (other : Option ℕ) → ShowsMeasured (Itself code width) → ShowsMeasured (Itself (mirror_code code width other) width)
mirror-measured code width None s = s
mirror-measured code width (Some other) s = by-width (columns other == width) refl where
  by-width : (same : Bool) → (columns other == width) ≡ same → ShowsMeasured (Itself (if same then other else code) width)
  by-width false e = s
  by-width true e =
      let own : columns other ≡ width = grind (arith, nat_tests) in
      subst (λ (n : ℕ). ShowsMeasured (Itself other n)) own (itself-measured other (omega (arith, s.2)))

-- what holds of a character that is shown itself and of its mirror holds of what is mirrored
pub mirrored-keeps : (P : Shown → Type 0) → ((code width : ℕ) (other : Option ℕ) → P (Itself code width) → P (Itself (mirror_code code width other) width))
    → (pairs : List Pair) (odd : Bool) (shown : Shown) → P shown → P (mirrored pairs odd shown)
mirrored-keeps P mirror pairs odd (Itself code width) s =
    either (λ (n : ℕ). P (Itself n width)) odd (mirror_code code width (mirror_in pairs code)) code (mirror code width (mirror_in pairs code) s) s
mirrored-keeps P mirror pairs odd (Caret letter) s = s
mirrored-keeps P mirror pairs odd (Octal byte) s = s
mirrored-keeps P mirror pairs odd Space s = s
mirrored-keeps P mirror pairs odd (Mark code) s = s

-- what holds of each way in which a character can be shown holds of the one that its tests choose
pub shown-by : (P : Shown → Type 0) (control arrow raw high formatting none : Bool) (code : ℕ) → (control ≡ true → P (Caret (caret code))) → ((byte : ℕ) → P (Octal byte)) → P Space
    → (control ≡ false → raw ≡ false → high ≡ false → none ≡ true → P (Mark code)) → (none ≡ false → P (Itself code (columns code)))
    → P (if control then (if arrow then Caret (caret code) else Octal code) else if raw then Octal (code - 1114112) else if high then Octal code else if formatting then Space else if none then Mark code else Itself code (columns code))
shown-by P true true raw high formatting none code letter octal space mark itself = letter refl
shown-by P true false raw high formatting none code letter octal space mark itself = octal code
shown-by P false arrow true high formatting none code letter octal space mark itself = octal (code - 1114112)
shown-by P false arrow false true formatting none code letter octal space mark itself = octal code
shown-by P false arrow false false true none code letter octal space mark itself = space
shown-by P false arrow false false false true code letter octal space mark itself = mark refl refl refl refl
shown-by P false arrow false false false false code letter octal space mark itself = itself refl

-- how a character is shown
pub shown_as-measured : (arrow : Bool) (class : Class) (code : ℕ) → IsTrue (is_code code) → ShowsMeasured (shown_as arrow class code)
shown_as-measured arrow class code is =
    shown-by ShowsMeasured (is_control code) arrow (nat_le 1114112 code) (nat_le 128 code && nat_le code 159) (is_formatting class code) (columns code == 0) code
    (caret-printable code) (λ byte. tt) tt
    (λ control raw high none.
    let low : 32 ≤ code = grind (arith, nat_tests) in
    let other : code ≡ 127 → ⊥ = grind (arith, nat_tests) in
    let small : code < 1114112 = grind (arith, nat_tests) in
    let free : (159 < code) ⊎ (code < 128) = grind (arith, nat_tests) in
    mark-columns code is low other small free (grind (arith, nat_tests)))
    (λ none. itself-measured code (grind (arith, nat_tests)))

-- P holds of each look that is put for a character, where it holds of the look of each case
module _ (P : Look → Type 0) (S : Shown → Type 0) (letters : (letter : ℕ) → S (Caret letter) → P (narrow letter))
    (digits : (n : ℕ) → P (digit n)) (blank : P look.Blank) (marks : (code : ℕ) → S (Mark code) → P (look.Glyph (on_blank code)))
    (own : (code width : ℕ) → S (Itself code width) → P (look.Glyph (single code width)))
    (escape control : Glyph) (e : P (look.Glyph escape)) (c : P (look.Glyph control)) where
  pub looks_of-each : (shown : Shown) → S shown → AllByRecursion P (looks_of escape control shown)
  looks_of-each (Caret letter) s = (c, (letters letter s, tt))
  looks_of-each (Octal byte) s = (e, (digits (byte / 64), (digits (byte / 8), (digits byte, tt))))
  looks_of-each Space s = (blank, tt)
  looks_of-each (Mark code) s = (marks code s, tt)
  looks_of-each (Itself code width) s = (own code width s, tt)

-- what is put for a character is as Unicode measures it
pub looks-measured : (escape control : Glyph) (shown : Shown) → IsMeasured escape → IsMeasured control → ShowsMeasured shown
    → All IsMeasuredLook (looks_of escape control shown)
looks-measured escape control shown e c s =
    All-from_recursion IsMeasuredLook (looks_of escape control shown)
    (looks_of-each IsMeasuredLook ShowsMeasured (λ letter s. printable-measured letter s.0 s.1)
    (λ n. printable-measured (48 + n % 8) (omega arith) (omega arith)) tt (λ code s. on_blank-measured code s.0 s.1)
    (λ code width s. single-measured code width s.0 s.1 s.2 s.3) escape control e c shown s)

-- a slot's glyph of one column, or the one that stands for it
pub record IsSlot (g : Glyph) : Type 0 where
  pub measured : IsMeasured g
  pub width : g.width ≡ 1

slot-or : (slot : Option Glyph) (code : ℕ) → HoldsGlyph is_slot_glyph slot → 32 ≤ code → code < 127 → IsSlot (unwrap_or slot (single code 1))
slot-or None code is low high = record { measured = printable-measured code low high; width = refl }
slot-or (Some g) code is low high =
    let parts = and_parts (is_glyph_character g) (g.width == 1) (is g refl) in
    record { measured = character-measured g parts.0; width = eqb-true g.width 1 parts.1 }

-- what a table has in a slot, or the printable character that stands for it
pub slot_or-is : (slot : Slot) (table : Option TableValue) (code : ℕ) → IfSome table (λ t. IsTable t) → 32 ≤ code → code < 127 → IsSlot (slot_or slot table code)
slot_or-is slot None code is low high = record { measured = printable-measured code low high; width = refl }
slot_or-is slot (Some t) code is low high = slot-or (slot_of slot t) code (held slot) low high where
  held : (slot : Slot) → HoldsGlyph is_slot_glyph (slot_of slot t)
  held Truncation = is.truncation
  held Continuation = is.continuation
  held Escape = is.escape
  held Control = is.control
  held Border = is.border

-- how a character that no table shows stands towards marks
pub role-measured : (shown : Shown) → ShowsMeasured shown → IsMeasuredRole (mark_role_by None shown)
role-measured (Caret letter) s = tt
role-measured (Octal byte) s = tt
role-measured Space s = tt
role-measured (Mark code) s = s
role-measured (Itself code width) s = single-measured code width s.0 s.1 s.2 s.3

-- The cells of a plain line stand whole, and there are as many as it has columns.
use Rattle.std.proofs.Common.{◌≡◌, ℕ, ◌-◌, ◌≤◌, ◌<◌, Bool, true, false, IsTrue, List, [], ◌∷◌, ◌++◌, length, length-append, map, Option, Some, None, IfSome, All, refl, subst, arith}
use Rattle.std.specs.Prelude.{nat_lt, nat_le, if◌then◌else◌}
use Rattle.std.specs.List.{AllByRecursion}
use Rattle.std.proofs.lemmas.Bool.Decides.{nat_tests}
use Rattle.std.proofs.lemmas.List.{length-replicate}
use Rattle.std.proofs.lemmas.List.Elements.{All-append, All-nil, All-from_recursion, recursion_from_All}
use Rattle.rd_base.specs.Chars.{is_code}
use Rattle.rd_base.specs.Cells.{single, HasColours, IsColoured, with_mark}
use Rattle.rd_base.specs.Faces.{Attributes}
use Rattle.rd_base.specs.Glyphs.{blanks, IsMeasured, IsMeasuredLook, IsRowAfter}
use Rattle.rd_base.proofs.Choices.{if-value}
use Rattle.rd_base.proofs.Colours.{blanks-coloured, look-coloured}
use Rattle.rd_base.proofs.Rows.{behind-whole, blanks-whole, glyph-whole, look_length, printable-measured}
use Rattle.rd_base.specs.declared.cell.Glyph.{Glyph}
use Rattle.rd_base.specs.declared.cell.Cell.{Cell}
use Rattle.rd_base.specs.declared.cell.Cell.TheVariants.{Blank}
use Rattle.rd_base.specs.declared.element.Look.{Look}
use Rattle.rd_base.specs.declared.element.Look.TheVariants as look
use Rattle.rd_ucd.specs.declared.spans.Span.{Span}
use Rattle.rd_ucd.specs.Lookup.{class_of}
use Rattle.rd_glyphs.specs.declared.mark_role.MarkRole.{MarkRole}
use Rattle.rd_glyphs.specs.declared.mark_role.MarkRole.TheVariants as role
use Rattle.rd_glyphs.specs.declared.shown.Shown.{Shown}
use Rattle.rd_glyphs.specs.declared.shown.Shown.TheVariants.{Caret, Octal, Space, Mark, Itself}
use Rattle.rd_glyphs.specs.Characters.{PartValues, TakesColumns, ShowsColumns, shown_as, look_columns, glyphs_for}
use Rattle.rd_glyphs.specs.Held.{HoldsColumns}
use Rattle.rd_glyphs.specs.MarkRoles.{mark_role_by, mark_role_of, base_of, mark_of, IsMark, IsMeasuredRole}
use Rattle.rd_glyphs.specs.Marks.{marked_glyph}
use Rattle.rd_glyphs.specs.Lines.{PlainPart, shown_part, plain_part, plain_joins, looks_of_parts, plain_looks, cells_of, fitted, plain_cells}
use Rattle.rd_glyphs.proofs.Elements.{shown_as-columns, looks-columns}
use Rattle.rd_glyphs.proofs.Joined.{Grows, marks_joined-all}
use Rattle.rd_glyphs.proofs.Measures.{ShowsMeasured, marked-measured, on_blank-measured, shown_as-measured, looks-measured, role-measured}

-- ---- cells

look-whole : (face : Attributes) (l : Look) → IsMeasuredLook l → IsRowAfter 0 (cells_of face l)
look-whole face (look.Glyph g) measured = glyph-whole g.width g face measured refl
look-whole face other measured = blanks-whole (look_columns other) face

-- what holds of blanks, and still holds with a look's cells put in front, holds of looks fitted into so many columns
fitted-has : (P : ℕ → List Cell → Type 0) (Q : Look → Type 0) (face : Attributes)
    → ((room : ℕ) (l : Look) (cells : List Cell) → Q l → look_columns l ≤ room → P (room - look_columns l) cells → P room (cells_of face l ++ cells))
    → ((room : ℕ) → P room (blanks room face)) → (room : ℕ) (ls : List Look) → AllByRecursion Q ls → P room (fitted face room ls)
fitted-has P Q face join none room [] each = none room
fitted-has P Q face join none room (l ∷ ls) each = by-room (nat_le (look_columns l) room) refl (fitted-has P Q face join none (room - look_columns l) ls each.1) where
  by-room : (fits : Bool) → nat_le (look_columns l) room ≡ fits → P (room - look_columns l) (fitted face (room - look_columns l) ls)
      → P room (if fits then cells_of face l ++ fitted face (room - look_columns l) ls else blanks room face)
  by-room true e rest = join room l (fitted face (room - look_columns l) ls) each.0 (grind (arith, nat_tests)) rest
  by-room false e rest = none room

-- ---- looks

-- what holds of a base, and still where a mark joins it, holds of what the two make
marked_glyph-has : (P : Glyph → Type 0) (M : ℕ → Type 0) → ((g : Glyph) (code : ℕ) → P g → M code → g.count < 6 → P (with_mark g code))
    → (base : Option Glyph) (mark : Option ℕ) → IfSome base P → IfSome mark M → IfSome (marked_glyph base mark) P
marked_glyph-has P M joins None mark b m = tt
marked_glyph-has P M joins (Some g) None b m = tt
marked_glyph-has P M joins (Some g) (Some code) b m = by-room (nat_lt g.count 6) refl where
  by-room : (room : Bool) → nat_lt g.count 6 ≡ room → IfSome (if room then Some (with_mark g code) else None) P
  by-room true e = joins g code b m (grind (arith, nat_tests))
  by-room false e = tt

pub marked_glyph-measured : (base : Option Glyph) (mark : Option ℕ) → IfSome base (λ g. IsMeasured g) → IfSome mark (λ code. IsMark code) → IfSome (marked_glyph base mark) (λ glyph. IsMeasured glyph)
marked_glyph-measured = marked_glyph-has IsMeasured IsMark (λ g code is mark room. marked-measured g code is room mark.0 mark.1)

pub base-measured : (j : MarkRole) → IsMeasuredRole j → IfSome (base_of j) (λ g. IsMeasured g)
base-measured role.Empty is = tt
base-measured role.Alone is = tt
base-measured (role.Base g) is = is
base-measured (role.Mark code) is = on_blank-measured code is.0 is.1

pub mark-measured : (j : MarkRole) → IsMeasuredRole j → IfSome (mark_of j) (λ code. IsMark code)
mark-measured role.Empty is = tt
mark-measured role.Alone is = tt
mark-measured (role.Base g) is = tt
mark-measured (role.Mark code) is = is

-- how any character stands towards marks
pub mark_role_of-measured : (parts : PartValues) (ch : ℕ) → IsTrue (is_code ch) → IsMeasuredRole (mark_role_of parts ch)
mark_role_of-measured parts ch code = by-entry (glyphs_for parts.table ch) where
  by-entry : (entry : Option (List Glyph)) → IsMeasuredRole (mark_role_by entry (shown_as parts.settings.ctl_arrow (class_of parts.classes ch) ch))
  by-entry None = role-measured _ (shown_as-measured parts.settings.ctl_arrow (class_of parts.classes ch) ch code)
  by-entry (Some []) = tt
  by-entry (Some (g ∷ gs)) = tt

-- ---- the parts of a plain line

-- what is put for a part is of one kind, and how it stands towards marks of another
record Has (P : Look → Type 0) (M : MarkRole → Type 0) (part : PlainPart) : Type 0 where
  looks : AllByRecursion P part.looks
  role : M part.role

-- the parts of characters are of these kinds, and so is a part that a mark joins
module _ (P : Look → Type 0) (M : MarkRole → Type 0) (classes : List Span) (C : ℕ → Type 0)
    (own : (c : ℕ) → C c → Has P M (plain_part classes c)) (base : (g : Glyph) → P (look.Glyph g) → M (role.Base g))
    (joins : (held next : MarkRole) → M held → M next → IfSome (marked_glyph (base_of held) (mark_of next)) (λ g. P (look.Glyph g))) where
  looks-all : (parts : List PlainPart) → AllByRecursion (Has P M) parts → All P (looks_of_parts parts)
  looks-all [] each = All-nil P
  looks-all (part ∷ parts) each =
      All-append P part.looks (looks_of_parts parts) (All-from_recursion P part.looks each.0.looks) (looks-all parts each.1)

  parts-have : (text : List ℕ) → AllByRecursion C text → AllByRecursion (Has P M) (map (plain_part classes) text)
  parts-have [] each = tt
  parts-have (c ∷ cs) each = (own c each.0, parts-have cs each.1)

  grows : Grows plain_joins (Has P M)
  grows held next glyph h n e =
      let found = subst (λ (m : Option Glyph). IfSome m (λ g. P (look.Glyph g))) e (joins held.role next.role h.role n.role) in
      record { looks = (found, tt); role = base glyph found }

  -- what is put for a plain line is of the one kind
  plain_looks-all : (text : List ℕ) → AllByRecursion C text → AllByRecursion P (plain_looks classes text)
  plain_looks-all text each =
      recursion_from_All P (plain_looks classes text)
      (looks-all _ (marks_joined-all plain_joins (Has P M) grows (map (plain_part classes) text) (parts-have text each)))

part-measured : (shown : Shown) → ShowsMeasured shown → Has IsMeasuredLook IsMeasuredRole (shown_part shown)
part-measured shown is = record {
  looks = recursion_from_All IsMeasuredLook (shown_part shown).looks
      (looks-measured (single 92 1) (single 94 1) shown (printable-measured 92 (omega arith) (omega arith)) (printable-measured 94 (omega arith) (omega arith)) is);
  role = role-measured shown is;
}

plain_looks-measured : (classes : List Span) (text : List ℕ) → AllByRecursion (λ c. IsTrue (is_code c)) text
    → AllByRecursion IsMeasuredLook (plain_looks classes text)
plain_looks-measured classes =
    plain_looks-all IsMeasuredLook IsMeasuredRole classes (λ c. IsTrue (is_code c))
    (λ c code. part-measured (shown_as true (class_of classes c) c) (shown_as-measured true (class_of classes c) c code)) (λ g is. is)
    (λ held next h n. marked_glyph-measured (base_of held) (mark_of next) (base-measured held h) (mark-measured next n))

-- each glyph of a plain line stands whole
pub plain-whole : (classes : List Span) (face : Attributes) (width : ℕ) (text : List ℕ) → All (λ c. IsTrue (is_code c)) text → IsRowAfter 0 (plain_cells classes face width text)
plain-whole classes face width text codes =
    fitted-has (λ room. IsRowAfter 0) IsMeasuredLook face (λ room l cells measured fits row. behind-whole 0 (cells_of face l) cells (look-whole face l measured) row)
    (λ room. blanks-whole room face) width (plain_looks classes text)
    (plain_looks-measured classes text (recursion_from_All (λ (c : ℕ). IsTrue (is_code c)) text codes))

-- ---- columns

abbrev HasNarrowBase : MarkRole → Type 0
HasNarrowBase j = HoldsColumns (base_of j)

part-narrow : (shown : Shown) → ShowsColumns shown → Has TakesColumns HasNarrowBase (shown_part shown)
part-narrow shown is = record { looks = looks-columns (single 92 1) (single 94 1) shown refl refl is; role = base shown is } where
  base : (shown : Shown) → ShowsColumns shown → HasNarrowBase (shown_part shown).role
  base (Caret letter) is = tt
  base (Octal byte) is = tt
  base Space is = tt
  base (Mark code) is = (omega arith, omega arith)
  base (Itself code width) is = is

plain_looks-narrow : (classes : List Span) (text : List ℕ) → AllByRecursion TakesColumns (plain_looks classes text)
plain_looks-narrow classes text =
    plain_looks-all TakesColumns HasNarrowBase classes (λ c. Unit {0})
    (λ c any. part-narrow (shown_as true (class_of classes c) c) (shown_as-columns true (class_of classes c) c)) (λ g takes. takes)
    (λ held next h n. marked_glyph-has (λ g. TakesColumns (look.Glyph g)) (λ code. Unit {0}) (λ g code takes any room. takes)
    (base_of held) (mark_of next) h (if-value (λ code. Unit {0}) (mark_of next) (λ code e. tt)))
    text (recursion_from_All (λ c. Unit {0}) text (λ k d inside. tt))

-- a plain line has exactly its columns
pub plain-length : (classes : List Span) (face : Attributes) (width : ℕ) (text : List ℕ) → length (plain_cells classes face width text) ≡ width
plain-length classes face width text =
    fitted-has (λ room cells. length cells ≡ room) TakesColumns face (λ room l cells takes fits rest.
    let sum = length-append (cells_of face l) cells in
    let first = look_length (look_columns l) l face takes.0 in
    omega arith)
    (λ room. length-replicate room (Blank face)) width (plain_looks classes text) (plain_looks-narrow classes text)

-- ---- colours

-- the colours of a plain line are those of its face
pub plain-coloured : (classes : List Span) (face : Attributes) (width : ℕ) (text : List ℕ) → HasColours face → All IsColoured (plain_cells classes face width text)
plain-coloured classes face width text c =
    fitted-has (λ room. All IsColoured) (λ l. Unit {0}) face (λ room l cells one fits rest. All-append IsColoured (cells_of face l) cells (look-coloured (look_columns l) l face c) rest)
    (λ room. blanks-coloured room face c) width (plain_looks classes text) (recursion_from_All (λ l. Unit {0}) (plain_looks classes text) (λ k d inside. tt))

-- How characters stand towards marks.
use Rattle.std.specs.Prelude.{◌≡◌, ℕ, Bool, true, false, IsTrue, List, [], ◌∷◌, Option, None, Some, IfSome}
use Rattle.unicode_width.specs.Width.{char_width}
use Rattle.rd_base.specs.Chars.{is_scalar, is_code}
use Rattle.rd_base.specs.Cells.{single}
use Rattle.rd_base.specs.Glyphs.{IsMeasured}
use Rattle.rd_base.specs.declared.cell.Glyph.{Glyph}
use Rattle.rd_ucd.specs.Lookup.{class_of}
use Rattle.rd_glyphs.specs.declared.mark_role.MarkRole.{MarkRole}
use Rattle.rd_glyphs.specs.declared.mark_role.MarkRole.TheVariants as role
use Rattle.rd_glyphs.specs.declared.shown.Shown.{Shown}
use Rattle.rd_glyphs.specs.declared.shown.Shown.TheVariants.{Mark, Itself}
use Rattle.rd_glyphs.specs.Characters.{PartValues, shown_as, glyphs_for, on_blank}
use Rattle.rd_glyphs.specs.Marks.{marked_glyph}

-- an entry that shows nothing
abbrev pub is_empty_entry : Option (List Glyph) → Bool
is_empty_entry (Some []) = true
is_empty_entry entry = false

-- a character that a table shows joins no mark, nor is it one
abbrev pub mark_role_by : Option (List Glyph) → Shown → MarkRole
mark_role_by (Some []) shown = role.Empty
mark_role_by (Some (g ∷ gs)) shown = role.Alone
mark_role_by None (Itself code width) = role.Base (single code width)
mark_role_by None (Mark code) = role.Mark code
mark_role_by None shown = role.Alone

-- how a character stands towards marks
abbrev pub mark_role_of : PartValues → ℕ → MarkRole
mark_role_of parts ch = mark_role_by (glyphs_for parts.table ch) (shown_as parts.settings.ctl_arrow (class_of parts.classes ch) ch)

-- the glyph that marks may join: the character, or the blank that it stands on as a mark
abbrev pub base_of : MarkRole → Option Glyph
base_of (role.Base g) = Some g
base_of (role.Mark code) = Some (on_blank code)
base_of j = None

-- the mark that a character is
abbrev pub mark_of : MarkRole → Option ℕ
mark_of (role.Mark code) = Some code
mark_of j = None

-- a mark: a scalar value of no columns
abbrev pub IsMark : ℕ → Type 0
IsMark code = IsTrue (is_scalar code) × (char_width false code ≡ Some 0)

-- what joins has the columns that Unicode gives it
abbrev pub IsMeasuredRole : MarkRole → Type 0
IsMeasuredRole (role.Base g) = IsMeasured g
IsMeasuredRole (role.Mark code) = IsMark code
IsMeasuredRole j = Unit {0}

-- what is known of marks: the glyphs that they join are measured before and after, and so is a mark on a blank
pub record MarkLaws : Type 0 where
  pub role : (parts : PartValues) (ch : ℕ) → IsTrue (is_code ch) → IsMeasuredRole (mark_role_of parts ch)
  pub base : (j : MarkRole) → IsMeasuredRole j → IfSome (base_of j) (λ g. IsMeasured g)
  pub mark : (j : MarkRole) → IsMeasuredRole j → IfSome (mark_of j) (λ code. IsMark code)
  pub blank : (code : ℕ) → IsMark code → IsMeasured (on_blank code)
  pub joined : (base : Option Glyph) (mark : Option ℕ) → IfSome base (λ g. IsMeasured g) → IfSome mark (λ code. IsMark code) → IfSome (marked_glyph base mark) (λ g. IsMeasured g)

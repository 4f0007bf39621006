-- A plain line of text, such as a mode line.
use Rattle.std.specs.Prelude.{ℕ, ◌-◌, nat_le, true, if◌then◌else◌, List, [], ◌∷◌, ◌++◌, map, None}
use Rattle.std.specs.List.{flat_map}
use Rattle.rd_base.specs.Faces.{Attributes}
use Rattle.rd_base.specs.Cells.{single}
use Rattle.rd_base.specs.Glyphs.{blanks, look_cells}
use Rattle.rd_base.specs.Lists.{total}
use Rattle.rd_base.specs.declared.cell.Cell.{Cell}
use Rattle.rd_base.specs.declared.element.Look.{Look}
use Rattle.rd_base.specs.declared.element.Look.TheVariants as look
use Rattle.rd_ucd.specs.declared.spans.Span.{Span}
use Rattle.rd_ucd.specs.Lookup.{class_of}
use Rattle.rd_glyphs.specs.declared.mark_role.MarkRole.{MarkRole}
use Rattle.rd_glyphs.specs.declared.mark_role.MarkRole.TheVariants.{Base}
use Rattle.rd_glyphs.specs.declared.shown.Shown.{Shown}
use Rattle.rd_glyphs.specs.Characters.{shown_as, looks_of, look_columns}
use Rattle.rd_glyphs.specs.MarkRoles.{mark_role_by, base_of, mark_of}
use Rattle.rd_glyphs.specs.Marks.{Joins, marks_joined}

-- a part of a plain line: what is put for it, and how it stands towards marks
pub record PlainPart : Type 0 where
  pub looks : List Look
  pub role : MarkRole

-- what is put for a character that is shown so, with a backslash for escapes and a circumflex for controls
abbrev pub shown_part : Shown → PlainPart
shown_part s = record { looks = looks_of (single 92 1) (single 94 1) s; role = mark_role_by None s }

-- a character: no table shows it, and a control character is a circumflex and a letter
abbrev pub plain_part : List Span → ℕ → PlainPart
plain_part classes c = shown_part (shown_as true (class_of classes c) c)

-- a part that a mark joins becomes the longer glyph
abbrev pub plain_joins : Joins PlainPart
plain_joins = record {
  base = λ part. base_of part.role;
  mark = λ part. mark_of part.role;
  grown = λ held glyph next. record { looks = look.Glyph glyph ∷ []; role = Base glyph };
}

abbrev pub part_looks : PlainPart → List Look
part_looks part = part.looks

-- what is put for parts whose marks have joined
abbrev pub looks_of_parts : List PlainPart → List Look
looks_of_parts parts = flat_map part_looks parts

-- what is put for a text
abbrev pub plain_looks : List Span → List ℕ → List Look
plain_looks classes text = looks_of_parts (marks_joined plain_joins (map (plain_part classes) text))

-- the cells of a look
abbrev pub cells_of : Attributes → Look → List Cell
cells_of face l = look_cells (look_columns l) l face

-- looks in so many columns, while they fit, and blanks in the rest
abbrev pub fitted : Attributes → ℕ → List Look → List Cell
fitted face room [] = blanks room face
fitted face room (l ∷ ls) =
    if nat_le (look_columns l) room
    then cells_of face l ++ fitted face (room - look_columns l) ls
    else blanks room face

-- the cells of a plain line
abbrev pub plain_cells : List Span → Attributes → ℕ → List ℕ → List Cell
plain_cells classes face width text = fitted face width (plain_looks classes text)

-- how many columns looks take, one behind the other
abbrev pub columns_of_looks : List Look → ℕ
columns_of_looks ls = total look_columns ls

-- how many columns a text takes as a plain line that is not cut
abbrev pub plain_columns : List Span → List ℕ → ℕ
plain_columns classes text = columns_of_looks (plain_looks classes text)

-- How the code reads a plain line: character by character, with one glyph held for the marks behind it. These are its steps, and no
-- part of what a plain line is.
use Rattle.std.specs.Prelude.{ℕ, Bool, true, false, if◌then◌else◌, List, [], ◌∷◌, ◌++◌, Option, None, Some, IfSome, unwrap_or}
use Rattle.rd_base.specs.Cells.{single, takes_mark}
use Rattle.rd_base.specs.declared.cell.Glyph.{Glyph}
use Rattle.rd_base.specs.declared.element.Look.{Look}
use Rattle.rd_base.specs.declared.element.Look.TheVariants as look
use Rattle.rd_ucd.specs.declared.spans.Span.{Span}
use Rattle.rd_ucd.specs.Lookup.{class_of}
use Rattle.rd_glyphs.specs.declared.shown.Shown.{Shown}
use Rattle.rd_glyphs.specs.declared.shown.Shown.TheVariants.{Mark, Itself}
use Rattle.rd_glyphs.specs.Characters.{TakesColumns, shown_as, looks_of, on_blank}
use Rattle.rd_glyphs.specs.Marks.{marked_glyph}
use Rattle.rd_glyphs.specs.Lines.{columns_of_looks}

-- the look of a glyph that is held
abbrev pub held_looks : Option Glyph → List Look
held_looks None = []
held_looks (Some g) = look.Glyph g ∷ []

-- whether a glyph is held that a mark may join
abbrev pub has_room : Option Glyph → Bool
has_room None = false
has_room (Some g) = takes_mark g

-- a glyph that is held takes 1 to 3 columns
abbrev pub HoldsColumns : Option Glyph → Type 0
HoldsColumns held = IfSome held (λ g. TakesColumns (look.Glyph g))

-- what comes out when a character is read behind a glyph that is held for its marks: nothing where the character joins it
abbrev pub given : Option Glyph → Shown → List Look
given held (Mark code) = if has_room held then [] else held_looks held
given held (Itself code width) = held_looks held
given held s = held_looks held ++ looks_of (single 92 1) (single 94 1) s

-- the glyph that takes a mark: the one that is held, where the mark joins it, and else a blank
abbrev pub joined_held : Option Glyph → ℕ → Glyph
joined_held held code = unwrap_or (marked_glyph held (Some code)) (on_blank code)

-- the glyph that is held behind a character; behind a control, an escape or a blank of its own nothing is held
abbrev pub held_after : Option Glyph → Shown → Option Glyph
held_after held (Mark code) = Some (joined_held held code)
held_after held (Itself code width) = Some (single code width)
held_after held s = None

-- what is put for a text, behind a glyph that is held
abbrev pub looks_from : List Span → Option Glyph → List ℕ → List Look
looks_from classes held [] = held_looks held
looks_from classes held (c ∷ cs) =
    let s = shown_as true (class_of classes c) c in
    given held s ++ looks_from classes (held_after held s) cs

-- the columns of a glyph that is held
abbrev pub held_columns : Option Glyph → ℕ
held_columns held = columns_of_looks (held_looks held)

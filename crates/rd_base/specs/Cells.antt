-- Glyphs and cells, and the words that tell cells apart.
use Rattle.std.specs.Prelude.{◌≡◌, ℕ, ◌+◌, ◌*◌, ◌%◌, ◌<◌, ◌≤◌, Bool, if◌then◌else◌, List, [], ◌∷◌, length, All, replicate, slice_index, slice_index_or, slice_set, nat_lt, Option, None, Some}
use Rattle.std.specs.Int.{from_bool}
use Rattle.rd_base.specs.Faces.{Attributes}
use Rattle.rd_base.specs.declared.cell.TheConstants.{CODES}
use Rattle.rd_base.specs.declared.cell.Glyph.{Glyph}
use Rattle.rd_base.specs.declared.cell.Cell.{Cell}
use Rattle.rd_base.specs.declared.cell.Cell.TheVariants.{Blank, First, Rest}
use Rattle.rd_base.specs.declared.limits.TheConstants.{COLOURS, GLYPH_MARKS}

-- a character without marks
abbrev pub single : ℕ → ℕ → Glyph
single base width = record { base = base; marks = replicate GLYPH_MARKS 0; count = 0; width = width }

-- a glyph with one more mark
abbrev pub with_mark : Glyph → ℕ → Glyph
with_mark g code = record g { marks = slice_set g.marks g.count code; count = g.count + 1 }

-- whether one more mark may join a glyph: it has fewer than six
abbrev pub takes_mark : Glyph → Bool
takes_mark g = nat_lt g.count GLYPH_MARKS

abbrev pub joined_glyph : Glyph → ℕ → Option Glyph
joined_glyph g code = if takes_mark g then Some (with_mark g code) else None

-- the face of a cell behind one of this face: a later column of a glyph has that of its first
abbrev pub face_after : Attributes → Cell → Attributes
face_after before (Blank face) = face
face_after before (First g face) = face
face_after before Rest = before

-- a face as a number below 2^11
abbrev pub face_number : Attributes → ℕ
face_number f = f.fg % 16 + 16 * (f.bg % 16 + 16 * (from_bool f.bold + 2 * (from_bool f.underline + 2 * from_bool f.inverse)))

-- three codes as one number, 21 bits each
abbrev pub packed : ℕ → ℕ → ℕ → ℕ
packed a b c = a % CODES + CODES * (b % CODES + CODES * (c % CODES))

-- a glyph's numbers but its marks behind the first
abbrev pub glyph_number : Glyph → ℕ
glyph_number g = g.count % 8 + 8 * (g.width % 4 + 4 * packed g.base (slice_index g.marks 0) 0)

-- the words of a cell
abbrev pub words_of : Cell → List ℕ
words_of Rest = 0 ∷ 0 ∷ 0 ∷ []
words_of (Blank f) = (1 + 4 * face_number f) ∷ 0 ∷ 0 ∷ []
words_of (First g f) =
    (2 + 4 * (face_number f + 2048 * glyph_number g))
    ∷ packed (slice_index g.marks 1) (slice_index g.marks 2) (slice_index g.marks 3)
    ∷ packed (slice_index g.marks 4) (slice_index g.marks 5) 0
    ∷ []

-- a row, counted from 0
abbrev pub row_at : {A : Type 0} → List (List A) → ℕ → List A
row_at rows row = slice_index_or rows row []

-- a face's colours are in their range
pub record HasColours (f : Attributes) : Type 0 where
  pub fg : f.fg ≤ COLOURS
  pub bg : f.bg ≤ COLOURS

-- a cell whose colours are in their range
abbrev pub IsColoured : Cell → Type 0
IsColoured Rest = Unit {0}
IsColoured (Blank f) = HasColours f
IsColoured (First g f) = HasColours f

-- rows of cells whose colours are in their range
abbrev pub AreColoured : List (List Cell) → Type 0
AreColoured rows = All (λ row. All IsColoured row) rows

-- a glyph whose codes are below 2^21, with at most 6 marks and 3 columns
pub record IsSmallGlyph (g : Glyph) : Type 0 where
  pub base : g.base < CODES
  pub marks : All (λ mark. mark < CODES) g.marks
  pub places : length g.marks ≡ GLYPH_MARKS
  pub count : g.count ≤ GLYPH_MARKS
  pub width : g.width ≤ 3

-- a cell whose glyph, where it has one, is small, as `IsSmallGlyph` says it, and whose colours are in their range
abbrev pub IsSmall : Cell → Type 0
IsSmall Rest = Unit {0}
IsSmall (Blank f) = HasColours f
IsSmall (First g f) = IsSmallGlyph g × HasColours f

-- no other small cell has these words
abbrev pub AreOnlyOf : Cell → List ℕ → Type 0
AreOnlyOf cell words = (other : Cell) → IsSmall cell → IsSmall other → words_of other ≡ words → other ≡ cell

-- The runs of faces of a row.
use Rattle.std.specs.Prelude.{ℕ, zero, suc, ◌+◌, ◌-◌, ◌==◌, nat_lt, nat_le, Bool, not, if◌then◌else◌, ◌&&◌, List, [], ◌∷◌, ◌++◌, length, take, drop, Option, None, Some, option_and_then, slice_index_or}
use Rattle.rd_base.specs.Faces.{Attributes, plain}
use Rattle.rd_base.specs.declared.cell.Cell.{Cell}
use Rattle.rd_base.specs.declared.cell.Cell.TheVariants.{Blank, First, Rest}
use Rattle.rd_term.specs.Pens.{is_rendition, dressed}
use Rattle.rd_term.specs.Pictures.{blank}
use Rattle.rd_update.specs.Updates.{is_rest}
use Rattle.rd_base.specs.Cuts.{cut}
use Rattle.rd_audit.specs.Cuts.{pieces}
use Rattle.rd_audit.specs.Numbers.{number_of, pair_of}
use Rattle.rd_audit.specs.declared.run.SaidFaceRun.{SaidFaceRun}

-- the place of a face's number among the others: bold, underline, inverse, the colour of the character, the colour behind it
abbrev pub place_of : ℕ → ℕ
place_of n = if nat_lt n 30 then n else if nat_lt n 40 then 30 else 40

-- whether a number of a face may stand behind one of this place
abbrev pub comes_behind : ℕ → ℕ → Bool
comes_behind place n = is_rendition n && nat_lt place (place_of n)

-- the place of a number that may stand behind one of this place, and a face with it
abbrev pub with_number : ℕ → Attributes → List ℕ → Option (ℕ × Attributes)
with_number place face text = option_and_then (λ n. if comes_behind place n then Some (place_of n, dressed n face) else None) (number_of text)

-- a face with these numbers besides those that it has up to this place, where they stand in their order
abbrev pub face_from : ℕ → Attributes → List (List ℕ) → Option Attributes
face_from place face [] = Some face
face_from place face (text ∷ texts) = option_and_then (λ next. face_from next.0 next.1 texts) (with_number place face text)

-- the face that bytes say: its numbers, at least one, between semicolons
abbrev pub face_of : List ℕ → Option Attributes
face_of bytes = face_from 0 plain (pieces 59 bytes)

abbrev pub run_by : Option (ℕ × ℕ) → Option Attributes → Option SaidFaceRun
run_by (Some span) (Some face) = Some (record { first = span.0; last = span.1; face = face })
run_by span face = None

-- `A-B:CODES`, where `A` is the first column and `B` the last
abbrev pub face_run : List ℕ → Option SaidFaceRun
face_run bytes = option_and_then (λ parts. run_by (pair_of 45 parts.0) (face_of parts.1)) (cut 58 bytes)

-- whether no character goes on in a column from the one before
abbrev pub is_edge : List Cell → ℕ → Bool
is_edge cells column = not (is_rest (slice_index_or cells column blank))

-- whether a run stands in a row, from this column on, and cuts no character
abbrev pub fits : ℕ → List Cell → SaidFaceRun → Bool
fits from cells run =
    nat_le from run.first && nat_le run.first run.last && nat_lt run.last (length cells) && is_edge cells run.first && is_edge cells (run.last + 1)

abbrev pub with_face : Attributes → Cell → Cell
with_face face (Blank f) = Blank face
with_face face (First g f) = First g face
with_face face Rest = Rest

-- the first cells with a face, as many as the number says
abbrev pub faced : ℕ → Attributes → List Cell → List Cell
faced zero face cells = cells
faced (suc n) face [] = []
faced (suc n) face (cell ∷ cells) = with_face face cell ∷ faced n face cells

-- cells with a run's face
abbrev pub painted_by : SaidFaceRun → List Cell → List Cell
painted_by run cells = take run.first cells ++ faced (run.last + 1 - run.first) run.face (drop run.first cells)

-- the next run, which stands from this column on: the column behind it, and the cells with it
abbrev pub with_face_run : ℕ → List Cell → List ℕ → Option (ℕ × List Cell)
with_face_run from cells text = option_and_then (λ run. if fits from cells run then Some (run.last + 1, painted_by run cells) else None) (face_run text)

-- cells with these runs, which stand from this column on, in order
abbrev pub painted : ℕ → List Cell → List (List ℕ) → Option (List Cell)
painted from cells [] = Some cells
painted from cells (text ∷ texts) = option_and_then (λ next. painted next.0 next.1 texts) (with_face_run from cells text)

-- cells with the runs of a text, each behind a space, which stand from the first column on, in order
abbrev pub runs_over : List ℕ → List Cell → Option (List Cell)
runs_over [] cells = Some cells
runs_over (b ∷ bs) cells = if b == 32 then painted 0 cells (pieces 32 bs) else None

-- A mode line: the values and the other characters put together as one text, which is one plain line.
use Rattle.std.specs.Prelude.{ℕ, ◌-◌, List, [], ◌∷◌, ◌++◌, replicate, true}
use Rattle.rd_base.specs.Faces.{Attributes, plain}
use Rattle.rd_base.specs.declared.cell.Cell.{Cell}
use Rattle.rd_ucd.specs.declared.spans.Span.{Span}
use Rattle.rd_glyphs.specs.Lines.{plain_cells, plain_columns}
use Rattle.rd_modeline.specs.declared.piece.Field.{Field}
use Rattle.rd_modeline.specs.declared.piece.Field.TheVariants.{Line}
use Rattle.rd_modeline.specs.declared.piece.Piece.{Piece}
use Rattle.rd_modeline.specs.declared.piece.Piece.TheVariants.{Literal, Value, Dashes}
use Rattle.rd_modeline.specs.Values.{FactValues, value_text}

-- the face of a mode line
abbrev pub inverse : Attributes
inverse = record plain { inverse = true }

-- a value's text with blanks: before a line's number, and behind any other value
abbrev pub filled : Field → ℕ → List ℕ → List ℕ
filled Line blanks text = replicate blanks 32 ++ text
filled field blanks text = text ++ replicate blanks 32

-- a value in at least so many columns, counted as a plain line of its own
abbrev pub value_in : List Span → ℕ → Field → List ℕ → List ℕ
value_in classes width field text = filled field (width - plain_columns classes text) text

-- the text of a mode line of so many columns: the dashes reach to its end, so that nothing behind them shows
abbrev pub line_text : List Span → FactValues → ℕ → List Piece → List ℕ
line_text classes f columns [] = []
line_text classes f columns (Literal c ∷ ps) = c ∷ line_text classes f columns ps
line_text classes f columns (Value field width ∷ ps) = value_in classes width field (value_text f field) ++ line_text classes f columns ps
line_text classes f columns (Dashes ∷ ps) = replicate columns 45

-- the cells of a mode line
abbrev pub line_cells : List Span → FactValues → ℕ → List Piece → List Cell
line_cells classes f columns ps = plain_cells classes inverse columns (line_text classes f columns ps)

-- Rows in which each glyph stands whole.
use Rattle.std.specs.Prelude.{◌≡◌, ℕ, ◌≤◌, List, [], ◌∷◌, length}
use Rattle.std.specs.List.{AllByRecursion}
use Rattle.rd_base.specs.Elements.{AreSound}
use Rattle.rd_base.specs.Glyphs.{IsMeasured, IsMeasuredLook, AreMeasured, IsRowAfter}
use Rattle.rd_base.specs.declared.cell.Glyph.{Glyph}
use Rattle.rd_base.specs.declared.element.Element.{Element}
use Rattle.rd_base.specs.declared.limits.TheConstants.{FRAME_COLUMNS}
use Rattle.rd_rows.specs.declared.cutting.Cutting.{Cutting}
use Rattle.rd_rows.specs.declared.spot.Placed.{Placed}
use Rattle.rd_rows.specs.Leads.{HasLeads}
use Rattle.rd_rows.specs.Prefixes.{IsPrefix}
use Rattle.rd_rows.specs.Rows.{RowMeaning, LaidRow, cutting_of, rows_of}
use Rattle.rd_rows.specs.Shapes.{ShapeValues}

-- a row of the window's columns, in which each glyph stands in all of its own
pub record IsWhole (width : ℕ) (row : RowMeaning) : Type 0 where
  pub wide : length row.cells ≡ width
  pub whole : IsRowAfter 0 row.cells

abbrev pub AreWhole : ℕ → List LaidRow → Type 0
AreWhole width [] = Unit {0}
AreWhole width (r ∷ rs) = IsWhole width r.row × AreWhole width rs

-- a glyph of one column, as Unicode measures it
pub record IsMark (g : Glyph) : Type 0 where
  pub measured : IsMeasured g
  pub columns : g.width ≡ 1

-- a prefix whose glyphs are measured
pub record IsMeasuredPrefix (es : List Element) : Type 0 where
  pub prefix : IsPrefix es
  pub measured : AreMeasured es

-- elements in their columns, whose glyphs are measured
abbrev pub ArePlacedMeasured : List Placed → Type 0
ArePlacedMeasured ps = AllByRecursion (λ (p : Placed). IsMeasuredLook p.element.look) ps

-- a cutting of a window of at least two columns, whose prefixes and marks are measured
pub record IsMeasuredCutting (c : Cutting) : Type 0 where
  pub columns : 2 ≤ c.shape.width
  pub leads : HasLeads c
  pub first : ArePlacedMeasured c.first
  pub wrap : ArePlacedMeasured c.wrap
  pub truncation : IsMark c.truncation
  pub continuation : IsMark c.continuation

-- in a window of at least two columns and at most a frame's, measured prefixes and marks of one column give a measured cutting; and a
-- measured cutting cuts sound and measured elements into rows of the window's columns, in which each glyph stands whole
pub record WholeLaws : Type 0 where
  pub cutting : (shape : ShapeValues) (base : ℕ) (first wrap : List Element) (truncation continuation : Glyph)
      → 2 ≤ shape.width → shape.width ≤ FRAME_COLUMNS → IsMeasuredPrefix first → IsMeasuredPrefix wrap → IsMark truncation → IsMark continuation
      → IsMeasuredCutting (cutting_of shape base first wrap truncation continuation)
  pub rows : (c : Cutting) (es : List Element) → IsMeasuredCutting c → AreSound es → AreMeasured es → AreWhole c.shape.width (rows_of c es)

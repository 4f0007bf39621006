-- In the rows of measured elements each glyph stands whole.
use Rattle.std.proofs.Common.{◌≡◌, ℕ, suc, ◌+◌, ◌-◌, ◌≤◌, ◌&&◌, min, max, nat_le, Bool, true, false, List, [], ◌∷◌, ◌++◌, flat_map, refl, ap, arith, replicate}
use Rattle.std.specs.List.{AllByRecursion}
use Rattle.rd_base.specs.Elements.{IsSound, AreSound}
use Rattle.rd_base.specs.Faces.{Attributes, plain}
use Rattle.rd_base.specs.Glyphs.{look_cells, IsMeasuredLook, AreMeasured, IsRowAfter}
use Rattle.rd_base.specs.declared.cell.Cell.{Cell}
use Rattle.rd_base.specs.declared.cell.Cell.TheVariants.{Blank, First, Rest}
use Rattle.rd_base.specs.declared.cell.Glyph.{Glyph}
use Rattle.rd_base.specs.declared.element.Element.{Element}
use Rattle.rd_base.specs.declared.element.Look.{Look}
use Rattle.rd_base.specs.declared.element.Look.TheVariants.{Glyph as Shown}
use Rattle.rd_base.proofs.Lists.{all-front, all-back, each-append}
use Rattle.rd_base.proofs.Rows.{by-cells, behind-whole, blanks-whole, rests-whole, glyph-whole}
use Rattle.rd_rows.specs.declared.cutting.Cutting.{Cutting}
use Rattle.rd_rows.specs.declared.spot.Placed.{Placed}
use Rattle.rd_rows.specs.Mirrors.{mirror_image, leading_rests}
use Rattle.rd_rows.specs.Placing.{next_row, columns_of}
use Rattle.rd_rows.specs.Prefixes.{FillsColumns, StandFrom}
use Rattle.rd_rows.specs.Rows.{seen, seen_in, first_seen, front_mark, filled, last_cell, from_edge, row_of, rows_of, cutting_of}
use Rattle.rd_rows.specs.Shapes.{ShapeValues, room}
use Rattle.rd_rows.specs.Whole.{IsWhole, AreWhole, IsMark, IsMeasuredPrefix, ArePlacedMeasured, IsMeasuredCutting}
use Rattle.rd_rows.proofs.Fitting.{cutting-leads}
use Rattle.rd_rows.proofs.Marks.{mark-whole, row-has}
use Rattle.rd_rows.proofs.Mirroring.{front-length, row-length}
use Rattle.rd_rows.proofs.Placings.{fitted-each, placed-each}
use Rattle.rd_rows.proofs.Splits.{placed_in, over-rows}
use Rattle.rd_rows.proofs.Stands.{stand-append, stand-placed, room-length}

cells-whole : (look : Look) (columns : ℕ) (face : Attributes) → FillsColumns look columns → IsMeasuredLook look → IsRowAfter 0 (look_cells columns look face)
cells-whole (Shown g) columns face fills measured = glyph-whole columns g face measured fills.0
cells-whole other columns face fills measured = blanks-whole columns face

seen-whole : (b : Bool) (from to : ℕ) (p : Placed) → (nat_le from p.start && nat_le (p.start + p.columns) to) ≡ b → FillsColumns p.element.look p.columns → IsMeasuredLook p.element.look
    → IsRowAfter 0 (seen from to p)
seen-whole true from to p h fills measured = rw h (cells-whole p.element.look p.columns p.element.face fills measured)
seen-whole false from to p h fills measured = rw h (blanks-whole (min to (p.start + p.columns) - max from p.start) p.element.face)

each-whole : (from to a b : ℕ) (ps : List Placed) → StandFrom a ps b → ArePlacedMeasured ps → AllByRecursion (λ p. IsRowAfter 0 (seen from to p)) ps
each-whole from to a b [] stand measured = tt
each-whole from to a b (p ∷ ps) stand measured = (seen-whole _ from to p refl stand.1 measured.0, each-whole from to (a + p.columns) b ps stand.2 measured.1)

-- the mirror image

mirror-whole : (due : ℕ) (cells : List Cell) → IsRowAfter due cells → IsRowAfter 0 (mirror_image cells) × (leading_rests cells ≡ due)
mirror-whole = by-cells (λ due cells. IsRowAfter 0 (mirror_image cells) × (leading_rests cells ≡ due)) (tt, refl)
    (λ f cells so. (behind-whole 0 (mirror_image cells) (Blank f ∷ replicate (leading_rests cells) Rest) so.0 (rw so.1 tt), refl))
    (λ g f cells good row so. (
      behind-whole 0 (mirror_image cells) (First g f ∷ replicate (leading_rests cells) Rest) so.0 (rw so.1 (good, rests-whole (g.width - 1))),
      refl,
    ))
    (λ due cells so. (so.0, ap suc so.1))

edge-whole : (b : Bool) (cells : List Cell) → IsRowAfter 0 cells → IsRowAfter 0 (from_edge b cells)
edge-whole true cells h = (mirror-whole 0 cells h).0
edge-whole false cells h = h

-- the rows

row-whole : (c : Cutting) (used : ℕ) (continued : Bool) (ps : List Placed) → IsMeasuredCutting c → StandFrom 0 ps used → ArePlacedMeasured ps → IsWhole c.shape.width (row_of c used continued ps)
row-whole c used continued ps m stand measured =
    let r = room c.shape in
    let columns = m.columns in
    let cells = filled r (front_mark c used ++ flat_map (seen_in c.shape) ps) ++ last_cell c used continued ∷ [] in
    let all = row-has (IsRowAfter 0) (behind-whole 0) tt (λ n. blanks-whole n plain) c (mark-whole c.truncation m.truncation) (mark-whole c.continuation m.continuation)
    used continued ps (each-whole (first_seen c.shape) (c.shape.hscroll + r) 0 used ps stand measured) in
    let short = front-length c used (flat_map (seen_in c.shape) ps) (omega (arith, columns)) (room-length c.shape used ps stand) in
    let size = row-length c used continued ps (mirror-whole 0 cells all).1 in
    record { wide = omega (arith, columns, short, size); whole = edge-whole c.reversed cells all }

-- a prefix with which a measured row can begin
record IsMeasuredLead (lead : List Placed) : Type 0 where
  stand : StandFrom 0 lead (columns_of lead)
  measured : ArePlacedMeasured lead

pub whole-line : (c : Cutting) (es : List Element) → IsMeasuredCutting c → AreSound es → AreMeasured es → AreWhole c.shape.width (rows_of c es)
whole-line c es m =
    over-rows c IsMeasuredLead (λ lead spot ys rows. AreSound ys → AreMeasured ys → AreWhole c.shape.width rows)
    (record { stand = m.leads.first.stand; measured = m.first }) (record { stand = m.leads.wrap.stand; measured = m.wrap }) (λ lead spot sound measured. tt) (λ n lead spot xs rest marked ended one lines later sound measured.
    let start = next_row (columns_of lead) spot in
    let ps = placed_in c lead spot xs in (
      row-whole c _ marked (lead ++ ps) m
          (stand-append 0 (columns_of lead) _ lead ps one.stand (stand-placed c.shape start xs (all-front IsSound xs rest sound)))
          (each-append _ lead ps one.measured (placed-each (λ y. IsMeasuredLook y.look) c.shape start xs (all-front (λ y. IsMeasuredLook y.look) xs rest measured))),
      later (all-back IsSound xs rest sound) (all-back (λ y. IsMeasuredLook y.look) xs rest measured),
    ))
    es

pub cutting-measured : (shape : ShapeValues) (base : ℕ) (first wrap : List Element) (truncation continuation : Glyph) → 2 ≤ shape.width → shape.width ≤ 400
    → IsMeasuredPrefix first → IsMeasuredPrefix wrap → IsMark truncation → IsMark continuation → IsMeasuredCutting (cutting_of shape base first wrap truncation continuation)
cutting-measured shape base first wrap truncation continuation least few h k a b = record {
  columns = least;
  leads = cutting-leads shape base first wrap truncation continuation few h.prefix k.prefix;
  first = fitted-each (λ e. IsMeasuredLook e.look) _ 0 first h.measured;
  wrap = fitted-each (λ e. IsMeasuredLook e.look) _ 0 wrap k.measured;
  truncation = a;
  continuation = b;
}

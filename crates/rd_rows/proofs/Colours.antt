-- In the rows of elements whose colours are in their range each cell has such colours.
use Rattle.std.proofs.Common.{ℕ, zero, ◌+◌, ◌-◌, ◌&&◌, min, max, nat_le, Bool, true, false, List, [], ◌∷◌, ◌++◌, replicate, All, sym, subst, arith}
use Rattle.std.proofs.lemmas.List.Elements.{All-nil, All-cons, All-tail, All-append}
use Rattle.std.specs.List.{AllByRecursion}
use Rattle.rd_base.proofs.Choices.{either}
use Rattle.rd_base.specs.Cells.{HasColours, IsColoured}
use Rattle.rd_base.specs.Faces.{plain}
use Rattle.rd_base.specs.declared.cell.Cell.{Cell}
use Rattle.rd_base.specs.declared.cell.Cell.TheVariants.{Rest}
use Rattle.rd_base.specs.declared.cell.Glyph.{Glyph}
use Rattle.rd_base.specs.declared.element.Element.{Element}
use Rattle.rd_base.proofs.Colours.{plain-coloured, blanks-coloured, with-rests, look-coloured}
use Rattle.rd_base.proofs.Lists.{all-front, all-back, all-one, each-append, each-weaker}
use Rattle.rd_rows.specs.declared.cutting.Cutting.{Cutting}
use Rattle.rd_rows.specs.declared.spot.Placed.{Placed}
use Rattle.rd_rows.specs.Mirrors.{mirror_image, leading_rests}
use Rattle.rd_rows.specs.Placing.{next_row, columns_of}
use Rattle.rd_rows.specs.Rows.{seen, from_edge, row_of, rows_of, cutting_of}
use Rattle.rd_rows.specs.Shapes.{ShapeValues}
use Rattle.rd_rows.proofs.Marks.{mark-coloured, row-has}
use Rattle.rd_rows.proofs.Mirroring.{by-mirror}
use Rattle.rd_rows.proofs.Placings.{fitted-each, placed-each}
use Rattle.rd_rows.proofs.Splits.{placed_in, over-rows}

-- placed elements whose colours are in their range
abbrev HaveColours : List Placed → Type 0
HaveColours ps = AllByRecursion (λ (p : Placed). HasColours p.element.face) ps

-- the cells of an element

seen-coloured : (from to : ℕ) (p : Placed) → HasColours p.element.face → All IsColoured (seen from to p)
seen-coloured from to p h =
    either (All IsColoured) (nat_le from p.start && nat_le (p.start + p.columns) to) _ _
    (look-coloured p.columns p.element.look p.element.face h)
    (blanks-coloured (min to (p.start + p.columns) - max from p.start) p.element.face h)

-- the cells of a row

mirror-coloured : (cells : List Cell) → All IsColoured cells → All IsColoured (mirror_image cells)
mirror-coloured = by-mirror (λ cells. All IsColoured cells → All IsColoured (mirror_image cells)) (λ h. h)
    (λ cells so h. so (All-tail IsColoured Rest cells h)) (λ x cells image none so h.
    subst (All IsColoured) (sym image)
    (All-append IsColoured (mirror_image cells) (x ∷ replicate (leading_rests cells) Rest)
    (so (All-tail IsColoured x cells h)) (with-rests x (leading_rests cells) (h zero x (omega arith)))))

edge-coloured : (reversed : Bool) (cells : List Cell) → All IsColoured cells → All IsColoured (from_edge reversed cells)
edge-coloured true cells h = mirror-coloured cells h
edge-coloured false cells h = h

row-coloured : (c : Cutting) (used : ℕ) (continued : Bool) (ps : List Placed) → HaveColours ps → All IsColoured (row_of c used continued ps).cells
row-coloured c used continued ps h =
    edge-coloured c.reversed _
    (row-has (All IsColoured) (All-append IsColoured) (All-nil IsColoured) (λ n. blanks-coloured n plain plain-coloured) c
    (all-one IsColoured _ (mark-coloured c.truncation)) (all-one IsColoured _ (mark-coloured c.continuation)) used continued ps
    (each-weaker _ _ (seen-coloured _ _) ps h))

-- the rows of a line

pub line-coloured : (shape : ShapeValues) (base : ℕ) (first wrap : List Element) (truncation continuation : Glyph) (es : List Element)
    → All (λ e. HasColours e.face) first → All (λ e. HasColours e.face) wrap → All (λ e. HasColours e.face) es
    → All (λ r. All IsColoured r.row.cells) (rows_of (cutting_of shape base first wrap truncation continuation) es)
line-coloured shape base first wrap truncation continuation es h k =
    let c : Cutting = cutting_of shape base first wrap truncation continuation in
    over-rows c HaveColours (λ lead spot ys rows. All (λ e. HasColours e.face) ys → All (λ r. All IsColoured r.row.cells) rows)
    (fitted-each (λ e. HasColours e.face) _ 0 first h) (fitted-each (λ e. HasColours e.face) _ 0 wrap k) (λ lead spot all. All-nil (λ r. All IsColoured r.row.cells)) (λ n lead spot xs rest marked ended one lines later all.
    All-cons (λ r. All IsColoured r.row.cells) _ _
    (row-coloured c _ marked (lead ++ placed_in c lead spot xs)
    (each-append _ lead (placed_in c lead spot xs) one (placed-each (λ e. HasColours e.face) c.shape (next_row (columns_of lead) spot) xs (all-front (λ e. HasColours e.face) xs rest all))))
    (later (all-back (λ e. HasColours e.face) xs rest all)))
    es

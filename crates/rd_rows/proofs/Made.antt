-- A maker of rows, as the layer above knows it.
use Rattle.std.proofs.Common.{◌≡◌, ℕ, ◌+◌, ◌≤◌, Bool, true, false, List, [], ◌++◌, refl, sym, subst, arith}
use Rattle.rd_base.proofs.Rows.{columns-append}
use Rattle.rd_base.specs.Elements.{IsSound, AreSound, columns_at_most}
use Rattle.rd_base.specs.Glyphs.{AreMeasured}
use Rattle.rd_base.specs.declared.cell.Glyph.{Glyph}
use Rattle.rd_base.specs.declared.element.Element.{Element}
use Rattle.rd_rows.specs.declared.cutting.Cutting.{Cutting}
use Rattle.rd_rows.specs.Copies.{RowValues}
use Rattle.rd_rows.specs.Cuts.{ends_some}
use Rattle.rd_rows.specs.Leads.{HasLeads}
use Rattle.rd_rows.specs.Left.{MakerValues, IsLine}
use Rattle.rd_rows.specs.Lines.{rows_left, columns_held, is_finished, IsFresh, Asks, MakesRow}
use Rattle.rd_rows.specs.Makers.{IsMaking, Cuts}
use Rattle.rd_rows.specs.Placing.{line_start}
use Rattle.rd_rows.specs.Rows.{cutting_of}
use Rattle.rd_rows.specs.Shapes.{ShapeValues}
use Rattle.rd_rows.specs.Whole.{IsWhole, AreWhole, IsMark, IsMeasuredPrefix}
use Rattle.rd_rows.proofs.Ends.{on-line_ends, once-before}
use Rattle.std.proofs.lemmas.List.Elements.{All-append, All-nil}
use Rattle.rd_rows.proofs.Fill.{line-behind}
use Rattle.rd_rows.proofs.Wholeness.{cutting-measured, whole-line}

-- a maker that has made no row
pub fresh-is : (c : Cutting) (m : MakerValues) → m ≡ record { cutting = c; spot = line_start; continued = false; held = []; finished = false } → IsFresh c m
unfolding rows_left columns_held is_finished
fresh-is c m h = subst (IsFresh c) (sym h) (record { rows = λ es. refl; columns = refl; going_on = refl })

pub fresh-whole : (shape : ShapeValues) (base : ℕ) (first wrap : List Element) (truncation continuation : Glyph) (m : MakerValues) → IsFresh (cutting_of shape base first wrap truncation continuation) m
    → IsMeasuredPrefix first → IsMeasuredPrefix wrap → IsMark truncation → IsMark continuation → (es : List Element) → AreSound es → AreMeasured es → 2 ≤ shape.width → shape.width ≤ 400
    → AreWhole shape.width (rows_left m es)
fresh-whole shape base first wrap truncation continuation m fresh h k a b es sound measured least most =
    subst (AreWhole shape.width) (sym (fresh.rows es))
    (whole-line (cutting_of shape base first wrap truncation continuation) es (cutting-measured shape base first wrap truncation continuation least most h k a b) sound measured)

-- what a maker that has made no row holds
pub fresh-making : (c : Cutting) → HasLeads c → c.shape.width ≤ 400 → IsMaking (record { cutting = c; spot = line_start; continued = false; held = []; finished = false })
fresh-making c leads narrow = record { leads = leads; sound = All-nil IsSound; on = refl; narrow = narrow; few = omega arith }

pub finished-is : (m : MakerValues) (b : Bool) → b ≡ m.finished → is_finished m ≡ b
unfolding is_finished
finished-is m b h = sym h

-- the line that is asked of the elements that are left, with those that wait
pub asked : (m : MakerValues) (es : List Element) → IsMaking m → m.finished ≡ false → Asks m es → IsLine m.spot.column (m.held ++ es)
unfolding columns_held is_finished
asked m es making on asks =
    let line = asks on in
    let sum = columns-append m.held es in
    let few = line.columns in
    record { sound = All-append IsSound m.held es making.sound line.sound; end = once-before m.held es making.on line.end; columns = omega (arith, sum, few) }

-- a line that is left is what a maker asks
pub asks-again : (m : MakerValues) (es : List Element) → ends_some m.held ≡ false → (m.finished ≡ false → IsLine m.spot.column (m.held ++ es)) → Asks m es
unfolding columns_held is_finished
asks-again m es waits line on =
    line-behind m.spot.column (m.spot.column + columns_at_most m.held) m.held es (on-line_ends m.held waits) (omega arith) (line on)

pub finished-rows : (m : MakerValues) (es : List Element) → is_finished m ≡ true → rows_left m es ≡ []
unfolding rows_left is_finished
finished-rows m es h = rw h refl

pub makes-row : (m n : MakerValues) (es fs : List Element) (row : RowValues) (weight s t : ℕ) → Cuts m n es fs row weight → m.finished ≡ false → t ≡ s + weight → MakesRow row.shown m n es fs s t
unfolding rows_left is_finished
makes-row m n es fs row weight s t cuts on steps = record {
  steps_taken = weight;
  row_is = cuts.row_is;
  steps = steps;
  last = cuts.last;
  over = finished-rows n fs;
  going_on = on;
  asks = asks-again n fs cuts.on cuts.line;
}

pub makes-whole : (m n : MakerValues) (es fs : List Element) (row : RowValues) (weight : ℕ) → Cuts m n es fs row weight → (width : ℕ) → AreWhole width (rows_left m es) → IsWhole width row.shown × AreWhole width (rows_left n fs)
unfolding rows_left
makes-whole m n es fs row weight cuts width whole = subst (AreWhole width) cuts.row_is whole

-- The rows of a buffer's blocks are whole and coloured.
use Rattle.std.proofs.Common.{ℕ, List, [], ◌∷◌, Option, None, Some, All, refl, arith}
use Rattle.std.proofs.lemmas.List.Elements.{All-nil, All-cons, All-map}
use Rattle.rd_base.specs.Cells.{HasColours, IsColoured}
use Rattle.rd_base.specs.Elements.{AreSound}
use Rattle.rd_base.specs.Glyphs.{AreMeasured}
use Rattle.rd_objects.specs.Sound.{AreObjects}
use Rattle.rd_glyphs.specs.Characters.{AreSoundParts}
use Rattle.rd_items.specs.Pieces.{Scene}
use Rattle.rd_props.specs.Seen.{Seen}
use Rattle.rd_rows.specs.Laws.{seen_rows}
use Rattle.rd_rows.specs.Rows.{LaidRow, RowMeaning}
use Rattle.rd_rows.specs.Shapes.{ShapeValues, IsShape}
use Rattle.rd_rows.specs.Whole.{IsWhole, AreWhole, IsMeasuredPrefix, WholeLaws}
use Rattle.rd_stack.specs.Lines.{line_elements}
use Rattle.rd_stack.specs.Shown.{prefix, AreInside, AreOfOneRow, AreColoured}
use Rattle.rd_blocks.specs.Rows.{line_prefix_of, wrap_prefix_of, prefix_elements, line_prefix, wrap_prefix, truncation_mark, continuation_mark, block_cutting, block_rows}
use Rattle.rd_blocks.proofs.Prefixes.{is-prefix}
use Rattle.rd_blocks.proofs.Marks.{truncation-is, continuation-is}

-- ---- rows that are seen

pub all-whole : (width : ℕ) (rows : List LaidRow) → AreWhole width rows → All (IsWhole width) (seen_rows rows)
all-whole width [] whole = All-nil (IsWhole width)
all-whole width (r ∷ rs) whole = All-cons (IsWhole width) r.row (seen_rows rs) whole.0 (all-whole width rs whole.1)

pub all-coloured : (rows : List LaidRow) → All (λ r. All IsColoured r.row.cells) rows → All (λ r. All IsColoured r.cells) (seen_rows rows)
all-coloured rows all = All-map (λ (r : RowMeaning). All IsColoured r.cells) (λ (r : LaidRow). r.row) rows all

-- ---- prefixes

-- what the layer below promises of them
pub record PrefixLaws : Type 0 where
  pub inside : (scene : Scene) (base number : ℕ) → AreObjects scene.objects → AreSoundParts scene.parts → AreInside (prefix scene base number)
  pub row : (scene : Scene) (base number : ℕ) → AreOfOneRow (prefix scene base number)

module _ (laws : PrefixLaws) (rows : WholeLaws) (scene : Scene) (base : ℕ) (sound : AreObjects scene.objects) (parts : AreSoundParts scene.parts) where
  prefix-measured : (number : Option ℕ) → IsMeasuredPrefix (prefix_elements scene base number)
  prefix-measured None = record { prefix = record { sound = λ k d inside. absurd (omega arith); on = refl }; measured = λ k d inside. absurd (omega arith) }
  prefix-measured (Some number) =
      let es = prefix scene base number in
      let inside = laws.inside scene base number sound parts in
      record { prefix = is-prefix es inside (laws.row scene base number); measured = λ k d within. (inside k d within).measured }

  pub rows-whole : (shape : ShapeValues) (es : List Seen) → IsShape shape → AreSound (line_elements scene base es) → AreMeasured (line_elements scene base es) → AreWhole shape.width (block_rows scene base shape es)
  rows-whole shape es is fine measured =
      let least = is.least in
      rows.rows (block_cutting scene base shape es) (line_elements scene base es)
      (rows.cutting shape base (line_prefix scene base es) (wrap_prefix scene base es) (truncation_mark scene) (continuation_mark scene base) (omega (arith, least)) is.most
      (prefix-measured (line_prefix_of scene.parts.settings.line_prefix es)) (prefix-measured (wrap_prefix_of scene.parts.settings.wrap_prefix es))
      (truncation-is scene parts.table) (continuation-is scene base parts.table)) fine measured

-- the faces of a prefix
pub prefix-coloured : ((scene : Scene) (base number : ℕ) → AreObjects scene.objects → AreColoured (prefix scene base number)) → (scene : Scene) (base : ℕ) (number : Option ℕ) → AreObjects scene.objects
    → All (λ e. HasColours e.face) (prefix_elements scene base number)
prefix-coloured law scene base None sound = λ k d inside. absurd (omega arith)
prefix-coloured law scene base (Some number) sound = law scene base number sound

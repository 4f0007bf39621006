-- The rows of a block, by what is read of it and its base level.
use Rattle.std.specs.Prelude.{ℕ, ◌==◌, if◌then◌else◌, List, [], ◌∷◌, Option, None, Some}
use Rattle.std.specs.Option.{option_or}
use Rattle.rd_base.specs.declared.cell.Glyph.{Glyph}
use Rattle.rd_base.specs.declared.element.Element.{Element}
use Rattle.rd_objects.specs.declared.run.Slot.TheVariants.{Truncation, Continuation}
use Rattle.rd_glyphs.specs.Characters.{slot_or}
use Rattle.rd_props.specs.Seen.{Seen}
use Rattle.rd_items.specs.Pieces.{Scene}
use Rattle.rd_stack.specs.Shown.{prefix}
use Rattle.rd_stack.specs.Lines.{line_elements}
use Rattle.rd_rows.specs.declared.cutting.Cutting.{Cutting}
use Rattle.rd_rows.specs.Rows.{LaidRow, cutting_of, rows_of}
use Rattle.rd_rows.specs.Shapes.{ShapeValues}

-- the number of a prefix that is effective at a block's first position, else that of the setting
abbrev pub prefix_of : (Seen → Option ℕ) → Option ℕ → List Seen → Option ℕ
prefix_of own setting [] = setting
prefix_of own setting (e ∷ es) = option_or (own e) setting

abbrev pub line_prefix_of : Option ℕ → List Seen → Option ℕ
line_prefix_of = prefix_of (λ e. e.appearance.line_prefix)

abbrev pub wrap_prefix_of : Option ℕ → List Seen → Option ℕ
wrap_prefix_of = prefix_of (λ e. e.appearance.wrap_prefix)

-- the elements of the prefix of a number, and none without one
abbrev pub prefix_elements : Scene → ℕ → Option ℕ → List Element
prefix_elements scene base None = []
prefix_elements scene base (Some number) = prefix scene base number

abbrev pub line_prefix : Scene → ℕ → List Seen → List Element
line_prefix scene base es = prefix_elements scene base (line_prefix_of scene.parts.settings.line_prefix es)

abbrev pub wrap_prefix : Scene → ℕ → List Seen → List Element
wrap_prefix scene base es = prefix_elements scene base (wrap_prefix_of scene.parts.settings.wrap_prefix es)

-- the marks are the slots of the table, else a dollar sign for a truncated row, and for a continued row a backslash, or a slash
-- where it is read from the right edge
abbrev pub truncation_mark : Scene → Glyph
truncation_mark scene = slot_or Truncation scene.parts.table 36

abbrev pub continuation_mark : Scene → ℕ → Glyph
continuation_mark scene base = slot_or Continuation scene.parts.table (if base == 1 then 47 else 92)

-- how a block is cut into rows
abbrev pub block_cutting : Scene → ℕ → ShapeValues → List Seen → Cutting
block_cutting scene base shape es =
    cutting_of shape base (line_prefix scene base es) (wrap_prefix scene base es) (truncation_mark scene) (continuation_mark scene base)

-- the rows of a block: its line, cut by the shape
abbrev pub block_rows : Scene → ℕ → ShapeValues → List Seen → List LaidRow
block_rows scene base shape es = rows_of (block_cutting scene base shape es) (line_elements scene base es)

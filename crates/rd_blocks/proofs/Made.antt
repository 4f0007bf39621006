-- The rows that are made of a block's line.
use Rattle.std.proofs.Common.{◌≡◌, ◌<◌, ◌^◌, ℕ, true, List, refl, ap, ◌∙◌, arith}
use Rattle.std.specs.Option.{option_or}
use Rattle.rd_base.specs.Elements.{AreSound, columns_at_most, ends_once}
use Rattle.rd_base.specs.Settings.{SettingValues}
use Rattle.rd_base.specs.declared.cell.Glyph.{Glyph}
use Rattle.rd_base.specs.declared.element.Element.{Element}
use Rattle.rd_objects.specs.Things.{ObjectLists}
use Rattle.rd_items.specs.Pieces.{Scene}
use Rattle.rd_items.specs.Readings.{reading}
use Rattle.rd_props.specs.Appearance.{appearance_at}
use Rattle.rd_props.specs.Buffers.{BufferValue}
use Rattle.rd_props.specs.Seen.{Seen}
use Rattle.rd_props.specs.declared.appearance.Appearance.{Appearance}
use Rattle.rd_rows.specs.declared.cutting.Cutting.{Cutting}
use Rattle.rd_rows.specs.Left.{MakerValues}
use Rattle.rd_rows.specs.Lines.{IsFresh, Asks, rows_left}
use Rattle.rd_rows.specs.Rows.{cutting_of}
use Rattle.rd_rows.specs.Shapes.{ShapeValues}
use Rattle.rd_stack.specs.Lines.{line_elements}
use Rattle.rd_blocks.specs.Rows.{block_rows, line_prefix, wrap_prefix, prefix_elements, truncation_mark, continuation_mark}
use Rattle.rd_blocks.proofs.Prefixes.{prefix-at}

-- a maker that has made no row takes a whole line
pub takes-line : (c : Cutting) (m : MakerValues) (es : List Element) → IsFresh c m → AreSound es → columns_at_most es < 2 ^ 60 → ends_once es ≡ true → Asks m es
takes-line c m es fresh sound few ends = λ going_on.
    let none = fresh.columns in
    record { sound = sound; end = ends; columns = omega (arith, none, few) }

-- the rows that are left to a maker of a block's prefixes and marks are the block's
left-is : (scene : Scene) (base : ℕ) (shape : ShapeValues) (es : List Seen) (first wrap line : List Element) (truncation continuation : Glyph) (m : MakerValues)
    → IsFresh (cutting_of shape base first wrap truncation continuation) m → first ≡ line_prefix scene base es → wrap ≡ wrap_prefix scene base es
    → truncation ≡ truncation_mark scene → continuation ≡ continuation_mark scene base → line ≡ line_elements scene base es
    → rows_left m line ≡ block_rows scene base shape es
left-is scene base shape es first wrap line truncation continuation m fresh a b c d e = fresh.rows line ∙ rw (a, b, c, d, e) refl

-- the rows that are left to a maker with the prefixes of a position that looks like this are the rows of the block from there on
pub left-seen : (scene : Scene) (base : ℕ) (shape : ShapeValues) (s : BufferValue) (objects : ObjectLists) (p : ℕ) (a : Appearance) (settings : SettingValues)
    (first wrap line : List Element) (truncation continuation : Glyph) (m : MakerValues)
    → a ≡ appearance_at s objects p → settings ≡ scene.parts.settings → IsFresh (cutting_of shape base first wrap truncation continuation) m
    → first ≡ prefix_elements scene base (option_or a.line_prefix settings.line_prefix) → wrap ≡ prefix_elements scene base (option_or a.wrap_prefix settings.wrap_prefix)
    → truncation ≡ truncation_mark scene → continuation ≡ continuation_mark scene base → line ≡ line_elements scene base (reading s objects p)
    → rows_left m line ≡ block_rows scene base shape (reading s objects p)
left-seen scene base shape s objects p a settings first wrap line truncation continuation m looks set fresh f w t c l =
    left-is scene base shape (reading s objects p) first wrap line truncation continuation m fresh
    (prefix-at (λ e. e.appearance.line_prefix) scene base s objects p a.line_prefix scene.parts.settings.line_prefix settings.line_prefix first
    (ap (λ (x : Appearance). x.line_prefix) looks) (ap (λ (v : SettingValues). v.line_prefix) set) f)
    (prefix-at (λ e. e.appearance.wrap_prefix) scene base s objects p a.wrap_prefix scene.parts.settings.wrap_prefix settings.wrap_prefix wrap
    (ap (λ (x : Appearance). x.wrap_prefix) looks) (ap (λ (v : SettingValues). v.wrap_prefix) set) w) t c l

-- The table of ops: their names, and for each the fields in order.
use Rattle.std.specs.Prelude.{ℕ, ℤ, pos, ◌-◌, Bool, true, false, List, [], ◌∷◌, Option, codes}
use Rattle.serde_json.specs.Find.{as_bool}
use Rattle.rd_base.specs.declared.limits.TheConstants.{FRAME_COLUMNS, FRAME_ROWS, HSCROLL_COLUMNS, LEAST_FRAME_COLUMNS, LEAST_FRAME_ROWS, NUMBER_COLUMNS, PRIORITY, SCROLL_CONSERVATIVELY, SCROLL_MARGIN, SCROLL_ROWS, START_ROW, STRING_COLUMNS, STRING_RUNS, TABLE_ENTRIES}
use Rattle.rd_base.specs.declared.settings.Wrap.{Wrap}
use Rattle.rd_base.specs.declared.settings.Wrap.TheVariants as wraps
use Rattle.rd_tree.specs.declared.side.Side.{Side}
use Rattle.rd_tree.specs.declared.side.Side.TheVariants as sides
use Rattle.rd_script.specs.declared.name.Name.{Name}
use Rattle.rd_script.specs.declared.name.Name.TheVariants as names
use Rattle.rd_script.specs.declared.name.TextOp.{TextOp}
use Rattle.rd_script.specs.declared.name.TextOp.TheVariants as texts
use Rattle.rd_script.specs.declared.name.PropertyOp.{PropertyOp}
use Rattle.rd_script.specs.declared.name.PropertyOp.TheVariants as properties
use Rattle.rd_script.specs.declared.name.ObjectOp.{ObjectOp}
use Rattle.rd_script.specs.declared.name.ObjectOp.TheVariants as objects
use Rattle.rd_script.specs.declared.name.WindowOp.{WindowOp}
use Rattle.rd_script.specs.declared.name.WindowOp.TheVariants as windows
use Rattle.rd_script.specs.declared.name.ScreenOp.{ScreenOp}
use Rattle.rd_script.specs.declared.name.ScreenOp.TheVariants as screens
use Rattle.rd_script.specs.declared.op.Op.{Op}
use Rattle.rd_script.specs.declared.op.Op.TheVariants as ops
use Rattle.rd_script.specs.declared.word.Way.{Way}
use Rattle.rd_script.specs.Fields.{Fields, whole, within, signed, text, plain_text, buffer_name, beside, word, list_of, items_of, required, optional, defaulted, both, made, name_key, row_key, side_key, text_key}
use Rattle.rd_script.specs.Objects.{run_form, spec, face, entry_form, glyph_text, slot_field}
use Rattle.rd_script.specs.Properties.{text_kind, overlay_kind, property}
use Rattle.rd_script.specs.Settings.{setting}

-- the names of the ops
abbrev pub op_names : List (List ℕ × Name)
op_names = (codes "frame", names.Screen screens.Frame)
    ∷ (codes "buffer", names.Text texts.Buffer)
    ∷ (codes "insert", names.Text texts.Insert)
    ∷ (codes "insert_raw", names.Text texts.InsertRaw)
    ∷ (codes "type", names.Text texts.Type)
    ∷ (codes "delete", names.Text texts.Delete)
    ∷ (codes "narrow", names.Text texts.Narrow)
    ∷ (codes "widen", names.Text texts.Widen)
    ∷ (codes "put", names.Property properties.Put)
    ∷ (codes "overlay", names.Property properties.Overlay)
    ∷ (codes "overlay_move", names.Property properties.OverlayMove)
    ∷ (codes "overlay_drop", names.Property properties.OverlayDrop)
    ∷ (codes "overlay_put", names.Property properties.OverlayPut)
    ∷ (codes "margin_put", names.Property properties.MarginPut)
    ∷ (codes "setting", names.Property properties.Setting)
    ∷ (codes "string", names.Object objects.String)
    ∷ (codes "spec", names.Object objects.Spec)
    ∷ (codes "face", names.Object objects.Face)
    ∷ (codes "table", names.Object objects.Table)
    ∷ (codes "split", names.Window windows.Split)
    ∷ (codes "remove", names.Window windows.Remove)
    ∷ (codes "select", names.Window windows.Select)
    ∷ (codes "show", names.Window windows.Show)
    ∷ (codes "point", names.Window windows.Point)
    ∷ (codes "start", names.Window windows.Start)
    ∷ (codes "scroll", names.Window windows.Scroll)
    ∷ (codes "hscroll", names.Window windows.Hscroll)
    ∷ (codes "wrap", names.Window windows.Wrap)
    ∷ (codes "mode_line", names.Window windows.ModeLine)
    ∷ (codes "go", names.Window windows.Go)
    ∷ (codes "hit", names.Window windows.Hit)
    ∷ (codes "margin", names.Window windows.Margin)
    ∷ (codes "scrolling", names.Screen screens.Scrolling)
    ∷ (codes "echo", names.Screen screens.Echo)
    ∷ (codes "redisplay", names.Screen screens.Redisplay)
    ∷ (codes "shift", names.Screen screens.Shift)
    ∷ []

-- the op that a text names
abbrev pub name_of : List ℕ → Option Name
name_of text = beside op_names text

-- what may become of lines that are longer than a row
abbrev pub wrap_modes : List (List ℕ × Wrap)
wrap_modes = (codes "truncate", wraps.Truncate) ∷ (codes "continue", wraps.Continue) ∷ (codes "word", wraps.Word) ∷ []

-- where a new window goes
abbrev pub split_sides : List (List ℕ × Side)
split_sides = (codes "below", sides.Below) ∷ (codes "right", sides.Right) ∷ []

-- the ways to go
abbrev pub ways : List (List ℕ × Way)
ways = (codes "left", record { right = false }) ∷ (codes "right", record { right = true }) ∷ []

abbrev pub buffer_field : Fields (List ℕ)
buffer_field = required (codes "buffer") buffer_name

abbrev pub number_field : List ℕ → Fields ℕ
number_field key = required key whole

abbrev pub window_field : Fields ℕ
window_field = number_field (codes "window")

abbrev pub overlay_field : Fields ℕ
overlay_field = number_field (codes "overlay")

abbrev pub position_field : Fields ℕ
position_field = number_field (codes "pos")

abbrev pub range_fields : Fields (ℕ × ℕ)
range_fields = both (number_field (codes "from")) (number_field (codes "to"))

-- a buffer and a range of it
abbrev pub stretch_fields : Fields (List ℕ × (ℕ × ℕ))
stretch_fields = both buffer_field range_fields

abbrev pub text_field : Fields (List ℕ)
text_field = required text_key text

-- the priority of an overlay and its flags
abbrev pub overlay_manner : Fields (ℤ × (Bool × Bool))
overlay_manner = both (defaulted (pos 0) (codes "priority") (signed PRIORITY)) (both (defaulted false (codes "front") as_bool) (defaulted false (codes "rear") as_bool))

-- ---- the fields of each op, in order, and the op that they say

-- the ops about buffers and their texts
abbrev pub text_row : TextOp → Fields Op
text_row texts.Buffer = made ops.Buffer (required name_key buffer_name)
text_row texts.Insert = made (λ f. ops.Insert f.0 f.1.0 f.1.1) (both buffer_field (both position_field text_field))
text_row texts.InsertRaw = made (λ f. ops.InsertRaw f.0 f.1.0 f.1.1) (both buffer_field (both position_field (required (codes "bytes") (items_of (within 128 255)))))
text_row texts.Type = made ops.TypeText text_field
text_row texts.Delete = made (λ f. ops.Delete f.0 f.1.0 f.1.1) stretch_fields
text_row texts.Narrow = made (λ f. ops.Narrow f.0 f.1.0 f.1.1) stretch_fields
text_row texts.Widen = made ops.Widen buffer_field

-- the ops about properties, overlays and settings
abbrev pub property_row : PropertyOp → Fields Op
property_row properties.Put = made (λ f. ops.Put f.0.0 f.0.1.0 f.0.1.1 f.1.0 f.1.1) (both stretch_fields (property text_kind))
property_row properties.Overlay = made (λ f. ops.Overlay f.0.0 f.0.1.0 f.0.1.1 f.1.0 f.1.1.0 f.1.1.1) (both stretch_fields overlay_manner)
property_row properties.OverlayMove = made (λ f. ops.OverlayMove f.0 f.1.0 f.1.1.0 f.1.1.1) (both buffer_field (both overlay_field range_fields))
property_row properties.OverlayDrop = made (λ f. ops.OverlayDrop f.0 f.1) (both buffer_field overlay_field)
property_row properties.OverlayPut = made (λ f. ops.OverlayPut f.0 f.1.0 f.1.1.0 f.1.1.1) (both buffer_field (both overlay_field (property overlay_kind)))
property_row properties.MarginPut = made (λ f. ops.MarginPut f.0 f.1.0 f.1.1) (both buffer_field (both overlay_field (optional (codes "string") whole)))
property_row properties.Setting = made (λ f. ops.Setting f.0 f.1) (both buffer_field setting)

-- the ops that make objects
abbrev pub object_row : ObjectOp → Fields Op
object_row objects.String = made (λ f. ops.AddString f.0 f.1) (both text_field (defaulted [] (codes "runs") (list_of STRING_RUNS run_form)))
object_row objects.Spec = made ops.AddSpec spec
object_row objects.Face = made ops.AddFace face
object_row objects.Table = made (λ f. ops.AddTable f.0 f.1.0 f.1.1.0 f.1.1.1.0 f.1.1.1.1.0 f.1.1.1.1.1.0 f.1.1.1.1.1.1)
    (both (defaulted [] (codes "entries") (list_of TABLE_ENTRIES entry_form)) (both (slot_field (codes "truncation")) (both (slot_field (codes "continuation"))
    (both (slot_field (codes "escape")) (both (slot_field (codes "control")) (both (optional (codes "ellipsis") glyph_text) (slot_field (codes "border"))))))))

-- the ops about windows
abbrev pub window_row : WindowOp → Fields Op
window_row windows.Split = made (λ f. ops.Split f.0 f.1.0 f.1.1) (both window_field (both (required side_key (word split_sides)) (number_field (codes "size"))))
window_row windows.Remove = made ops.Remove window_field
window_row windows.Select = made ops.Select window_field
window_row windows.Show = made (λ f. ops.Show f.0 f.1) (both window_field buffer_field)
window_row windows.Point = made (λ f. ops.Point f.0 f.1) (both window_field position_field)
window_row windows.Start = made (λ f. ops.Start f.0 f.1.0 f.1.1) (both window_field (both position_field (required row_key (within 0 START_ROW))))
window_row windows.Scroll = made (λ f. ops.Scroll f.0 f.1) (both window_field (required (codes "rows") (signed (pos SCROLL_ROWS))))
window_row windows.Hscroll = made (λ f. ops.Hscroll f.0 f.1) (both window_field (required (codes "columns") (within 0 HSCROLL_COLUMNS)))
window_row windows.Wrap = made (λ f. ops.Wrap f.0 f.1) (both window_field (required (codes "mode") (word wrap_modes)))
window_row windows.ModeLine = made (λ f. ops.ModeLine f.0 f.1) (both window_field (optional (codes "format") plain_text))
window_row windows.Go = made (λ f. ops.Go f.0 f.1.right) (both window_field (required side_key (word ways)))
window_row windows.Hit = made (λ f. ops.Hit f.0 f.1.0 f.1.1)
    (both window_field (both (required row_key (within 0 (FRAME_ROWS - 1))) (required (codes "column") (within 0 (FRAME_COLUMNS - 1)))))
window_row windows.Margin = made (λ f. ops.Margin f.0 f.1.0 f.1.1)
    (both window_field (both (required (codes "numbers") (within 0 NUMBER_COLUMNS)) (required (codes "strings") (within 0 STRING_COLUMNS))))

-- the ops about the whole screen
abbrev pub screen_row : ScreenOp → Fields Op
screen_row screens.Frame = made (λ f. ops.Frame f.0 f.1)
    (both (required (codes "width") (within LEAST_FRAME_COLUMNS FRAME_COLUMNS)) (required (codes "height") (within LEAST_FRAME_ROWS FRAME_ROWS)))
screen_row screens.Scrolling = made (λ f. ops.Scrolling f.0 f.1)
    (both (required (codes "margin") (within 0 SCROLL_MARGIN)) (required (codes "conservatively") (within 0 SCROLL_CONSERVATIVELY)))
screen_row screens.Echo = made ops.Echo (required text_key plain_text)
screen_row screens.Redisplay = made ops.Redisplay (optional (codes "stop") (within 0 FRAME_ROWS))
screen_row screens.Shift = made ops.Shift (required (codes "on") as_bool)

-- all ops
abbrev pub row : Name → Fields Op
row (names.Text op) = text_row op
row (names.Property op) = property_row op
row (names.Object op) = object_row op
row (names.Window op) = window_row op
row (names.Screen op) = screen_row op

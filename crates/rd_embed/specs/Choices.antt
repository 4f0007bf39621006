-- What the numbers of the calls stand for: sides, kinds, values and settings.
use Rattle.std.specs.Prelude.{ℕ, ◌==◌, ◌&&◌, ◌||◌, nat_le, nat_lt, Bool, true, false, if◌then◌else◌, List, [], ◌∷◌, Option, None, Some, slice_get, option_map}
use Rattle.rd_base.specs.Faces.{Attributes}
use Rattle.rd_base.specs.declared.limits.TheConstants.{ATOMS, COLOURS, TAB_COLUMNS}
use Rattle.rd_base.specs.declared.settings.Direction.{Direction}
use Rattle.rd_base.specs.declared.settings.Direction.TheVariants as directions
use Rattle.rd_base.specs.declared.settings.Wrap.{Wrap}
use Rattle.rd_base.specs.declared.settings.Wrap.TheVariants as wraps
use Rattle.rd_overlays.specs.declared.overlay.Kind.{Kind}
use Rattle.rd_overlays.specs.declared.overlay.Kind.TheVariants as kinds
use Rattle.rd_script.specs.declared.setting.Setting.{Setting}
use Rattle.rd_script.specs.declared.setting.Setting.TheVariants as settings
use Rattle.rd_tree.specs.declared.side.Side.{Side}
use Rattle.rd_tree.specs.declared.side.Side.TheVariants as sides
use Rattle.rd_embed.specs.declared.choices.TheConstants.{NONE}
use Rattle.rd_embed.specs.declared.faces.FaceLook.{FaceLook}
use Rattle.rd_embed.specs.declared.faces.TheConstants.{FACE_BYTES}

-- a value that may be none
abbrev pub given : ℕ → Option ℕ
given value = if value == NONE then None else Some value

-- a value, where it passes a test
abbrev pub kept : {A : Type 0} → Bool → A → Option A
kept test x = if test then Some x else None

-- where a split puts the new window: 0 below, 1 to the right
abbrev pub side_of : ℕ → Option Side
side_of n = slice_get (sides.Below ∷ sides.Right ∷ []) n

-- whether point goes to the right: 1 to the right, 2 to the left
abbrev pub right_of : ℕ → Option Bool
right_of n = if n == 1 then Some true else kept (n == 2) false

-- what becomes of long lines: 0 cut, 1 continued, 2 continued at words
abbrev pub wrap_of : ℕ → Option Wrap
wrap_of n = slice_get (wraps.Truncate ∷ wraps.Continue ∷ wraps.Word ∷ []) n

-- the kinds of properties from 0, the last two of overlays alone
abbrev pub overlay_kind_of : ℕ → Option Kind
overlay_kind_of n = slice_get (kinds.Face ∷ kinds.Display ∷ kinds.Invisible ∷ kinds.LinePrefix ∷ kinds.WrapPrefix ∷ kinds.Before ∷ kinds.After ∷ []) n

abbrev pub text_kind_of : ℕ → Option Kind
text_kind_of n = slice_get (kinds.Face ∷ kinds.Display ∷ kinds.Invisible ∷ kinds.LinePrefix ∷ kinds.WrapPrefix ∷ []) n

-- whether a property of a kind may have a value: an atom is at most 65,535
abbrev pub is_value : Kind → Option ℕ → Bool
is_value kinds.Invisible (Some atom) = nat_le atom ATOMS
is_value kind value = true

-- ---- settings

-- 0 no and 1 yes
abbrev pub flag_of : ℕ → Option Bool
flag_of n = if n == 0 then Some false else kept (n == 1) true

-- 0 as the text says, 1 from the left, 2 from the right
abbrev pub direction_of : ℕ → Option Direction
direction_of n = slice_get (directions.Auto ∷ directions.Left ∷ directions.Right ∷ []) n

abbrev pub tab_width : ℕ → Option Setting
tab_width n = kept (nat_le 1 n && nat_le n TAB_COLUMNS) (settings.TabWidth n)

-- a setting and its value, by their numbers
abbrev pub setting_of : ℕ → ℕ → Option Setting
setting_of setting value =
    if setting == 0 then tab_width value
    else if setting == 1 then option_map settings.CtlArrow (flag_of value)
    else if setting == 2 then option_map settings.Direction (direction_of value)
    else if setting == 3 then option_map settings.Reorder (flag_of value)
    else if setting == 4 then Some (settings.Table (given value))
    else if setting == 5 then Some (settings.LinePrefix (given value))
    else if setting == 6 then Some (settings.WrapPrefix (given value))
    else if setting == 7 then option_map settings.Modified (flag_of value)
    else if setting == 8 then option_map settings.ReadOnly (flag_of value)
    else None

-- ---- faces

-- a colour: below 8, or none
abbrev pub colour_of : ℕ → Option ℕ
colour_of n = if n == NONE then Some COLOURS else kept (nat_lt n COLOURS) n

abbrev pub coloured : FaceLook → Option ℕ → Option ℕ → Option Attributes
coloured look (Some fg) (Some bg) = Some (record { fg = fg; bg = bg; bold = look.bold; underline = look.underline; inverse = look.inverse })
coloured look fg bg = None

-- the face that a look stands for, where it has the size of one and its colours are in range
abbrev pub face_of : FaceLook → Option Attributes
face_of look = if look.size == FACE_BYTES then coloured look (colour_of look.foreground) (colour_of look.background) else None

-- the number of a colour
abbrev pub colour_number : ℕ → ℕ
colour_number colour = if colour == COLOURS then NONE else colour

-- the look of a face
abbrev pub look_of : Attributes → FaceLook
look_of face = record {
  size = FACE_BYTES;
  foreground = colour_number face.fg;
  background = colour_number face.bg;
  bold = face.bold;
  underline = face.underline;
  inverse = face.inverse;
  reserved = false;
}

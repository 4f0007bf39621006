-- The settings of a buffer, as an op says them.
use Rattle.std.specs.Prelude.{ℕ, Bool, true, false, List, [], ◌∷◌, Option, None, Some, option_map, codes}
use Rattle.serde_json.specs.Data.{Data}
use Rattle.serde_json.specs.Find.{as_bool}
use Rattle.rd_base.specs.declared.limits.TheConstants.{ATOMS, INVISIBLE_ATOMS, TAB_COLUMNS}
use Rattle.rd_base.specs.declared.settings.Direction.{Direction}
use Rattle.rd_base.specs.declared.settings.Direction.TheVariants as directions
use Rattle.rd_base.specs.declared.settings.Invisible.{Invisible}
use Rattle.rd_base.specs.declared.settings.Invisible.TheVariants.{Every, Listed}
use Rattle.rd_script.specs.declared.setting.Setting.{Setting}
use Rattle.rd_script.specs.declared.setting.Setting.TheVariants as settings
use Rattle.rd_script.specs.declared.setting.SettingName.{SettingName}
use Rattle.rd_script.specs.declared.setting.SettingName.TheVariants as names
use Rattle.rd_script.specs.Fields.{Fields, whole, within, word, two_items, list_of, required, optional, made, name_key, then_value}

abbrev pub setting_names : List (List ℕ × SettingName)
setting_names = (codes "tab_width", names.TabWidth)
    ∷ (codes "ctl_arrow", names.CtlArrow)
    ∷ (codes "direction", names.Direction)
    ∷ (codes "reorder", names.Reorder)
    ∷ (codes "table", names.Table)
    ∷ (codes "invisible", names.Invisible)
    ∷ (codes "line_prefix", names.LinePrefix)
    ∷ (codes "wrap_prefix", names.WrapPrefix)
    ∷ (codes "modified", names.Modified)
    ∷ (codes "read_only", names.ReadOnly)
    ∷ []

abbrev pub direction_names : List (List ℕ × Direction)
direction_names = (codes "auto", directions.Auto) ∷ (codes "left", directions.Left) ∷ (codes "right", directions.Right) ∷ []

-- which invisible text is hidden: all of it, where the value is true, or that of the atoms of pairs
abbrev pub invisible_by : Option Bool → Option (List (ℕ × Bool)) → Option Invisible
invisible_by (Some true) pairs = Some Every
invisible_by (Some false) pairs = None
invisible_by None pairs = option_map Listed pairs

abbrev pub invisible : Data → Option Invisible
invisible d = invisible_by (as_bool d) (list_of INVISIBLE_ATOMS (two_items (within 0 ATOMS) as_bool) d)

-- the value of each setting, at a key
abbrev pub value_of : SettingName → List ℕ → Fields Setting
value_of names.TabWidth key = made settings.TabWidth (required key (within 1 TAB_COLUMNS))
value_of names.CtlArrow key = made settings.CtlArrow (required key as_bool)
value_of names.Direction key = made settings.Direction (required key (word direction_names))
value_of names.Reorder key = made settings.Reorder (required key as_bool)
value_of names.Table key = made settings.Table (optional key whole)
value_of names.Invisible key = made settings.Invisible (required key invisible)
value_of names.LinePrefix key = made settings.LinePrefix (optional key whole)
value_of names.WrapPrefix key = made settings.WrapPrefix (optional key whole)
value_of names.Modified key = made settings.Modified (required key as_bool)
value_of names.ReadOnly key = made settings.ReadOnly (required key as_bool)

-- a setting's name, and then its value
abbrev pub setting : Fields Setting
setting = then_value (required name_key (word setting_names)) value_of

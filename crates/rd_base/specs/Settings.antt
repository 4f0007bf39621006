-- The settings of a buffer, as contracts see them.
use Rattle.std.specs.Prelude.{ℕ, Bool, true, false, Option, None}
use Rattle.rd_base.specs.declared.settings.Direction.{Direction}
use Rattle.rd_base.specs.declared.settings.Direction.TheVariants.{Auto}
use Rattle.rd_base.specs.declared.settings.Invisible.{Invisible}
use Rattle.rd_base.specs.declared.settings.Invisible.TheVariants.{Every}

pub record SettingValues : Type 0 where
  pub tab_width : ℕ
  pub ctl_arrow : Bool
  pub direction : Direction
  pub reorder : Bool
  pub table : Option ℕ
  pub invisible : Invisible
  pub line_prefix : Option ℕ
  pub wrap_prefix : Option ℕ
  pub modified : Bool
  pub read_only : Bool

-- the settings of a new buffer
abbrev pub opening : SettingValues
opening = record {
  tab_width = 8;
  ctl_arrow = true;
  direction = Auto;
  reorder = true;
  table = None;
  invisible = Every;
  line_prefix = None;
  wrap_prefix = None;
  modified = false;
  read_only = false;
}

-- a buffer's settings without its flags, which no row shows
abbrev pub without_flags : SettingValues → SettingValues
without_flags settings = record settings { modified = false; read_only = false }

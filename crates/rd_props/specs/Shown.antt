-- What is replaced and what is hidden.
use Rattle.std.specs.Prelude.{ℕ, Bool, is_some, if◌then◌else◌, Option, None, Some}
use Rattle.rd_overlays.specs.declared.overlay.Kind.TheVariants.{Display, Invisible}
use Rattle.rd_base.specs.declared.settings.Invisible as setting
use Rattle.rd_props.specs.Buffers.{BufferValue}
use Rattle.rd_props.specs.declared.hiding.Hidden.{Hidden}
use Rattle.rd_props.specs.declared.hiding.Hidden.TheVariants.{No}
use Rattle.rd_props.specs.Values.{effective}
use Rattle.rd_props.specs.Hiding.{hiding_of}

-- a position is replaced where it has an effective display spec
abbrev pub is_replaced : BufferValue → ℕ → Bool
is_replaced s pos = is_some (effective s pos Display)

-- how an atom hides, where there is one
abbrev pub hiding_of_value : setting.Invisible → Option ℕ → Hidden
hiding_of_value setting None = No
hiding_of_value setting (Some atom) = hiding_of setting atom

-- what has this display spec and this atom is hidden where it has no spec and the atom hides
abbrev pub hidden_where : setting.Invisible → Option ℕ → Option ℕ → Hidden
hidden_where setting display atom = if is_some display then No else hiding_of_value setting atom

-- a position is hidden where it is not replaced and its effective atom hides
abbrev pub hidden : BufferValue → ℕ → Hidden
hidden s pos = hidden_where s.settings.invisible (effective s pos Display) (effective s pos Invisible)

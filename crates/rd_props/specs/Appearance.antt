-- What the text at a position looks like.
use Rattle.std.specs.Prelude.{ℕ, None}
use Rattle.rd_base.specs.declared.settings.Invisible as setting
use Rattle.rd_base.specs.Faces.{plain}
use Rattle.rd_overlays.specs.declared.overlay.Kind.TheVariants.{Display, Invisible, LinePrefix, WrapPrefix}
use Rattle.rd_objects.specs.Things.{ObjectLists}
use Rattle.rd_props.specs.Buffers.{BufferValue}
use Rattle.rd_props.specs.Values.{effective}
use Rattle.rd_props.specs.Faces.{face_at}
use Rattle.rd_props.specs.Shown.{hidden_where}
use Rattle.rd_props.specs.declared.appearance.Appearance.{Appearance}
use Rattle.rd_props.specs.declared.hiding.Hidden.{Hidden}

-- the numbers of the effective display spec, atom and prefixes of a position, and its merged face
abbrev pub appearance_at : BufferValue → ObjectLists → ℕ → Appearance
appearance_at s objects p = record {
  display = effective s p Display;
  invisible = effective s p Invisible;
  line_prefix = effective s p LinePrefix;
  wrap_prefix = effective s p WrapPrefix;
  face = face_at s objects p;
}

-- what is seen where there is no text
abbrev pub nothing_seen : Appearance
nothing_seen = record { display = None; invisible = None; line_prefix = None; wrap_prefix = None; face = plain }

-- how a position that looks like this is hidden by a buffer's setting: not at all where it is replaced, and else as its atom hides
abbrev pub hidden_by : setting.Invisible → Appearance → Hidden
hidden_by setting appearance = hidden_where setting appearance.display appearance.invisible

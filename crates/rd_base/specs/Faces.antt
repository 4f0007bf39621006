-- Faces, as contracts see them.
use Rattle.std.specs.Prelude.{ℕ, Bool, false, if◌then◌else◌, ◌==◌, ◌||◌}
use Rattle.rd_base.specs.declared.limits.TheConstants.{COLOURS}

-- a face: colours, where COLOURS is none, and flags
pub record Attributes : Type 0 where
  pub fg : ℕ
  pub bg : ℕ
  pub bold : Bool
  pub underline : Bool
  pub inverse : Bool

-- no colour and no flag
abbrev pub plain : Attributes
plain = record { fg = COLOURS; bg = COLOURS; bold = false; underline = false; inverse = false }

-- a colour over another: itself unless it is none
abbrev pub colour_over : ℕ → ℕ → ℕ
colour_over top under = if top == COLOURS then under else top

-- a face laid over another
abbrev pub over : Attributes → Attributes → Attributes
over top under = record {
  fg = colour_over top.fg under.fg;
  bg = colour_over top.bg under.bg;
  bold = top.bold || under.bold;
  underline = top.underline || under.underline;
  inverse = top.inverse || under.inverse;
}

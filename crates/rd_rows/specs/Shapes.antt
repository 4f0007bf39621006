-- Shapes, as contracts see them.
use Rattle.std.specs.Prelude.{ℕ, ◌-◌, ◌≤◌, ◌==◌, ◌&&◌, ◌||◌, Bool, true, false, nat_lt}
use Rattle.rd_base.specs.declared.limits.TheConstants.{FRAME_COLUMNS, LEAST_TEXT_COLUMNS}
use Rattle.rd_base.specs.declared.settings.Wrap.{Wrap}
use Rattle.rd_base.specs.declared.settings.Wrap.TheVariants.{Truncate, Continue, Word}

pub record ShapeValues : Type 0 where
  pub width : ℕ
  pub wrap : Wrap
  pub hscroll : ℕ

-- a window's rows have 10 to 400 columns
pub record IsShape (shape : ShapeValues) : Type 0 where
  pub least : LEAST_TEXT_COLUMNS ≤ shape.width
  pub most : shape.width ≤ FRAME_COLUMNS

-- the columns before the last one, which is kept for a mark
abbrev pub room : ShapeValues → ℕ
room shape = shape.width - 1

abbrev pub is_truncate : Wrap → Bool
is_truncate Truncate = true
is_truncate wrap = false

abbrev pub is_word : Wrap → Bool
is_word Word = true
is_word wrap = false

-- a window that is scrolled sideways cuts its lines too
abbrev pub truncates : ShapeValues → Bool
truncates shape = is_truncate shape.wrap || nat_lt 0 shape.hscroll

-- whether two modes of wrapping, and two shapes, are the same
abbrev pub is_same_wrap : Wrap → Wrap → Bool
is_same_wrap Truncate Truncate = true
is_same_wrap Continue Continue = true
is_same_wrap Word Word = true
is_same_wrap a b = false

abbrev pub is_same_shape : ShapeValues → ShapeValues → Bool
is_same_shape a b = (a.width == b.width) && (a.hscroll == b.hscroll) && is_same_wrap a.wrap b.wrap

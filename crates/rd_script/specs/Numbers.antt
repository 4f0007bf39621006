-- Numbers that may be below 0.
use Rattle.std.specs.Prelude.{◌&&◌, Bool, ℤ, neg_ℤ, int_le}

-- whether a number lies from so much below 0 up to as much above
abbrev pub is_near_zero : ℤ → ℤ → Bool
is_near_zero most z = int_le (neg_ℤ most) z && int_le z most

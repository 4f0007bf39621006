-- What comes after an item in its sequence (BD13, X10), by the first item behind it.
use Rattle.std.specs.Prelude.{ℕ, ◌==◌, Bool, if◌then◌else◌, Option, None, Some}
use Rattle.rd_explicit.specs.declared.links.First.{First}

-- BD13: what follows an item in its sequence: the item behind it where that has its level, else the matching PDI
abbrev pub bd13_follower : Option First → ℕ → Option ℕ → Option ℕ
bd13_follower None l partner = partner
bd13_follower (Some next) l partner = if l == next.level then Some next.index else partner

-- for X10, the level of the item behind an item, or the base where there is none or the item is an unmatched initiator
abbrev pub x10_level_behind : Option First → ℕ → Bool → ℕ
x10_level_behind None base unmatched = base
x10_level_behind (Some next) base unmatched = if unmatched then base else next.level

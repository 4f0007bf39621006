-- How a buffer's setting hides invisible text.
use Rattle.std.specs.Prelude.{ℕ, ◌==◌, Bool, if◌then◌else◌, List, [], ◌∷◌}
use Rattle.rd_base.specs.declared.settings.Invisible.{Invisible}
use Rattle.rd_base.specs.declared.settings.Invisible.TheVariants.{Every, Listed}
use Rattle.rd_props.specs.declared.hiding.Hidden.{Hidden}
use Rattle.rd_props.specs.declared.hiding.Hidden.TheVariants.{No, Plain, Ellipsis}

-- an atom hides where a pair lists it, with an ellipsis where the flag of the first such pair is true
abbrev pub listed : List (ℕ × Bool) → ℕ → Hidden
listed [] atom = No
listed (pair ∷ pairs) atom = if pair.0 == atom then (if pair.1 then Ellipsis else Plain) else listed pairs atom

-- how an atom hides by the setting
abbrev pub hiding_of : Invisible → ℕ → Hidden
hiding_of Every atom = Plain
hiding_of (Listed pairs) atom = listed pairs atom

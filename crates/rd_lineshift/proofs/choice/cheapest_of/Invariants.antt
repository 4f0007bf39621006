use Rattle.std.proofs.Common.{◌≡◌, ℕ, ◌+◌, ◌-◌, ◌≤◌, ◌++◌, List, drop, Option, IfSome}
use Rattle.std.specs.List.{flat_map}
use Rattle.rd_lineshift.specs.Choices.{cheapest, shifts_from, shifts_of}
use Rattle.rd_lineshift.specs.Numbers.{lesser, number_cost, priced}
use Rattle.rd_lineshift.specs.declared.band.Band.{Band}
use Rattle.rd_lineshift.specs.declared.band.Shift.{Shift}
use Rattle.rd_lineshift.specs.declared.choice.Priced.{Priced}
use Rattle.rd_lineshift.proofs.choice.cheapest_of.Given as goal

-- the best of the shifts before, and these, which are left: the best of all
abbrev IsBest : List ℕ → List ℕ → ℕ → List Band → Option Priced → List Shift → Type 0
IsBest old new blank bands best left =
    let cost = number_cost old new blank in
    (lesser best (priced cost (cheapest cost left)) ≡ priced cost (cheapest cost (flat_map shifts_of bands))) × IfSome best (λ p. p.cost ≤ 200)

abbrev pub invariant-loop-i : goal.invariant-loop-i
invariant-loop-i l = IsBest l.numbers.old.items l.numbers.new.items l.numbers.blank l.bands l.best (flat_map shifts_of (drop l.i l.bands))

-- of a band the shifts by this many rows or more are left
abbrev pub invariant-loop-by : goal.invariant-loop-by
invariant-loop-by l = IsBest l.numbers.old.items l.numbers.new.items l.numbers.blank l.bands l.best (shifts_from l.band l.by (l.band.height - l.by) ++ flat_map shifts_of (drop (l.i + 1) l.bands))

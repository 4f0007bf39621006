use Rattle.std.proofs.Common.{◌≡◌, ◌+◌, ◌≤◌, drop}
use Rattle.rd_lineshift.specs.Numbers.{unlike as unlike_of}
use Rattle.rd_lineshift.proofs.numbers.unlike.Given as goal

-- the places before this one, and those from it on
abbrev pub invariant-loop-i : goal.invariant-loop-i
invariant-loop-i l = (l.count + unlike_of (drop l.i l.numbers) (drop l.i l.others) ≡ unlike_of l.numbers l.others) × (l.count ≤ l.i)

use Rattle.std.proofs.Common.{◌≡◌, ◌++◌, drop}
use Rattle.std.specs.List.{flat_map}
use Rattle.rd_update.specs.Updates.{parameter}
use Rattle.rd_update.proofs.bytes.push_parameters.Given as goal

-- the bytes that stand, with those of the numbers that are left, are the whole
abbrev pub invariant-loop-number : goal.invariant-loop-number
invariant-loop-number l = l.bytes ++ flat_map parameter (drop l.number-index l.numbers) ≡ l.fn.bytes ++ flat_map parameter l.numbers

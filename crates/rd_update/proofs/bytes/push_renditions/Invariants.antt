use Rattle.std.proofs.Common.{◌≡◌, ◌++◌, drop, option_to_list}
use Rattle.std.specs.List.{flat_map}
use Rattle.rd_term.specs.Pens.{numbers_of_face}
use Rattle.rd_update.specs.Updates.{parameter, renditions}
use Rattle.rd_update.proofs.bytes.push_renditions.Given as goal

-- the bytes that stand, with those of the numbers that are left, are the whole
abbrev pub invariant-loop-number : goal.invariant-loop-number
invariant-loop-number l = l.bytes ++ flat_map parameter (flat_map option_to_list (drop l.number-index (numbers_of_face l.fn.face))) ≡ l.fn.bytes ++ flat_map parameter (renditions l.fn.face)

use Rattle.std.proofs.Common.{◌≡◌, ◌++◌, drop}
use Rattle.std.specs.List.{flat_map}
use Rattle.rd_base.specs.Chars.{encoded}
use Rattle.rd_update.proofs.bytes.push_codes.Given as goal

-- the bytes that stand, with those of the codes that are left, are the whole
abbrev pub invariant-loop-code : goal.invariant-loop-code
invariant-loop-code l = l.bytes ++ flat_map encoded (drop l.code-index l.codes) ≡ l.fn.bytes ++ flat_map encoded l.codes

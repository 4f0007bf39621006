use Rattle.std.proofs.Common.{take}
use Rattle.rd_objects.specs.Sound.{AreCodes}
use Rattle.rd_objects.proofs.objects.characters_have_codes.Given as goal

abbrev pub invariant-loop-ch : goal.invariant-loop-ch
invariant-loop-ch l = AreCodes (take l.ch-index l.text)

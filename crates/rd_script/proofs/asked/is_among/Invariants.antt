use Rattle.std.proofs.Common.{◌≡◌, drop, map}
use Rattle.rd_script.specs.Reading.{is_among}
use Rattle.rd_script.proofs.asked.is_among.Given as goal

abbrev pub invariant-loop-k : goal.invariant-loop-k
invariant-loop-k l = is_among (map (λ k. k.now) l.fn.keys) l.fn.key ≡ is_among (map (λ k. k.now) (drop l.k-index l.fn.keys)) l.fn.key

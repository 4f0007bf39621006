use Rattle.std.proofs.Common.{◌≡◌, drop}
use Rattle.rd_props.specs.Hiding.{listed}
use Rattle.rd_props.proofs.hiding.listed.Given as goal

abbrev pub invariant-loop-pair : goal.invariant-loop-pair
invariant-loop-pair l = listed (drop l.pair-index l.pairs) l.atom ≡ listed l.pairs l.atom

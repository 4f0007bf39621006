use Rattle.rd_matrix.proofs.HeldLemmas.{Passed}
use Rattle.rd_matrix.proofs.held.MemBlocks.find.Given as goal

abbrev pub invariant-loop-place : goal.invariant-loop-place
invariant-loop-place l = Passed l.self-inside.held.items l.pos l.place

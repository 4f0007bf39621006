use Rattle.std.proofs.Common.{◌≡◌, drop, map}
use Rattle.rd_script.specs.Fields.{beside}
use Rattle.rd_script.proofs.word.beside.Given as goal

abbrev pub invariant-loop-entry : goal.invariant-loop-entry
invariant-loop-entry g l = beside (map (λ e. (e.0.now, e.1)) l.fn.table) l.fn.text ≡ beside (map (λ e. (e.0.now, e.1)) (drop l.entry-index l.fn.table)) l.fn.text

use Rattle.std.proofs.Common.{◌≡◌, [], None, drop}
use Rattle.rd_audit.specs.Texts.{cells_from}
use Rattle.rd_audit.proofs.text.cells_from.Given as goal

abbrev pub invariant-loop-code : goal.invariant-loop-code
invariant-loop-code l = cells_from l.cells l.held (drop l.code-index l.codes) ≡ cells_from [] None l.codes

use Rattle.std.proofs.Common.{◌≡◌, drop}
use Rattle.rd_props.specs.Faces.{laid_over}
use Rattle.rd_props.proofs.faces.laid_over.Given as goal

abbrev pub invariant-loop-number : goal.invariant-loop-number
invariant-loop-number l = laid_over l.objects l.overlays (drop l.number-index l.numbers) l.face ≡ laid_over l.objects l.overlays l.numbers l.initial.face

use Rattle.rd_props.proofs.Replacing.{making-edits, dropping-edits, giving-edits, moving-edits}
use Rattle.rd_props.proofs.edits.overlays_leave_the_rest.Goals as goal

pub returns : goal.returns
returns c = record {
  made = making-edits;
  dropped = dropping-edits;
  given = λ old new objects number overlay kind value is ordered edit. giving-edits old new objects number overlay is ordered kind value edit;
  moved = λ old new objects number from to overlay is ordered less edit. moving-edits old new objects number overlay is ordered from to less edit;
}

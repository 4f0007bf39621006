use Rattle.std.proofs.Common.{refl}
use Rattle.rd_objects.proofs.Soundness.{extends_itself}
use Rattle.rd_blocks.proofs.Leading.{leads-none, leads-edited, leads-combined}
use Rattle.rd_blocks.proofs.changes.changes_lead_on.Goals as goal

pub returns-clause-edited : goal.returns-clause-edited
returns-clause-edited c = leads-edited

pub returns-clause-grown : goal.returns-clause-grown
returns-clause-grown c = λ s made objects closed named extends.
    leads-none s s made objects closed named refl extends (c.new_objects_leave_all.ensures s made objects 4294967295 0 extends named)

pub returns-clause-flagged : goal.returns-clause-flagged
returns-clause-flagged c = λ old new objects closed named settings same.
    leads-none old new objects objects closed named settings (extends_itself objects) (c.settings_leave_all.ensures old new objects 4294967295 0 same)

pub returns-clause-combined : goal.returns-clause-combined
returns-clause-combined c = leads-combined c.changes_join.ensures

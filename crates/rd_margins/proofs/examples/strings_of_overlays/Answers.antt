use Rattle.std.proofs.Common.{refl}
use Rattle.rd_margins.proofs.examples.strings_of_overlays.Goals as goal

pub returns-clause-priority : goal.returns-clause-priority
returns-clause-priority c = λ marks first second. rw first refl

pub returns-clause-number : goal.returns-clause-number
returns-clause-number c = λ marks first second. rw second refl

pub returns-clause-unmarked : goal.returns-clause-unmarked
returns-clause-unmarked c = λ marks first second. rw (first, second) refl

pub returns-clause-elsewhere : goal.returns-clause-elsewhere
returns-clause-elsewhere c = λ marks. refl

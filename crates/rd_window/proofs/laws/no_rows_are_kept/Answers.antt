use Rattle.std.proofs.Common.{◌≡◌, false, true}
use Rattle.std.proofs.lemmas.Bool.{and_parts}
use Rattle.rd_reuse.specs.Keeping.{is_outside}
use Rattle.rd_window.proofs.laws.no_rows_are_kept.Goals as goal

pub returns : goal.returns
returns goal-c = λ m c shape b among kept.
    let never : false ≡ true = (and_parts (is_outside c b) false kept).1 in
    absurd cc

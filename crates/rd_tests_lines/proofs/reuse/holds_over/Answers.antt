use Rattle.std.proofs.Common.{sym, subst}
use Rattle.std.proofs.lemmas.Bool.{OnTrue_at}
use Rattle.rd_matrix.specs.Sources.{SourceValues}
use Rattle.rd_reuse.specs.Keeping.{AreRight}
use Rattle.rd_tests_lines.proofs.reuse.holds_over.Goals as goal

pub relays-requires-clause-right : goal.relays-requires-clause-right
relays-requires-clause-right g c =
    subst (λ (x : SourceValues). AreRight x c.args.old.now c.args.change c.args.shape) (sym c.are_right.ensures.stays)
    (OnTrue_at c.if-not-branch.false c.in_ok-are_right.ensures.right)

pub lays_out-requires-clause-right : goal.lays_out-requires-clause-right
lays_out-requires-clause-right g c =
    subst (λ (x : SourceValues). AreRight x c.args.old.now c.args.change c.args.shape) (sym c.are_right.ensures.stays)
    (OnTrue_at c.if-not-branch.false c.in_ok-are_right.ensures.right)

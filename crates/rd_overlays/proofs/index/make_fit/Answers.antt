use Rattle.std.proofs.Common.{ℕ, List, refl, sym, subst}
use Rattle.std.specs.Prelude.{slice_set}
use Rattle.rd_overlays.specs.Bounds.{IsBounded}
use Rattle.rd_overlays.proofs.Bounding.{kept-bounded}
use Rattle.rd_overlays.proofs.index.make_fit.Goals as goal

pub returns-then-lies_within-clause-bounded : goal.returns-then-lies_within-clause-bounded
returns-then-lies_within-clause-bounded c = λ slots at h.
    kept-bounded slots c.args.index.now.order c.args.index.now.bounds c.args.number c.args.before c.args.after (c.if-lies_within.ensures refl) at h

pub returns-clause-bounded : goal.returns-clause-bounded
returns-clause-bounded c = λ slots at h.
    let P : List ℕ → Type 0 = λ order. IsBounded slots order c.args.index.now.bounds in
    let Q : List ℕ → Type 0 = λ order. IsBounded (slice_set slots c.args.number c.args.after) order c.widen_all.new.bounds in
    subst Q c.as_slice.ensures (c.widen_all.ensures slots (subst P (sym c.as_slice.ensures) h))

use Rattle.std.proofs.Common.{sym, ap, ◌∙◌, None, Some}
use Rattle.rd_margins.specs.Marks.{marked}
use Rattle.rd_margins.proofs.Finite.{entries-marked}
use Rattle.rd_margins.proofs.marks.Marks.set.Goals as goal

pub returns-in_ok-insert-in-Some-clause-ok : goal.returns-in_ok-insert-in-Some-clause-ok
returns-in_ok-insert-in-Some-clause-ok c =
    entries-marked c.self.inside.strings.entries c.insert.new.self.entries c.args.overlay (Some c.in-Some.string) c.in_ok-insert-in-Some.ensures.updates.0
    ∙ ap (λ m. marked m c.args.overlay (Some c.in-Some.string)) c.self.view_is
    ∙ ap (marked c.args.self.now c.args.overlay) (sym c.in-Some.is)

pub returns-in-None-clause-ok : goal.returns-in-None-clause-ok
returns-in-None-clause-ok c =
    entries-marked c.self.inside.strings.entries c.remove.new.self.entries c.args.overlay None c.remove.ensures.updates.0
    ∙ ap (λ m. marked m c.args.overlay None) c.self.view_is
    ∙ ap (marked c.args.self.now c.args.overlay) (sym c.in-None.is)

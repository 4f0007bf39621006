use Rattle.std.proofs.Common.{sym, ap, ◌∙◌}
use Rattle.std.specs.FinMap as map
use Rattle.rd_margins.proofs.Finite.{get-found}
use Rattle.rd_margins.proofs.marks.Marks.get.Goals as goal

pub returns : goal.returns
returns c =
    c.copied.ensures ∙ c.get.ensures.value
    ∙ sym (get-found c.self.inside.strings.entries c.args.overlay)
    ∙ ap (λ m. map.get m c.args.overlay) c.self.view_is

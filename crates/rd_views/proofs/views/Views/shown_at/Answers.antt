use Rattle.std.proofs.Common.{◌≡◌, Some, get_or, sym, ap, ◌∙◌}
use Rattle.std.proofs.lemmas.Option.{slice_get-get_or}
use Rattle.std.specs.Prelude.{slice_get}
use Rattle.rd_window.specs.declared.layout.Layout.{Layout}
use Rattle.rd_views.specs.Layings.{nobody, shown_by}
use Rattle.rd_views.proofs.Showing.{view-at}
use Rattle.rd_views.proofs.views.Views.shown_at.Goals as goal

pub returns : goal.returns
returns c =
    let es = c.args.desired.now.layouts.items in
    let i = c.args.i in
    let x = c.at-window.result in
    let there : slice_get es i ≡ Some (get_or es i nobody) = slice_get-get_or es i nobody c.requires.layout in
    view-at c.args.self.now.layouts c.args.desired.now.windows es i x (get_or es i nobody) c.at-window.ensures there
    ∙ ap (λ (l : Layout). Some (shown_by x l)) (sym (c.layout_at.ensures (get_or es i nobody) there))

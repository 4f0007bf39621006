use Rattle.std.proofs.Common.{ap, ◌∙◌}
use Rattle.rd_layout.specs.Sessions.{SessionValue, layout_of}
use Rattle.rd_views.proofs.views.Views.layout.Goals as goal

pub returns : goal.returns
returns c = c.under.ensures ∙ (ap (layout_of c.args.window) c.as_slice.ensures.value ∙ ap (λ (v : SessionValue). layout_of c.args.window v.layouts) c.self.view_is)

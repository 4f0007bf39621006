use Rattle.std.proofs.Common.{◌≡◌, ◌∷◌, ◌++◌, [], List, length, sym, ap, ◌∙◌, arith}
use Rattle.rd_base.proofs.Lists.{take-at}
use Rattle.rd_window.specs.Views.{WindowView}
use Rattle.rd_layout.specs.Windows.{places}
use Rattle.rd_views.specs.Layings.{views_taken}
use Rattle.rd_views.proofs.Desiring.{same-count, views-are}
use Rattle.rd_views.proofs.Showing.{all-views}
use Rattle.rd_views.proofs.views.Views.shown.Goals as goal

pub shown_at-requires-clause-layout : goal.shown_at-requires-clause-layout
shown_at-requires-clause-layout c =
    let v = c.args.self.now in
    let d = c.args.desired.now in
    let same : length d.layouts.items ≡ length d.windows = same-count v (places v.state) d.windows d.layouts.items c.requires in
    omega (arith, same, c.loop-i-test.true, c.len-i-end.ensures)

pub loop-i-preserved : goal.loop-i-preserved
loop-i-preserved c =
    let d = c.args.desired.now in
    let vs = views_taken c.args.self.now.layouts d.windows d.layouts.items in
    c.in_ok-push.ensures.ok ∙ (ap (λ (ws : List WindowView). ws ++ c.shown_at.result ∷ []) c.loop-i.invariant ∙ sym (take-at vs c.loop-i.i c.shown_at.result c.shown_at.ensures))

pub returns : goal.returns
returns c =
    let v = c.args.self.now in
    let d = c.args.desired.now in
    c.loop-i.invariant
    ∙ (all-views v.layouts d.windows d.layouts.items c.loop-i.i (omega (arith, c.loop-i-test.false, c.len-i-end.ensures))
    ∙ views-are v (places v.state) d.windows d.layouts.items c.requires)

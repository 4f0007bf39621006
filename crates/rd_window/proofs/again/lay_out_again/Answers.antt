use Rattle.std.proofs.Common.{◌∙◌, Option, None, Bor, option_map, sym, subst, arith}
use Rattle.std.specs.Prelude.{IfSome}
use Rattle.rd_rows.specs.Shapes.{IsShape}
use Rattle.rd_window.specs.Layouts.{IsLaidOut, StandsUnchanged, TellsEnds, layout_after}
use Rattle.rd_window.specs.declared.layout.Layout.{Layout}
use Rattle.rd_window.proofs.Ends.{tells}
use Rattle.rd_window.proofs.Standing.{Rests, chosen-stays, laid-resting, rests-parts, some-stay, tells-resting}
use Rattle.rd_window.proofs.Starting.{start-laid}
use Rattle.rd_window.proofs.again.lay_out_again.Given as given
use Rattle.rd_window.proofs.again.lay_out_again.Goals as goal
use Rattle.rd_window.proofs.again.lay_out_again.Goals.{Then-rests}

-- the window rests on its last layout
rested : (g : given.Over) (c : goal.Then-rests g) → Rests c.in-Some.layout.now (g.B.BlockSource.meaning c.args.source) c.args.shape c.args.wanted
rested g c =
    let m = g.B.BlockSource.meaning c.args.source in
    let w = c.args.wanted in
    let stands = subst (λ (o : Option (Bor Layout)). StandsUnchanged (option_map (λ b. b.now) o) m w.forced w.anchor) c.in-Some.is c.requires.stands in
    rests-parts c.in-Some.layout.now m c.args.shape w (sym (c.rests.ensures m c.requires.source c.requires.point stands) ∙ c.if-rests.true) stands

pub chosen-requires : goal.chosen-requires
chosen-requires g c = some-stay (rested g c) c.requires.height

pub returns-then-rests-clause-chosen : goal.returns-then-rests-clause-chosen
returns-then-rests-clause-chosen g c = c.chosen.ensures ∙ chosen-stays (rested g (goal.at.returns-then-rests-clause-chosen g c).Then-rests) c.requires.height

pub returns-then-rests-clause-layout : goal.returns-then-rests-clause-layout
returns-then-rests-clause-layout g c =
    let m = g.B.BlockSource.meaning c.args.source in
    let shape = c.args.shape in
    let l = c.in-Some.layout.now in
    subst (λ (o : Option (Bor Layout)). IfSome (layout_after (option_map (λ b. b.now) o) None) (λ new. IsLaidOut (option_map (λ b. b.now) o) m shape c.args.wanted new)) (sym c.in-Some.is)
    (laid-resting (rested g (goal.at.returns-then-rests-clause-layout g c).Then-rests))

pub returns-then-rests-clause-tells : goal.returns-then-rests-clause-tells
returns-then-rests-clause-tells g c =
    let m = g.B.BlockSource.meaning c.args.source in
    let shape = c.args.shape in
    let shaped : IsShape shape = record { least = omega arith; most = omega arith } in
    subst (λ (o : Option (Bor Layout)). IfSome (layout_after (option_map (λ b. b.now) o) None) (λ new. TellsEnds c.args.ends m shape c.args.wanted new)) (sym c.in-Some.is)
    (tells-resting (rested g (goal.at.returns-then-rests-clause-tells g c).Then-rests) c.requires.source shaped c.requires.height)

pub returns-clause-tells : goal.returns-clause-tells
returns-clause-tells g c =
    let m = g.B.BlockSource.meaning c.args.source in
    let shape = c.args.shape in
    let w = c.args.wanted in
    let shaped : IsShape shape = record { least = omega arith; most = omega arith } in
    tells c.requires.source shaped w _ (start-laid m shape w c.in_ok-view.view.matrix c.in_ok-view.ensures.some c.in_ok-view.ensures.rows) c.requires.height c.in_ok-view.ensures.rows

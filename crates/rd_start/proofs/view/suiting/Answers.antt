use Rattle.std.proofs.Common.{ℕ, ◌+◌, Option, IfSome, sym, ap, subst, ◌∙◌}
use Rattle.std.specs.List.{find}
use Rattle.rd_start.specs.Chosen.{places_of}
use Rattle.rd_start.specs.Starts.{suits}
use Rattle.rd_start.specs.Strips.{Reaches, first_row, row_at}
use Rattle.rd_start.proofs.Suits.{found-row, lost-row}
use Rattle.rd_start.proofs.view.suiting.Goals as goal

pub suits-requires-clause-reached : goal.suits-requires-clause-reached
suits-requires-clause-reached g c =
    let m = g.B.BlockSource.meaning c.args.source.now in
    let win = c.args.window.now in
    subst (λ (o : Option ℕ). IfSome o (λ start. Reaches m win.strip (start + win.wanted.height))) c.in-Some.is c.requires.reached

pub returns-in_default-clause-value : goal.returns-in_default-clause-value
returns-in_default-clause-value g c =
    let m = g.B.BlockSource.meaning c.args.source.now in
    let win = c.args.window.now in
    ap (λ (o : Option ℕ). find (suits win.wanted (places_of m win.strip.sweep.shape win.wanted)) (row_at (first_row m win.strip) o)) (sym c.in_default.is)

pub returns-then-branch-clause-value : goal.returns-then-branch-clause-value
returns-then-branch-clause-value g c =
    let m = g.B.BlockSource.meaning c.args.source.now in
    let win = c.args.window.now in
    found-row (suits win.wanted (places_of m win.strip.sweep.shape win.wanted)) (first_row m win.strip) c.in-Some.start c.args.place c.in-Some.is (sym c.in_ok-suits.ensures.value ∙ c.if-branch.true)

pub returns-clause-value : goal.returns-clause-value
returns-clause-value g c =
    let m = g.B.BlockSource.meaning c.args.source.now in
    let win = c.args.window.now in
    lost-row (suits win.wanted (places_of m win.strip.sweep.shape win.wanted)) (first_row m win.strip) c.in-Some.start c.args.place c.in-Some.is (sym c.in_ok-suits.ensures.value ∙ c.if-branch.false)

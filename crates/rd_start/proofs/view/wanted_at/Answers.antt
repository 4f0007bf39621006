use Rattle.std.proofs.Common.{◌≡◌, ◌+◌, inl, inr, None, Some, refl, sym, ◌∙◌}
use Rattle.rd_start.specs.Starts.{margin_of}
use Rattle.rd_start.specs.Strips.{count_in, first_row, wanted_at}
use Rattle.rd_start.proofs.Reaching.{beyond-given}
use Rattle.rd_start.proofs.Suits.{wanted-inside, wanted-none, wanted-some, wanted-zero}
use Rattle.rd_start.proofs.view.wanted_at.Goals as goal

pub returns-then-margin-eq0-clause-value : goal.returns-then-margin-eq0-clause-value
returns-then-margin-eq0-clause-value g c =
    let m = g.B.BlockSource.meaning c.args.source.now in
    let s = c.args.window.now.strip in
    let w = c.args.window.now.wanted in
    let here : margin_of w ≡ wanted_at c.args.edge w (count_in m s.sweep m.blocks) (first_row m s + c.args.start) =
    elim c.then-margin-eq0.either [
      | inl none ↦ wanted-zero c.args.edge w (count_in m s.sweep m.blocks) (first_row m s + c.args.start) (sym c.margin_of-margin.ensures ∙ none)
      | inr far ↦ wanted-inside c.args.edge m s w c.args.start c.requires.strip (sym c.hides_edge-hidden.ensures ∙ far.1)
    ] in
    c.margin_of-margin.ensures ∙ here

pub returns-in-None-clause-value : goal.returns-in-None-clause-value
returns-in-None-clause-value g c =
    let m = g.B.BlockSource.meaning c.args.source.now in
    let s = c.args.window.now.strip in
    let w = c.args.window.now.wanted in
    wanted-none c.args.edge m s w c.args.start (sym c.hides_edge-hidden.ensures ∙ c.if-hidden.false) (beyond-given c.args.edge m m s c.in_ok-beyond.field-0 None refl c.in_ok-beyond.ensures.value c.in-None.is)

pub returns-in-Some-clause-value : goal.returns-in-Some-clause-value
returns-in-Some-clause-value g c =
    let m = g.B.BlockSource.meaning c.args.source.now in
    let s = c.args.window.now.strip in
    let w = c.args.window.now.wanted in
    let next = beyond-given c.args.edge m m s c.in_ok-beyond.field-0 (Some c.in-Some.field-0) refl c.in_ok-beyond.ensures.value c.in-Some.is in
    c.margin_of-margin.ensures ∙ wanted-some c.args.edge m s w c.args.start c.in-Some.field-0 c.requires.strip c.requires.reached next

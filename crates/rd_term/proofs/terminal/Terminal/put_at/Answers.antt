use Rattle.std.proofs.Common.{◌≡◌, ◌<◌, ◌≤◌, ◌+◌, ◌∙◌, List, Option, [], length, get_or, arith, ap, sym, subst}
use Rattle.std.proofs.lemmas.List.{get_or_default}
use Rattle.rd_base.specs.declared.cell.Cell.{Cell}
use Rattle.rd_term.specs.Pictures.{width_of}
use Rattle.rd_term.specs.Terminals.{Tty, put_at}
use Rattle.rd_term.proofs.Cutting.{length-put}
use Rattle.rd_term.proofs.Putting.{put-made}
use Rattle.rd_term.proofs.Shapes.{put-whole}
use Rattle.rd_term.proofs.terminal.Terminal.put_at.Goals.{After-index_mut-cells}
use Rattle.rd_term.proofs.terminal.Terminal.put_at.Goals as goal

-- the row at which a character is put is one of the terminal's, and its cells are these
here : (c : goal.After-index_mut-cells) → c.args.row < length c.self.inside.rows.items
here c = subst (λ (t : Tty). c.args.row < length t.rows) (sym c.self.view_is) c.requires.row

same : (c : goal.After-index_mut-cells) → c.index_mut-cells.result.now ≡ get_or c.self.inside.rows.items c.args.row []
same c = c.index_mut-cells.ensures.value ∙ get_or_default c.self.inside.rows.items c.args.row c.index_mut-cells.result.now [] (here c)

pub invariant_of-self : goal.invariant_of-self
invariant_of-self c =
    let t = c.self.inside in
    let rows = t.rows.items in
    let row = c.args.row in
    let column = c.args.column in
    let cells = c.index_mut-cells.result.now in
    let at = (goal.at.invariant_of-self c).After-index_mut-cells in
    let is = ap (λ (t : Tty). t.rows) c.self.view_is in
    let there : c.args.column < width_of c.self.inside.rows.items = subst (λ (rs : List (List (Option Cell))). column < width_of rs) (sym is) c.requires.column in
    let long : length c.index_mut-cells.result.now ≡ width_of c.self.inside.rows.items = ap length (same at) ∙ c.self.invariant.0.each row [] (here at) in
    let room : c.args.column + c.args.glyph.now.width ≤ length c.index_mut-cells.result.now =
    subst (λ (rs : List (Option Cell)). column + c.args.glyph.now.width ≤ length rs) (ap (λ (rs : List (List (Option Cell))). get_or rs row []) (sym is) ∙ sym (same at)) c.requires.room in
    let next : c.min.result < width_of c.self.inside.rows.items = omega (arith, c.min.ensures, c.len-length.ensures, long, there) in
    let total = ap length c.put_character.ensures ∙ length-put cells column c.args.glyph.now.width c.args.glyph.now c.args.face c.requires.some room ∙ long in
    put-whole rows t.cursor t.latest t.region row column c.min.result c.put_character.new.row c.self.invariant (here at) there next total

pub returns : goal.returns
returns c =
    let t = c.self.inside in
    let row = c.args.row in
    let g = c.args.glyph.now in
    put-made t.rows.items t.region t.cursor t.wait t.pen t.latest t.reading t.confused row c.args.column g c.args.face c.index_mut-cells.result.now c.put_character.new.row c.len-length.result c.min.result
    (same (goal.at.returns c).After-index_mut-cells) c.len-length.ensures c.put_character.ensures c.min.ensures c.requires.plain
    ∙ ap (λ (t : Tty). put_at g.base g.width c.args.face row c.args.column t) c.self.view_is

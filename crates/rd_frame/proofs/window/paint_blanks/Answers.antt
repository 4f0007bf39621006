use Rattle.std.proofs.Common.{◌≡◌, ℕ, ◌+◌, ◌-◌, ◌<◌, [], length, take, get_or, replicate, ap, sym, subst, ◌∙◌, arith}
use Rattle.std.proofs.lemmas.List.{length-replicate, get_or-replicate}
use Rattle.rd_term.specs.Pictures.{blank_row, width_of}
use Rattle.rd_frame.specs.Panes.{body_height, body_width}
use Rattle.rd_frame.proofs.Screens.{IsLaid, laid-none, laid-step, laid-whole}
use Rattle.rd_frame.proofs.window.paint_blanks.Goals as goal

pub loop-row-init : goal.loop-row-init
loop-row-init c =
    let screen = c.args.screen.now in
    let window = c.args.window in
    let from : ℕ = c.args.from in
    let none : 0 ≡ from - from = omega arith in
    subst (λ (n : ℕ). IsLaid window c.args.border.now screen screen (window.rect.y + from) (take n (replicate (body_height window - from) (blank_row (window.margins + body_width (width_of screen.rows) window))))) none
    (laid-none window c.args.border.now screen (window.rect.y + from))

pub loop-row-preserved : goal.loop-row-preserved
loop-row-preserved c =
    let screen = c.args.screen.now in
    let window = c.args.window in
    let from : ℕ = c.args.from in
    let row : ℕ = c.loop-row.row in
    let i : ℕ = row - from in
    let columns : ℕ = window.margins + body_width (width_of screen.rows) window in
    let count : ℕ = body_height window - from in
    let texts = replicate count (blank_row columns) in
    let test = c.loop-row-test.true in
    let end = c.body_height-row-end.ensures in
    let low = c.loop-row.auto.row in
    let blank : c.first_blanks-blank.result.now ≡ blank_row columns
    = c.first_blanks-blank.ensures ∙ (ap (λ (n : ℕ). blank_row (window.margins + n)) c.body_width.ensures ∙ ap (λ (n : ℕ). blank_row (window.margins + body_width n window)) c.width.ensures.value) in
    let here : get_or texts i [] ≡ c.first_blanks-blank.result.now = get_or-replicate count i (blank_row columns) [] (omega arith) ∙ sym blank in
    let inside : i < length texts = omega (arith, length-replicate count (blank_row columns)) in
    let more : i + 1 ≡ row + 1 - from = omega arith in
    subst (λ (n : ℕ). IsLaid window c.args.border.now screen c.paint_row.new.screen (window.rect.y + from) (take n texts)) more
    (laid-step window c.args.border.now screen c.loop-row.screen c.paint_row.new.screen (window.rect.y + from) (window.rect.y + row) i texts c.first_blanks-blank.result.now
    inside (omega arith) here c.loop-row.invariant c.paint_row.ensures.painted c.paint_row.ensures.columns c.paint_row.ensures.rows)

pub returns-clause-painted : goal.returns-clause-painted
returns-clause-painted c =
    let screen = c.args.screen.now in
    let window = c.args.window in
    let from : ℕ = c.args.from in
    let blank = blank_row (window.margins + body_width (width_of screen.rows) window) in
    let over = c.loop-row-test.false in
    let end = c.body_height-row-end.ensures in
    let count : length (replicate (body_height window - from) blank) ≡ body_height window - from = length-replicate (body_height window - from) blank in
    laid-whole window c.args.border.now screen c.loop-row.screen (window.rect.y + from) (c.loop-row.row - from) (replicate (body_height window - from) blank) (omega arith) c.loop-row.invariant

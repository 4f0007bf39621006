use Rattle.std.proofs.Common.{◌≡◌, ℕ, ◌≤◌, ◌++◌, ◌∙◌, length, get_or, take, drop, Option, arith, ap, sym}
use Rattle.rd_term.specs.Pictures.{Picture}
use Rattle.rd_update.specs.Updates.{start, opening, update}
use Rattle.rd_update.specs.Plans.{Prepared, no_part, planned, sent_of}
use Rattle.rd_update.specs.declared.plan.Sent.{Sent}
use Rattle.rd_update.proofs.Parts.{stopped-less, after-stopped, after-done, cut-within, length-parts}
use Rattle.rd_update.proofs.plan.Plan.after.Goals.{After-row_of-from}
use Rattle.rd_update.proofs.plan.Plan.after.Goals as goal

pub returns-then-sent : goal.returns-then-sent
returns-then-sent c = λ limit e.
    after-done c.args.current c.args.target limit c.requires.size (sym (ap (λ (s : Sent). s.done) e) ∙ c.if-sent.true)

pub row_of-from-requires : goal.row_of-from-requires
row_of-from-requires c =
    let less = (stopped-less c.args.current c.args.target c.args.sent c.requires.sent.0 c.requires.sent.1 c.if-sent.false).1 in
    let count = ap (λ (p : Prepared). length p.parts) c.requires.plan
    ∙ length-parts 0 (length (opening c.args.current)) (start c.args.current c.args.target).rows c.args.target.rows in
    omega (arith, less, count)

-- the row before which it stopped
from : (c : goal.After-row_of-from) → c.row_of-from.result ≡ (get_or (planned c.args.current c.args.target).parts c.args.sent.rows no_part).row
from c = c.row_of-from.ensures ∙ ap (λ (p : Prepared). (get_or p.parts c.args.sent.rows no_part).row) c.requires.plan

from-bound : (c : goal.After-row_of-from) → c.row_of-from.result ≤ length c.args.target.rows
from-bound c =
    let less = (stopped-less c.args.current c.args.target c.args.sent c.requires.sent.0 c.requires.sent.1 c.if-sent.false).1 in
    rw (from c) (cut-within c.args.current c.args.target c.args.sent.rows less)

-- the target's rows before it, and the old ones from it on
left_off : (c : goal.After-row_of-from) → Option Picture → Picture
left_off c current = record (start current c.args.target) { rows = take c.row_of-from.result c.args.target.rows ++ drop c.row_of-from.result (start current c.args.target).rows }

after : (c : goal.After-row_of-from) (limit : Option ℕ) → c.args.sent ≡ sent_of (update c.args.current c.args.target limit) → left_off c c.args.current ≡ (update c.args.current c.args.target limit).screen
unfolding left_off
after c limit e =
    let stop = stopped-less c.args.current c.args.target c.args.sent limit e c.if-sent.false in
    after-stopped c.args.current c.args.target limit c.args.sent.rows c.row_of-from.result stop.0 stop.1 (from c)

pub with_rows_of-requires-clause-row : goal.with_rows_of-requires-clause-row
with_rows_of-requires-clause-row c = from-bound (goal.at.with_rows_of-requires-clause-row c).After-row_of-from

pub returns-in-Some : goal.returns-in-Some
unfolding left_off
returns-in-Some c = λ limit e.
    let at = (goal.at.returns-in-Some c).After-row_of-from in
    c.with_rows_of.ensures ∙ ap (left_off at) (sym c.in-Some.is) ∙ after at limit e

pub with_blanks-requires : goal.with_blanks-requires
with_blanks-requires c = from-bound (goal.at.with_blanks-requires c).After-row_of-from

pub returns : goal.returns
unfolding left_off
returns c = λ limit e.
    let at = (goal.at.returns c).After-row_of-from in
    c.with_blanks.ensures ∙ ap (left_off at) (sym c.in-None.is) ∙ after at limit e

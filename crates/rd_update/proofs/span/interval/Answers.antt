use Rattle.std.proofs.Common.{◌<◌, ◌∙◌, ◌+◌, ◌-◌, ap, rules, arith, length}
use Rattle.rd_base.specs.Equals.{same_cell}
use Rattle.rd_term.specs.Walks.{passing}
use Rattle.rd_update.specs.Updates.{begin_before, goes_on}
use Rattle.rd_update.proofs.Spans.{first_before, end_within}
use Rattle.rd_update.proofs.span.interval.Goals as goal

pub back_while-requires : goal.back_while-requires
back_while-requires c =
    let first = first_before c.args.old.now c.args.new.now c.requires.differ in
    let most = end_within same_cell c.args.old.now c.args.new.now in
    let new : c.args.differing.from < length c.args.new.now = omega (arith, c.requires.from, first, most) in
    let old : c.args.differing.from < length c.args.old.now = omega (arith, new, c.requires.length) in
    λ place some up κs pointer same ranges sizes one two lives. (omega (arith, up, old), omega (arith, up, new))

pub on_while-requires-clause-order : goal.on_while-requires-clause-order
on_while-requires-clause-order c = omega (arith, c.requires.end, end_within same_cell c.args.old.now c.args.new.now)

pub on_while-requires-clause-asked : goal.on_while-requires-clause-asked
on_while-requires-clause-asked c =
    let same = c.requires.length in
    λ place on before. search (rules, arith)

pub returns-clause-begin : goal.returns-clause-begin
returns-clause-begin c =
    c.back_while.ensures.value (goes_on c.args.old.now c.args.new.now) (λ column answer some up told. search rules)
    ∙ ap (λ column. begin_before c.args.old.now c.args.new.now column) c.requires.from

pub returns-clause-end : goal.returns-clause-end
returns-clause-end c =
    let old = c.args.old.now in
    let new = c.args.new.now in
    c.on_while.ensures.value (goes_on old new) (λ column answer on before told. search rules)
    ∙ ap (λ end. end + passing (goes_on old new) end (length new - end)) c.requires.end

pub returns-clause-order : goal.returns-clause-order
returns-clause-order c =
    omega (arith, c.back_while.ensures.order, c.requires.from, c.requires.end, c.on_while.ensures.least, first_before c.args.old.now c.args.new.now c.requires.differ)

use Rattle.std.proofs.Common.{◌∙◌, ◌+◌, ◌-◌, ap, rules, arith}
use Rattle.rd_term.proofs.Cutting.{cut-made, later_at, later-passing}
use Rattle.rd_term.proofs.overwriting.cut.Goals as goal

pub returns : goal.returns
returns c =
    let row = c.args.row.now in
    let later = later_at row in
    let begin = c.back_while-begin.ensures.value later (λ column answer from within told. search rules) in
    let end = c.on_while-end.ensures.value later (λ column answer from within told. search rules) in
    let passing_all = later-passing row c.args.to (c.len.result - c.args.to) (omega (arith, c.requires.end, c.len.ensures)) in
    cut-made row c.fill.new.self c.fill-2.new.self c.args.from c.args.to c.back_while-begin.result c.on_while-end.result c.requires.from c.requires.order c.requires.end
    begin (end ∙ ap (λ n. c.args.to + n) passing_all) (omega (arith, c.on_while-end.ensures.most, c.len.ensures)) c.fill.ensures c.fill-2.ensures

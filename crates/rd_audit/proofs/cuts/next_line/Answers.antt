use Rattle.std.proofs.Common.{◌∷◌, ◌<◌, length, ap₂, sym, ◌∙◌, arith, rules}
use Rattle.std.proofs.lemmas.List.{take_all, drop_all}
use Rattle.rd_io.specs.Lines.{lines_of}
use Rattle.rd_audit.proofs.Cutting.{lines-cut, lines-uncut}
use Rattle.rd_audit.proofs.cuts.next_line.Goals as goal

pub returns-in-Some-clause-value : goal.returns-in-Some-clause-value
returns-in-Some-clause-value c = lines-cut c.args.bytes.now c.in-Some.line.now c.in-Some.rest.now (sym c.in-Some.ensures.value)

pub returns-in-None-clause-value : goal.returns-in-None-clause-value
returns-in-None-clause-value c =
    let some : 0 < length c.args.bytes.now = search rules in
    lines-uncut c.args.bytes.now (sym c.in-None.ensures.value) some
    ∙ ap₂ (λ f k. f ∷ lines_of k) (sym (c.split_at.ensures.front ∙ take_all (length c.args.bytes.now) c.args.bytes.now (omega arith))) (sym (c.split_at.ensures.back ∙ drop_all (length c.args.bytes.now) c.args.bytes.now (omega arith)))

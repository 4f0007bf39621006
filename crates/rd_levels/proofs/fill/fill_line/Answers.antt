use Rattle.std.proofs.Common.{length, replicate, ap, sym, ◌∙◌}
use Rattle.rd_levels.specs.Levels.{line_levels}
use Rattle.rd_levels.proofs.FromLeft.{from-left}
use Rattle.rd_levels.proofs.fill.fill_line.Goals as goal

pub returns-then-are_leveled : goal.returns-then-are_leveled
returns-then-are_leveled c =
    let cs = c.args.classes.now in
    let entries = c.args.brackets.now in
    let codes = c.args.codes.now in
    c.in_ok-refill.ensures.ok.levels ∙ ap (replicate (length cs)) c.if-base-eq0.true
    ∙ sym (from-left entries cs codes (sym c.are_leveled.ensures ∙ c.if-are_leveled.true))
    ∙ sym (ap (λ b. line_levels entries b cs codes) c.if-base-eq0.true)

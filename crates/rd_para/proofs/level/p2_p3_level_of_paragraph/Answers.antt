use Rattle.std.proofs.Common.{ℕ, Option, sym, ap, ◌∙◌}
use Rattle.std.specs.Prelude.{unwrap_or}
use Rattle.rd_para.proofs.Cuts.{decided_none, line_cut_to}
use Rattle.rd_para.proofs.level.p2_p3_level_of_paragraph.Goals as goal

pub returns-then-is_blank_line : goal.returns-then-is_blank_line
returns-then-is_blank_line c =
    let t = c.args.text.now in
    let to = c.next_newline-to.result in
    let cut = line_cut_to t c.args.from to c.end-end.ensures.right c.requires.0 c.requires.1 c.next_newline-to.ensures in
    let none = decided_none c.args.classes.now t c.args.from to cut (sym c.is_blank_line.ensures ∙ c.if-is_blank_line.true) in
    sym (ap (λ (o : Option ℕ). unwrap_or o 0) none)

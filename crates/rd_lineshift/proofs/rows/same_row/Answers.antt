use Rattle.std.proofs.Common.{◌∙◌, sym}
use Rattle.rd_lineshift.proofs.Sameness.{prints-apart}
use Rattle.rd_lineshift.proofs.rows.same_row.Goals as goal

pub returns-then-old_print-new_print : goal.returns-then-old_print-new_print
returns-then-old_print-new_print c =
    prints-apart c.args.old.now c.args.new.now c.requires.length (λ e. c.if-old_print-new_print.true (c.requires.old_print ∙ e ∙ sym c.requires.new_print))

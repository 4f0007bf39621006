use Rattle.std.proofs.Common.{ap}
use Rattle.std.specs.Prelude.{codes}
use Rattle.rd_base.specs.declared.limits.TheConstants.{STRING_COLUMNS}
use Rattle.rd_script.specs.declared.op.Op.TheVariants as ops
use Rattle.rd_script.specs.Fields.{within, required}
use Rattle.rd_script.specs.Table.{window_row}
use Rattle.rd_script.proofs.Taking.{Left, all-left, taken, last-taken, last-refused}
use Rattle.rd_script.proofs.window_row.read_window.Goals as goal
use Rattle.rd_script.proofs.window_row.read_window.Goals.{In_ok-within-in-Margin}

-- what is left of the fields of margins behind the columns of numbers
left : (c : goal.In_ok-within-in-Margin) → Left (window_row c.args.op) c.args.asked.now c.within-in-Margin.new.asked (required (codes "strings") (within 0 STRING_COLUMNS))
    (λ strings. ops.Margin c.in_ok-window.window c.in_ok-within-in-Margin.field-0 strings)
left c = taken _ _ (taken _ _ (all-left (window_row c.args.op) c.args.asked.now _ _ (ap window_row c.in-Margin.is)) c.in_ok-window.ensures) c.in_ok-within-in-Margin.ensures

pub returns-in_err-within-in-Margin-2 : goal.returns-in_err-within-in-Margin-2
returns-in_err-within-in-Margin-2 c =
    last-refused _ _ _ c.from_residual-in_err-within-in-Margin-2.ensures.1 (left (goal.at.returns-in_err-within-in-Margin-2 c).In_ok-within-in-Margin) c.in_err-within-in-Margin-2.ensures

pub returns-in_ok-within-in-Margin-2 : goal.returns-in_ok-within-in-Margin-2
returns-in_ok-within-in-Margin-2 c = last-taken (left (goal.at.returns-in_ok-within-in-Margin-2 c).In_ok-within-in-Margin) c.in_ok-within-in-Margin-2.ensures

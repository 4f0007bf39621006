use Rattle.std.proofs.Common.{◌≡◌, Result, Option, false, length, sym, subst, arith}
use Rattle.std.specs.Prelude.{nat_lt}
use Rattle.std.proofs.lemmas.Bool.Decides.{nat_tests}
use Rattle.rd_base.specs.declared.limits.TheConstants.{LINE_BYTES}
use Rattle.rd_script.specs.declared.op.Op.{Op}
use Rattle.rd_embed.specs.Calls.{IsLineStop, asked_line}
use Rattle.rd_embed.specs.declared.ending.Ending.{Ending}
use Rattle.rd_embed.proofs.Stops.{line-said}
use Rattle.rd_run.specs.Runs.{is_blank}
use Rattle.rd_embed.proofs.lines.do_line.Goals as goal

pub returns-in-Err-clause-does : goal.returns-in-Err-clause-does
returns-in-Err-clause-does g c =
    let long : nat_lt LINE_BYTES (length c.args.line.now) ≡ false = grind (arith, nat_tests) in
    let blank : is_blank c.args.line.now ≡ false = cc in
    c.stop_line-in-Err.ensures (asked_line c.args.line.now)
    (subst (λ (e : Ending). IsLineStop e (asked_line c.args.line.now)) (sym c.no_op.ensures) (line-said c.in-Err.fault c.args.line.now long blank c.in-Err.ensures.read))

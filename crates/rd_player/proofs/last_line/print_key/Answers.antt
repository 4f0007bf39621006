use Rattle.std.proofs.Common.{ap, sym, List, ℕ, option_map, Bor}
use Rattle.rd_base.specs.Chars.{encoded}
use Rattle.rd_dump.proofs.Writing.{prints-as, prints-failed, prints-then}
use Rattle.rd_run.specs.Reports.{named_key}
use Rattle.rd_player.proofs.last_line.print_key.Goals as goal

pub returns-in_err-write_whole-in-Some : goal.returns-in_err-write_whole-in-Some
returns-in_err-write_whole-in-Some g c =
    prints-as _ _ _ _ _ _ _ (ap (λ o. named_key (option_map (λ (k : Bor (List ℕ)). k.now) o)) (sym c.in-Some.is))
    (prints-failed _ _ _ _ _ _ _ _ c.in_err-write_whole-in-Some.ensures c.from_residual.ensures.0)

pub returns-in_ok-write_whole-in-Some : goal.returns-in_ok-write_whole-in-Some
returns-in_ok-write_whole-in-Some g c =
    prints-as _ _ _ _ _ _ _ (ap (λ o. named_key (option_map (λ (k : Bor (List ℕ)). k.now) o)) (sym c.in-Some.is))
    (prints-then _ _ _ _ _ _ _ _ _ _ c.in_ok-write_whole-in-Some.ensures (c.print_each.ensures encoded (λ sink left ch result printed. printed)))

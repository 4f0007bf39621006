use Rattle.rd_dump.specs.Dumps.{token_text}
use Rattle.rd_dump.proofs.print.print_tokens.Goals as goal

pub returns : goal.returns
returns g c = c.print_each.ensures token_text (λ sink left token result printed. printed)

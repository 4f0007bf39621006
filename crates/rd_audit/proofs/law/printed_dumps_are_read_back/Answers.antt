use Rattle.std.proofs.Common.{ap, sym, ◌∙◌, [], append-nil}
use Rattle.std.proofs.lemmas.List.Elements.{All-nil}
use Rattle.std.specs.Prelude.{◌≡◌, false}
use Rattle.rd_dump.specs.Dumps.{dump_text}
use Rattle.rd_audit.specs.Dumps.{dump_in}
use Rattle.rd_audit.specs.Rows.{is_cursor}
use Rattle.rd_audit.proofs.ReadBack.{read-first, read-last}
use Rattle.rd_audit.proofs.law.printed_dumps_are_read_back.Goals as goal

pub returns-clause-alone : goal.returns-clause-alone
returns-clause-alone c picture windows h =
    ap dump_in (sym (append-nil (dump_text picture windows))) ∙ read-first picture windows [] h (All-nil (λ l. is_cursor l ≡ false))

pub returns-clause-first : goal.returns-clause-first
returns-clause-first c picture windows after h none = read-first picture windows after h none

pub returns-clause-last : goal.returns-clause-last
returns-clause-last c picture windows before after h some none = read-last picture windows before after h some none

use Rattle.std.proofs.lemmas.Result.{err_from_is_err_and}
use Rattle.rd_files.proofs.Orders.{unread}
use Rattle.rd_files.proofs.files.read_judged.Goals as goal

pub returns-in_err-bytes-clause-read : goal.returns-in_err-bytes-clause-read
returns-in_err-bytes-clause-read g c = λ form judges.
    let passed = err_from_is_err_and c.from_residual.result c.from_residual.ensures.1 in
    rw (passed.1, passed.2) (unread c.args.file form _ _ c.in_err-bytes.field-0.0 c.in_err-bytes.ensures.read)

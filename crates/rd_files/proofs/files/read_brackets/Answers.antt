use Rattle.rd_ucd.specs.BracketFile.{brackets_of}
use Rattle.rd_files.proofs.Numbers.{brackets-within, line-fits}
use Rattle.rd_files.proofs.files.read_brackets.Goals as goal

pub read_judged-requires-clause-lines : goal.read_judged-requires-clause-lines
read_judged-requires-clause-lines g c = λ bytes fault small judged. line-fits (brackets_of bytes.now) bytes.now fault small (brackets-within bytes.now) judged.1

pub returns-in-Some-clause-read : goal.returns-in-Some-clause-read
returns-in-Some-clause-read g c = rw c.in-Some.is (c.read_judged.ensures.read brackets_of (λ bytes answer judged. judged.1))

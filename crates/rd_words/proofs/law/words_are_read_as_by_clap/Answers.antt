use Rattle.std.proofs.Common.{sym}
use Rattle.rd_words.proofs.Exact.{exact}
use Rattle.rd_words.proofs.law.words_are_read_as_by_clap.Goals as goal

pub returns : goal.returns
returns c = λ words. sym (exact words)

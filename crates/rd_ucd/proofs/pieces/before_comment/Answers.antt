use Rattle.std.proofs.Common.{[], get_or, sym, ap}
use Rattle.rd_ucd.proofs.pieces.before_comment.Goals as goal

pub returns : goal.returns
returns c = sym (ap (λ pieces. get_or pieces 0 []) c.split_first.ensures.first)

use Rattle.std.proofs.Common.{refl}
use Rattle.rd_rows.proofs.Fill.{cut-draft}
use Rattle.rd_rows.proofs.draft.Draft.cut_back.Goals as goal

pub returns-clause-cut : goal.returns-clause-cut
returns-clause-cut c = λ shape lead start xs ys d k. cut-draft shape lead start xs ys c.args.self.now _ c.args.place d k c.truncate.ensures c.truncate-2.ensures refl refl

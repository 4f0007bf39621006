use Rattle.std.proofs.Common.{◌<◌, length}
use Rattle.rd_base.proofs.Lists.{all-at}
use Rattle.rd_resolve.proofs.Places.{types-left}
use Rattle.rd_resolve.proofs.walk.walked_character.Goals as goal

pub at-requires : goal.at-requires
at-requires c =
    all-at (λ j. j < length c.args.line.now.classes) c.args.seq.now.indexes c.args.k c.at-index.result c.requires.within c.at-index.ensures

pub returns-clause-inside : goal.returns-clause-inside
returns-clause-inside c =
    all-at (λ j. j < length c.args.line.now.classes) c.args.seq.now.indexes c.args.k c.at-index.result c.requires.within c.at-index.ensures

pub returns-clause-left : goal.returns-clause-left
returns-clause-left c = types-left c.args.seq.now.indexes c.args.k c.at-index.result c.at-index.ensures c.args.line.now.types c.at-2.result _ _ _ c.at-2.ensures c.split_at.ensures.back c.as_slice.ensures c.as_slice-2.ensures

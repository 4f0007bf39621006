use Rattle.rd_glyphs.proofs.Measures.{on_blank-measured}
use Rattle.rd_glyphs.proofs.looks.on_blank.Goals as goal

pub returns-clause-measured : goal.returns-clause-measured
returns-clause-measured c = λ mark. on_blank-measured c.args.code mark.0 mark.1

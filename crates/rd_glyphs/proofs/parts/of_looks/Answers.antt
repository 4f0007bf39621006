use Rattle.std.proofs.Common.{rules}
use Rattle.rd_glyphs.specs.Characters.{element_of}
use Rattle.rd_glyphs.proofs.parts.of_looks.Goals as goal

pub returns-clause-value : goal.returns-clause-value
returns-clause-value c = c.made_of.ensures.value (element_of c.args.face c.args.origin) (λ x e told. search rules)

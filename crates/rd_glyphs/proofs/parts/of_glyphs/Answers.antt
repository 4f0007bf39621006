use Rattle.std.proofs.Common.{rules}
use Rattle.rd_base.specs.declared.element.Look.TheVariants.{Glyph}
use Rattle.rd_glyphs.specs.Characters.{element_of}
use Rattle.rd_glyphs.proofs.parts.of_glyphs.Goals as goal

pub returns : goal.returns
returns c = c.made_of.ensures.value (λ glyph. element_of c.args.face c.args.origin (Glyph glyph)) (λ x e told. search rules)

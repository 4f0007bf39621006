use Rattle.std.proofs.Common.{Some, None, ap, sym, ◌∙◌}
use Rattle.rd_embed.specs.Spelling.{character_bytes}
use Rattle.rd_embed.proofs.Codes.{spelt-at, none-past}
use Rattle.rd_embed.proofs.spelling.CharactersTexts.spell.Goals as goal

pub returns-in-Some-clause-spelt : goal.returns-in-Some-clause-spelt
returns-in-Some-clause-spelt c =
    spelt-at character_bytes c.args.self.now.text.now c.args.self.now.from c.args.self.now.to c.args.i (Some c.in-Some.character) c.args.self.now.within c.requires
    (sym c.in-Some.is ∙ c.fetch.ensures)
    ∙ ap Some (ap character_bytes (sym c.code.ensures.value) ∙ sym c.spell_character.ensures.spelt)

pub returns-in-None-clause-spelt : goal.returns-in-None-clause-spelt
returns-in-None-clause-spelt c =
    absurd (none-past _ _ (spelt-at character_bytes c.args.self.now.text.now c.args.self.now.from c.args.self.now.to c.args.i None c.args.self.now.within c.requires
    (sym c.in-None.is ∙ c.fetch.ensures)) c.requires)

use Rattle.std.proofs.Common.{Some, None, ap, sym, ◌∙◌}
use Rattle.std.specs.Prelude.{option_map}
use Rattle.std.specs.Str.{chars}
use Rattle.std.proofs.lemmas.Option.{slice_get-map}
use Rattle.rd_base.specs.Chars.{encoded}
use Rattle.rd_embed.proofs.Codes.{none-past}
use Rattle.rd_embed.proofs.spelling.NameTexts.spell.Goals as goal

pub returns-in-Some-clause-spelt : goal.returns-in-Some-clause-spelt
returns-in-Some-clause-spelt c =
    slice_get-map encoded (chars c.args.self.now.name.now) c.args.i ∙ ap (option_map encoded) (sym c.character_at.ensures ∙ c.in-Some.is) ∙ ap Some (sym c.put_scalar.ensures.put)

pub returns-in-None-clause-spelt : goal.returns-in-None-clause-spelt
returns-in-None-clause-spelt c =
    absurd (none-past _ _ (slice_get-map encoded (chars c.args.self.now.name.now) c.args.i ∙ ap (option_map encoded) (sym c.character_at.ensures ∙ c.in-None.is)) c.requires)

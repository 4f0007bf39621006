use Rattle.std.proofs.Common.{◌≡◌, rules, length, sym, ◌∙◌}
use Rattle.std.specs.Str.{chars}
use Rattle.std.proofs.lemmas.List.{length-map}
use Rattle.std.proofs.lemmas.Str.{chars_from_encodes}
use Rattle.rd_base.specs.Chars.{encoded}
use Rattle.rd_embed.proofs.spelling.NameTexts.count.Goals as goal

pub returns : goal.returns
returns c = let n : c.count.result ≡ length (chars c.args.self.now.name.now) = search (rules, chars_from_encodes) in n ∙ sym (length-map (chars c.args.self.now.name.now) encoded)

use Rattle.std.proofs.Common.{ap, ◌∙◌}
use Rattle.std.proofs.lemmas.Str.{is_utf8-from_IsUtf8}
use Rattle.rd_script.specs.Forms.{is_text}
use Rattle.rd_embed.proofs.Stops.{text-scalars}
use Rattle.rd_embed.proofs.asking.characters_of.Goals as goal

pub returns-in-Ok : goal.returns-in-Ok
returns-in-Ok c = (is_utf8-from_IsUtf8 c.args.text.now c.utf8.text, c.in-Ok.ensures, ap is_text c.in-Ok.ensures ∙ text-scalars c.args.text.now c.utf8.text)

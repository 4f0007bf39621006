use Rattle.rd_script.proofs.Texts.{texts-scalar}
use Rattle.rd_script.proofs.text_form.scalars.Goals as goal

pub returns-clause-scalars : goal.returns-clause-scalars
returns-clause-scalars c = texts-scalar c.characters.result c.args.text.now c.utf8.text c.characters.ensures

use Rattle.std.proofs.Common.{◌==◌, ap, ◌∙◌}
use Rattle.rd_text.specs.Texts.{is_newline}
use Rattle.rd_text.specs.declared.stretch.Stretch.{Stretch}
use Rattle.rd_base.proofs.Lists.{none_counted}
use Rattle.rd_text.proofs.stretch.Stretch.lacks.Goals as goal

pub returns-in-Newline : goal.returns-in-Newline
returns-in-Newline c codes is = rw c.in-Newline.is (ap (λ (s : Stretch). s.newlines == 0) is ∙ none_counted is_newline codes)

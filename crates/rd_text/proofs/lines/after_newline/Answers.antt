use Rattle.rd_text.proofs.Summaries.{suffix_absent}
use Rattle.rd_text.specs.Texts.{is_newline}
use Rattle.rd_text.proofs.lines.after_newline.Goals as goal

pub returns-in-None-clause-value : goal.returns-in-None-clause-value
returns-in-None-clause-value c = suffix_absent is_newline c.args.codes.now c.in-None.ensures

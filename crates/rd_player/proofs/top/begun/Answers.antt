use Rattle.rd_words.specs.Command.{ReadsWords, meaning, texts}
use Rattle.rd_words.specs.Words.{values_of}
use Rattle.std.proofs.Common.{Some, Err, sym, ap, subst, ◌∙◌}
use Rattle.rd_player.proofs.Opening.{begins-as, faulty-begins}
use Rattle.rd_player.proofs.top.begun.Goals as goal

pub returns-in-Ok-clause-begins : goal.returns-in-Ok-clause-begins
returns-in-Ok-clause-begins g c =
    begins-as c.begun_with.result (values_of (texts c.args.words.items)) (Some (meaning c.in-Ok.words)) (g.F.Files.contents c.args.files.now) (g.F.Files.faults c.args.files.now) (g.F.Files.faults c.begun_with.new.files)
    (ap (λ words. values_of (texts words)) (sym c.as_slice.ensures.value) ∙ c.in-Ok.ensures)
    c.begun_with.ensures.begins

pub returns-in-Err-Usage-clause-begins : goal.returns-in-Err-Usage-clause-begins
returns-in-Err-Usage-clause-begins g c =
    faulty-begins c.in-Err-Usage.field-0 (values_of (texts c.args.words.items)) (g.F.Files.contents c.args.files.now) (g.F.Files.faults c.args.files.now) c.in-Err-Usage.field-0-is
    (subst (λ words. ReadsWords (Err c.in-Err-Usage.field-0) (values_of (texts words))) c.as_slice.ensures.value c.in-Err-Usage.ensures)

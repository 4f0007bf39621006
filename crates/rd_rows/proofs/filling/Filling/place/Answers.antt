use Rattle.rd_rows.proofs.Fill.{grown}
use Rattle.std.proofs.lemmas.Result.{on_ok_weaker}
use Rattle.rd_rows.proofs.filling.Filling.place.Goals as goal

pub returns : goal.returns
returns c =
    on_ok_weaker c.note.result (λ h lead start xs f. h lead start xs (grown c.args.shape lead start xs c.args.element.now c.args.self.now.draft c.place.new.self f.draft c.in_ok-place.ensures) f.noted) c.note.ensures

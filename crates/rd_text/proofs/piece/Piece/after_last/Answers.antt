use Rattle.std.proofs.Common.{◌∙◌, sym}
use Rattle.std.proofs.lemmas.Bool.{not-true}
use Rattle.rd_text.specs.Pieces.{is_sought}
use Rattle.rd_text.proofs.Summaries.{suffix_passes, none_seen}
use Rattle.rd_text.proofs.piece.Piece.after_last.Goals as goal

pub returns-in-Some-clause-value : goal.returns-in-Some-clause-value
returns-in-Some-clause-value c =
    let codes = c.args.self.now.codes.now in
    let sought = is_sought c.args.sought in
    let known = rw c.in-Some.is at c.requires.known_right in
    let lacks = rw c.in-Some.is at c.lacks.ensures in
    suffix_passes sought codes (λ k less. none_seen sought codes k (not-true _ (sym (lacks codes known) ∙ c.if-lacks.true)) less)

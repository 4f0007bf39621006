use Rattle.std.proofs.Common.{◌∙◌, sym}
use Rattle.std.proofs.lemmas.Bool.{not-true}
use Rattle.rd_text.specs.Texts.{is_newline}
use Rattle.rd_text.proofs.Summaries.{prefix_passes, none_seen}
use Rattle.rd_text.proofs.piece.Piece.before_newline.Goals as goal

pub returns-in-Some-clause-value : goal.returns-in-Some-clause-value
returns-in-Some-clause-value c =
    let codes = c.args.self.now.codes.now in
    let known = rw c.in-Some.is at c.requires.known_right in
    let lacks = rw c.in-Some.is at c.lacks.ensures in
    prefix_passes is_newline codes (λ k less. none_seen is_newline codes k (not-true _ (sym (lacks codes known) ∙ c.if-lacks.true)) less)

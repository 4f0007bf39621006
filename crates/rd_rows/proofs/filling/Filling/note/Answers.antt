use Rattle.std.proofs.Common.{sym, ◌∙◌}
use Rattle.rd_rows.proofs.Fill.{filled-more, noted-here}
use Rattle.rd_rows.proofs.Waiting.{noted-some, noted-still}
use Rattle.rd_rows.proofs.filling.Filling.note.Goals as goal

pub returns-then-is_break : goal.returns-then-is_break
returns-then-is_break c = λ lead start xs d h. record {
  draft = d;
  empty = filled-more xs c.args.element.now c.args.self.now.empty c.requires;
  noted = noted-here c.args.shape lead start xs c.args.element.now c.here.result c.clear.new.self (sym c.wraps_words.ensures ∙ c.if-not-wraps_words.false) (sym c.is_break.ensures ∙ c.if-is_break.true)
      (c.here.ensures c.args.shape lead start _ d) c.clear.ensures;
}

pub returns-in_ok-push : goal.returns-in_ok-push
returns-in_ok-push c = λ lead start xs d h. record {
  draft = d;
  empty = filled-more xs c.args.element.now c.args.self.now.empty c.requires;
  noted = noted-some c.args.shape lead start xs c.args.element.now c.args.self.now.last_break c.args.self.now.waiting c.push.new.self (sym c.is_some.ensures ∙ c.if-is_some.true)
      (sym c.is_break.ensures ∙ c.if-is_break.false) c.in_ok-push.ensures.ok h;
}

pub returns-else-is_some : goal.returns-else-is_some
returns-else-is_some c = λ lead start xs d h. record {
  draft = d;
  empty = filled-more xs c.args.element.now c.args.self.now.empty c.requires;
  noted = noted-still c.args.shape lead start xs c.args.element.now c.args.self.now.last_break c.args.self.now.waiting (sym c.is_some.ensures ∙ c.if-is_some.false)
      (sym c.wraps_words.ensures ∙ c.if-not-wraps_words.false) (sym c.is_break.ensures ∙ c.if-is_break.false) h;
}

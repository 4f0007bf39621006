use Rattle.rd_views.proofs.Answering.{hit-answers}
use Rattle.rd_views.proofs.views.Views.hit.Goals as goal

pub returns-clause-applies : goal.returns-clause-applies
returns-clause-applies c =
    hit-answers c.pass_on.result c.args.window c.from.result c.in_ok-pos.pos c.args.row c.args.column c.args.self.now c.pass_on.new.self c.pass_on.ensures.applies c.from.ensures c.in_ok-pos.ensures.points

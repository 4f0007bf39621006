use Rattle.rd_views.proofs.Answering.{go-answers}
use Rattle.rd_views.proofs.views.Views.go.Goals as goal

pub returns : goal.returns
returns c =
    go-answers c.pass_on.result c.args.window c.from.result c.in_ok-pos.pos c.args.to_the_right c.args.self.now c.pass_on.new.self c.pass_on.ensures.applies c.from.ensures c.in_ok-pos.ensures

use Rattle.std.proofs.Common.{None, Some}
use Rattle.rd_player.specs.Acts.{standing}
use Rattle.rd_player.proofs.Acting.{borne, op-acts}
use Rattle.rd_player.proofs.act.Playing.act.Goals as goal

pub returns-in-None-clause-acts : goal.returns-in-None-clause-acts
returns-in-None-clause-acts g c =
    op-acts c.apply.result (standing c.args.self.now) (standing c.apply.new.self) c.args.op _ _ c.asked.result None c.asked.ensures c.in-None.is
    (c.apply.ensures.acts (g.K.Sink.written c.args.screen.now) (g.R.Sink.written c.args.report.now) (g.K.Sink.faults c.args.screen.now) (g.R.Sink.faults c.args.report.now))

pub returns-in-Some-clause-acts : goal.returns-in-Some-clause-acts
returns-in-Some-clause-acts g c =
    op-acts c.show.result (standing c.args.self.now) (standing c.show.new.self) c.args.op _ _ c.asked.result (Some c.in-Some.stop) c.asked.ensures c.in-Some.is c.show.ensures.acts

pub returns-in-Some-clause-free : goal.returns-in-Some-clause-free
returns-in-Some-clause-free g c = borne c.show.result c.args.op c.show.ensures.free

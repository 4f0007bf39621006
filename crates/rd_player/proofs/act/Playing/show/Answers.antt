use Rattle.std.proofs.Common.{◌+◌, true, false}
use Rattle.rd_player.specs.Acts.{standing}
use Rattle.rd_player.proofs.Acting.{broke-acts, sent-acts, stand, starved-acts, told-borne}
use Rattle.rd_player.proofs.act.Playing.show.Goals as goal

pub returns-in-Shown-clause-acts : goal.returns-in-Shown-clause-acts
returns-in-Shown-clause-acts g c =
    let self = c.args.self.now in
    let new = c.redisplay.new.self in
    let h = c.in-Shown.ensures.redisplayed in
    sent-acts c.copies_change_no_op.ensures.facts c.tell_redisplayed.result c.told.result self.dumps self.generated self.lines self.shown self.session new c.args.stop c.in-Shown.rows true
    (standing c.tell_redisplayed.new.self) _ _ _ _ _ _ _ _ (c.in-Shown.ensures.kept (λ e. cc)) c.tell_redisplayed.ensures.same c.told.ensures
    (c.sent_redisplays_are_determined.ensures c.in-Shown.rows true c.args.stop self.session new _ _ h) h c.tell_redisplayed.ensures.printed c.tell_redisplayed.ensures.read

pub returns-in-Stopped-clause-acts : goal.returns-in-Stopped-clause-acts
returns-in-Stopped-clause-acts g c =
    let self = c.args.self.now in
    let new = c.redisplay.new.self in
    let h = c.in-Stopped.ensures.redisplayed in
    sent-acts c.copies_change_no_op.ensures.facts c.tell_redisplayed-in-Stopped.result c.told-in-Stopped.result self.dumps self.generated self.lines self.shown self.session new c.args.stop c.in-Stopped.rows false
    (standing c.tell_redisplayed-in-Stopped.new.self) _ _ _ _ _ _ _ _ (c.in-Stopped.ensures.kept (λ e. cc)) c.tell_redisplayed-in-Stopped.ensures.same c.told-in-Stopped.ensures
    (c.sent_redisplays_are_determined.ensures c.in-Stopped.rows false c.args.stop self.session new _ _ h) h c.tell_redisplayed-in-Stopped.ensures.printed c.tell_redisplayed-in-Stopped.ensures.read

pub returns-in-NoMemory-clause-acts : goal.returns-in-NoMemory-clause-acts
returns-in-NoMemory-clause-acts g c =
    let self = c.args.self.now in
    let h = c.in-NoMemory.ensures.redisplayed in
    starved-acts c.tell_no_memory.result c.told-in-NoMemory.result self.dumps self.generated self.lines self.shown self.session c.redisplay.new.self c.args.stop _ _ _ _ _ _ _ _ (c.in-NoMemory.ensures.kept (λ e. cc)) c.told-in-NoMemory.ensures h.0 h.1
    c.tell_no_memory.ensures

pub returns-in-WriteFault-clause-acts : goal.returns-in-WriteFault-clause-acts
returns-in-WriteFault-clause-acts g c =
    let self = c.args.self.now in
    broke-acts self.dumps self.generated self.lines self.shown (stand self.dumps self.generated (self.lines + 1) self.shown c.redisplay.new.self) self.session c.args.stop _ _ (g.R.Sink.written c.args.report.now) (g.K.Sink.faults c.args.screen.now) (g.K.Sink.faults c.redisplay.new.sink)
    (g.R.Sink.faults c.args.report.now) c.in-WriteFault.ensures.redisplayed.1
    (c.redisplay.ensures.failed c.in-WriteFault.is)

pub returns-in-Shown-clause-free : goal.returns-in-Shown-clause-free
returns-in-Shown-clause-free g c = told-borne c.tell_redisplayed.result c.told.result c.told.ensures

pub returns-in-Stopped-clause-free : goal.returns-in-Stopped-clause-free
returns-in-Stopped-clause-free g c = told-borne c.tell_redisplayed-in-Stopped.result c.told-in-Stopped.result c.told-in-Stopped.ensures

pub returns-in-NoMemory-clause-free : goal.returns-in-NoMemory-clause-free
returns-in-NoMemory-clause-free g c = told-borne c.tell_no_memory.result c.told-in-NoMemory.result c.told-in-NoMemory.ensures

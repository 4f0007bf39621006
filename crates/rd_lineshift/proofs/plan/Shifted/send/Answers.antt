use Rattle.std.proofs.Common.{◌∙◌, ap, length, subst}
use Rattle.std.specs.Io.KnownBytes.{Appends}
use Rattle.rd_update.specs.Updates.{update}
use Rattle.rd_lineshift.specs.Choices.{choice}
use Rattle.rd_lineshift.specs.Plans.{Shifting, after_shift, opening}
use Rattle.rd_io.proofs.Bytes.{writes-then}
use Rattle.rd_lineshift.proofs.Sending.{opening-is, plan-is}
use Rattle.rd_lineshift.proofs.plan.Shifted.send.Goals as goal

pub returns-clause-sends : goal.returns-clause-sends
returns-clause-sends g c = λ current target bands e.
    let taken = choice current target bands in
    let from = after_shift taken current in
    let all = c.as_slice.ensures ∙ ap (λ (s : Shifting). s.opening) (c.self.view_is ∙ e) ∙ opening-is taken current target in
    let plan = ap (λ (s : Shifting). s.plan) (c.self.view_is ∙ e) ∙ plan-is taken current target in
    let old = g.K.Sink.written c.args.sink.now in
    let mid = g.K.Sink.written c.write_whole.new.sink in
    let sends = c.send.ensures.sends from target plan in
    record {
      bytes = writes-then c.send.result old mid (g.K.Sink.written c.send.new.sink) (opening (length target.rows) taken) (update from target c.args.rows_at_most).bytes (subst (Appends old mid) all c.in-Ok.ensures.bytes.whole) sends.bytes;
      sent = sends.sent;
    }

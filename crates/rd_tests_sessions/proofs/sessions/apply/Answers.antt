use Rattle.rd_tests_sessions.proofs.Costing.{op-done}
use Rattle.rd_tests_sessions.proofs.sessions.apply.Goals as goal

pub returns : goal.returns
returns c =
    op-done c.copies_change_no_op.ensures.step c.copies_change_no_op.ensures.behind c.apply.result c.args.op c.args.session.now c.apply.new.self
    c.requires.step c.apply.ensures.applies

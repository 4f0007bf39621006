use Rattle.rd_generate.proofs.Texts.{script-made}
use Rattle.rd_generate.proofs.lines.generated.Goals as goal

pub returns : goal.returns
returns c =
    script-made _ _ _ _ _ _ _ _ _ _ _ _ _ _ _ _ _ c.new-lines.ensures c.in_ok-push.ensures c.in_ok-push-2.ensures c.in_ok-push-3.ensures
    c.in_ok-push_insertions.ensures c.in_ok-push_shown.ensures c.in_ok-push_shown-2.ensures c.in_ok-push_shown-3.ensures c.in_ok-push_shown-4.ensures

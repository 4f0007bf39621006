use Rattle.std.proofs.Common.{◌++◌, ap, ◌∙◌}
use Rattle.rd_stack.specs.Walks.{frames_left}
use Rattle.rd_stack.specs.declared.step.Frame.TheVariants as frame
use Rattle.rd_stack.proofs.Walks.{innermost-first, opened}
use Rattle.rd_stack.proofs.walker.Walker.enter.Goals as goal

pub returns-in_ok-push-clause-left : goal.returns-in_ok-push-clause-left
returns-in_ok-push-clause-left c =
    let fs = c.args.self.now.frames.items in
    ap frames_left c.in_ok-push.ensures.ok
    ∙ innermost-first fs (frame.Text c.in-Some.string)
    ∙ ap (λ l. l ++ frames_left fs) (opened c.in_ok-string.field-0 c.args.entrance.now c.in-Some.string c.in_ok-string.ensures c.in-Some.is)

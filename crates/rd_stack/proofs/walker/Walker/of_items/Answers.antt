use Rattle.std.proofs.Common.{ap, ◌∙◌}
use Rattle.rd_items.specs.Pieces.{scene_of}
use Rattle.rd_stack.specs.Lines.{item_turns}
use Rattle.rd_stack.specs.Steps.{elements_in}
use Rattle.rd_stack.specs.Walks.{walk_left}
use Rattle.rd_stack.specs.declared.walker.Walker.{Walker}
use Rattle.rd_stack.proofs.Elements.{line-elements, if-made}
use Rattle.rd_stack.proofs.walker.Walker.of_items.Goals as goal

pub returns : goal.returns
returns c =
    let s = scene_of c.args.view in
    let items = c.args.items in
    if-made (λ (w : Walker). walk_left w.few w.frames.items) c.from_frame.result (elements_in c.in_ok-line.line) _ c.from_frame.ensures
    (ap elements_in c.in_ok-line.ensures ∙ line-elements s c.args.base items (item_turns s c.args.base items))

use Rattle.std.proofs.Common.{sym, ◌∙◌, arith}
use Rattle.rd_base.proofs.Lists.{drop-at}
use Rattle.rd_order.specs.Order.{l2_visual_order}
use Rattle.rd_order.proofs.Steps.{gives-within}
use Rattle.rd_order.proofs.visual.Visual.next.Goals as goal

pub l2_following-self-requires : goal.l2_following-self-requires
l2_following-self-requires c = (gives-within c.args.self.now.base c.args.self.now.given c.in_ok-place.place c.args.levels.now (sym c.requires.place ∙ c.in_ok-place.was)).1

pub returns-clause-walk : goal.returns-clause-walk
returns-clause-walk c =
    let at = sym c.requires.place ∙ c.in_ok-place.was in
    let within = (gives-within c.args.self.now.base c.args.self.now.given c.in_ok-place.place c.args.levels.now at).0 in
    record { place = sym (c.l2_following-self.ensures c.args.self.now.given at); given = omega arith; base = c.requires.base }

pub returns-clause-gives : goal.returns-clause-gives
returns-clause-gives c =
    drop-at (l2_visual_order c.args.self.now.base c.args.levels.now) c.args.self.now.given c.in_ok-place.place (sym c.requires.place ∙ c.in_ok-place.was)

pub returns-clause-within : goal.returns-clause-within
returns-clause-within c = (gives-within c.args.self.now.base c.args.self.now.given c.in_ok-place.place c.args.levels.now (sym c.requires.place ∙ c.in_ok-place.was)).1

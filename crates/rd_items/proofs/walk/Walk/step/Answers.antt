use Rattle.std.proofs.Common.{sym, ◌∙◌}
use Rattle.rd_props.specs.Buffers.{files_of, meaning}
use Rattle.rd_items.specs.Walks.{whole}
use Rattle.rd_items.proofs.Steps.{IsStep, step-ends, step-goes}
use Rattle.rd_items.proofs.walk.Walk.step.Goals.{After-shows_ender}
use Rattle.rd_items.proofs.walk.Walk.step.Goals as goal

-- the step that was made
made : (c : goal.After-shows_ender) → IsStep
    (meaning c.args.view.now.state.now) c.args.view.now.objects.now (files_of c.args.view.now)
    c.args.start c.args.pos c.in_ok-to.to c.in_ok-showing.showing c.piece_at-piece.result
    (whole c.args.self.now.items c.args.self.now.since c.args.self.now.held)
    (whole c.enter.new.self.items c.enter.new.self.since c.enter.new.self.held)
    (whole c.put.new.self.items c.put.new.self.since c.put.new.self.held)
made c = record { strings = c.in_ok-showing.ensures.whole; put = c.in_ok-put.ensures; shown = c.in_ok-showing.ensures.showing; run = c.in_ok-to.ensures.end; piece = c.piece_at-piece.ensures ∙ rw c.char_at-ch.ensures; first = c.requires.behind; last = c.requires.accessible.1 }

pub returns-then-shows_ender-clause-steps : goal.returns-then-shows_ender-clause-steps
returns-then-shows_ender-clause-steps c =
    step-ends _ _ _ _ _ _ _ _ _ _ _ (made (goal.at.returns-then-shows_ender-clause-steps c).After-shows_ender) (sym c.shows_ender.ensures ∙ c.if-shows_ender.true)

pub returns-clause-steps : goal.returns-clause-steps
returns-clause-steps c =
    step-goes _ _ _ _ _ _ _ _ _ _ _ (made (goal.at.returns-clause-steps c).After-shows_ender) (sym c.shows_ender.ensures ∙ c.if-shows_ender.false)

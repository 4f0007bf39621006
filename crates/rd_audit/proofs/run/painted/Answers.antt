use Rattle.std.proofs.Common.{◌==◌, ℕ, List, refl, tests, rules}
use Rattle.std.proofs.lemmas.Iterator.Consumers.{YieldsList-at}
use Rattle.std.proofs.lemmas.Iterator.Splits.{YieldsList-from_slice_split}
use Rattle.rd_base.specs.declared.cell.Cell.{Cell}
use Rattle.rd_audit.specs.Cuts.{pieces}
use Rattle.rd_audit.specs.FaceRuns.{with_face_run, painted}
use Rattle.rd_audit.proofs.Yielded.{Goes, goes}
use Rattle.rd_audit.proofs.run.painted.Goals.{After-next}
use Rattle.rd_audit.proofs.run.painted.Goals as goal

-- the cells by the next run, or at the end
left : (c : After-next) → Goes (λ x. x.now) (λ (a : ℕ × List Cell). painted a.0 a.1) (λ a. with_face_run a.0 a.1) (pieces 32 c.args.runs.now) c.loop-text.yielded (c.loop-text.from, c.loop-text.cells) c.next.result (painted 0 c.args.cells (pieces 32 c.args.runs.now))
left c =
    goes (λ b x xs. refl)
    (YieldsList-at c.into_iter-text-iterator.ensures.into_iter_gives
    (YieldsList-from_slice_split _ (λ b. b == 32) c.args.runs.now c.split-text-items.ensures.rest c.split-text-items.ensures.done c.split-text-items.ensures.closure (λ x b q k. search (rules, tests))))
    c.loop-text.yielded _ c.loop-text.yielded_by _ _ c.next.ensures.steps c.loop-text.invariant

pub returns-in_err-from : goal.returns-in_err-from
returns-in_err-from c = let here = (left (goal.at.returns-in_err-from c).After-next).on c.in-Some.text c.in-Some.is in search rules

pub loop-text-preserved : goal.loop-text-preserved
loop-text-preserved c = let here = (left (goal.at.loop-text-preserved c).After-next).on c.in-Some.text c.in-Some.is in search rules

pub returns : goal.returns
returns c = (left (goal.at.returns c).After-next).out c.in-None.is

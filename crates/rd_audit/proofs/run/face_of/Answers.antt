use Rattle.std.proofs.Common.{◌==◌, ℕ, refl, tests, rules}
use Rattle.std.proofs.lemmas.Iterator.Consumers.{YieldsList-at}
use Rattle.std.proofs.lemmas.Iterator.Splits.{YieldsList-from_slice_split}
use Rattle.rd_base.specs.Faces.{Attributes}
use Rattle.rd_audit.specs.Cuts.{pieces}
use Rattle.rd_audit.specs.FaceRuns.{with_number, face_from, face_of}
use Rattle.rd_audit.proofs.Yielded.{Goes, goes}
use Rattle.rd_audit.proofs.run.face_of.Goals.{After-next}
use Rattle.rd_audit.proofs.run.face_of.Goals as goal

-- the face by the next number, or at the end
left : (c : After-next) → Goes (λ x. x.now) (λ (a : ℕ × Attributes). face_from a.0 a.1) (λ a. with_number a.0 a.1) (pieces 59 c.args.codes.now) c.loop-text.yielded (c.loop-text.place, c.loop-text.face) c.next.result (face_of c.args.codes.now)
left c =
    goes (λ b x xs. refl)
    (YieldsList-at c.into_iter-text-iterator.ensures.into_iter_gives
    (YieldsList-from_slice_split _ (λ b. b == 59) c.args.codes.now c.split-text-items.ensures.rest c.split-text-items.ensures.done c.split-text-items.ensures.closure (λ x b q k. search (rules, tests))))
    c.loop-text.yielded _ c.loop-text.yielded_by _ _ c.next.ensures.steps c.loop-text.invariant

pub returns-in_err-place : goal.returns-in_err-place
returns-in_err-place c = let here = (left (goal.at.returns-in_err-place c).After-next).on c.in-Some.text c.in-Some.is in search rules

pub loop-text-preserved : goal.loop-text-preserved
loop-text-preserved c = let here = (left (goal.at.loop-text-preserved c).After-next).on c.in-Some.text c.in-Some.is in search rules

pub returns : goal.returns
returns c = (left (goal.at.returns c).After-next).out c.in-None.is

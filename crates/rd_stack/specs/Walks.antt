-- A walk as frames that are stepped in turn.
use Rattle.std.specs.Prelude.{◌≡◌, ℕ, ◌+◌, ◌*◌, ◌^◌, ◌<◌, true, List, [], ◌∷◌, ◌++◌, length}
use Rattle.rd_base.specs.Elements.{AreSound, columns_at_most, ends_once}
use Rattle.rd_base.specs.Glyphs.{AreMeasured}
use Rattle.rd_base.specs.declared.element.Element.{Element}
use Rattle.rd_stack.specs.Steps.{elements_in}
use Rattle.rd_stack.specs.declared.step.Step.{Step}
use Rattle.rd_stack.specs.declared.step.Step.TheVariants.{Ends, Gives, Enters}
use Rattle.rd_stack.specs.declared.step.Frame.{Frame}
use Rattle.rd_stack.specs.declared.step.Frame.TheVariants as frame

-- the element that a step gives alone
abbrev pub given : Step → List Element
given (Gives e) = e ∷ []
given step = []

-- the steps of the string that a step enters
abbrev pub entered : Step → List (List Element)
entered (Enters string) = string
entered step = []

-- a step is the first of the steps that are left: the element that it gives alone, the few that it lists, and then those of a string
-- that is entered for it. Where it ends none is left
abbrev pub IsStep : Step → List Element → List (List Element) → List (List Element) → Type 0
IsStep Ends few old new = (old ≡ []) × (few ≡ [])
IsStep step few old new = old ≡ (given step ++ few) ∷ (entered step ++ new)

-- what a frame has still to give
abbrev pub frame_left : Frame → List (List Element)
frame_left frame.Ended = []
frame_left (frame.Line steps) = steps
frame_left (frame.Text steps) = steps

-- what frames have still to give, from the innermost, which is the last, outwards
abbrev pub frames_left : List Frame → List (List Element)
frames_left [] = []
frames_left (f ∷ fs) = frames_left fs ++ frame_left f

-- what a walk has still to give: a few elements of its innermost frame, and then what the frames have
abbrev pub walk_left : List Element → List Frame → List Element
walk_left few frames = few ++ elements_in (frames_left frames)

-- these are the elements of a line: each is sound and measured, they take fewer than 2^60 columns, and the last and no other is its end
pub record IsLine (line es : List Element) : Type 0 where
  pub left : es ≡ line
  pub sound : AreSound es
  pub measured : AreMeasured es
  pub columns : columns_at_most es < 2 ^ 60
  pub ends : ends_once es ≡ true

-- a step of the last of the frames
pub record StepsInnermost (step : Step) (few : List Element) (old new : List Frame) : Type 0 where
  pub below : List Frame
  pub before : Frame
  pub after : Frame
  pub was : old ≡ below ++ before ∷ []
  pub is : new ≡ below ++ after ∷ []
  pub takes : IsStep step few (frame_left before) (frame_left after)

-- a number that falls with each step of the frames
abbrev pub work : List Frame → ℕ
work frames = 2 * length (frames_left frames) + length frames

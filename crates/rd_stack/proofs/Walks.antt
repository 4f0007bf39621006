-- The frames of a walk, step by step.
use Rattle.std.proofs.Common.{◌≡◌, ℕ, suc, ◌+◌, ◌-◌, ◌<◌, ◌≤◌, List, [], ◌∷◌, ◌++◌, length, take, refl, sym, subst, ap, ◌∙◌, append_assoc, append-nil, length-append, arith}
use Rattle.std.proofs.lemmas.List.{take_all, take_more, take_more_set, length-set}
use Rattle.std.proofs.lemmas.Grind.{common_steps}
use Rattle.std.specs.Prelude.{slice_index_or, slice_set, unwrap_or, Option, Some, Result, Ok, Err, IfOk}
use Rattle.rd_base.specs.declared.element.Element.{Element}
use Rattle.rd_base.specs.declared.memory.Memory.{Memory}
use Rattle.rd_stack.specs.Steps.{elements_in}
use Rattle.rd_stack.specs.Walks.{IsStep, StepsInnermost, frame_left, frames_left, walk_left, work}
use Rattle.rd_stack.specs.declared.step.Step.{Step}
use Rattle.rd_stack.specs.declared.step.Step.TheVariants.{Ends, Gives, Lists, Enters}
use Rattle.rd_stack.specs.declared.step.Frame.{Frame}

-- the innermost frame comes first
pub innermost-first : (fs : List Frame) (f : Frame) → frames_left (fs ++ f ∷ []) ≡ frame_left f ++ frames_left fs
innermost-first [] f = sym (append-nil (frame_left f))
innermost-first (g ∷ fs) f = ap (λ l. l ++ frame_left g) (innermost-first fs f) ∙ append_assoc (frame_left f) (frames_left fs) (frame_left g)

all-but-last : (fs : List Frame) (f : Frame) → take (length (fs ++ f ∷ []) - 1) (fs ++ f ∷ []) ≡ fs
all-but-last fs f = grind (arith, common_steps)

-- ---- a step of the innermost frame

as-long : (fs : List Frame) (n : ℕ) (g : Frame) → length fs ≡ suc n → length (slice_set fs n g) ≤ n + 1
as-long fs n g size =
    let same : length (slice_set fs n g) ≡ length fs = length-set fs n g in
    omega arith

-- the last of the frames is stepped in its place
pub in-place : (result : Result Step Memory) (fs : List Frame) (n : ℕ) (few : List Element) (f g : Frame) → length fs ≡ suc n → f ≡ slice_index_or fs n f
    → IfOk result (λ step. IsStep step few (frame_left f) (frame_left g)) → IfOk result (λ step. StepsInnermost step few fs (slice_set fs n g))
in-place (Ok step) fs n few f g size here first = record {
  below = take n fs;
  before = f;
  after = g;
  was = sym (take_all (n + 1) fs (omega arith)) ∙ take_more fs n f (omega arith) ∙ ap (λ x. take n fs ++ x ∷ []) (sym here);
  is = sym (take_all (n + 1) (slice_set fs n g) (as-long fs n g size)) ∙ take_more_set fs n g (omega arith);
  takes = first;
}
in-place (Err e) fs n few f g size here first = first

module _ (step : Step) (few : List Element) (old new : List Frame) (stands : StepsInnermost step few old new) where
  abbrev before : List (List Element)
  before = frame_left stands.before

  abbrev after : List (List Element)
  after = frame_left stands.after

  takes : (known : Step) → step ≡ known → IsStep known few before after
  takes known is = subst (λ (x : Step). IsStep x few before after) is stands.takes

  left-before : frames_left old ≡ before ++ frames_left stands.below
  left-before = ap frames_left stands.was ∙ innermost-first stands.below stands.before

  left-after : frames_left new ≡ after ++ frames_left stands.below
  left-after = ap frames_left stands.is ∙ innermost-first stands.below stands.after

  -- the innermost frame gives these elements first, and less work is left, also where a string is entered
  taken : (these : List Element) (string : List (List Element)) (more : List Frame) → before ≡ these ∷ (string ++ after)
      → frames_left more ≡ string ++ frames_left new → length more ≤ length new + 1
      → (elements_in (frames_left old) ≡ these ++ elements_in (frames_left more)) × (work more < work old)
  taken these string more first left few-more =
      let begins : frames_left old ≡ these ∷ frames_left more =
      left-before ∙ ap (λ l. l ++ frames_left stands.below) first
      ∙ ap (λ l. these ∷ l) (append_assoc string after (frames_left stands.below) ∙ sym (left ∙ ap (λ l. string ++ l) left-after)) in
      let one : length (frames_left old) ≡ suc (length (frames_left more)) = ap length begins in
      let old-size : length old ≡ length stands.below + 1 = ap length stands.was ∙ length-append stands.below (stands.before ∷ []) in
      let new-size : length new ≡ length stands.below + 1 = ap length stands.is ∙ length-append stands.below (stands.after ∷ []) in
      (ap elements_in begins, omega (arith, one, old-size, new-size, few-more))

  pub gives : (e : Element) → step ≡ Gives e → (elements_in (frames_left old) ≡ e ∷ walk_left few new) × (work new < work old)
  gives e is = taken (e ∷ few) [] new (takes (Gives e) is) refl (omega arith)

  pub lists : step ≡ Lists → (elements_in (frames_left old) ≡ walk_left few new) × (work new < work old)
  lists is = taken few [] new (takes Lists is) refl (omega arith)

  pub enters : (string : List (List Element)) (few-now : List Element) (more : List Frame) → step ≡ Enters string → few-now ≡ few
      → frames_left more ≡ string ++ frames_left new → length more ≤ length new + 1
      → (elements_in (frames_left old) ≡ walk_left few-now more) × (work more < work old)
  enters string few-now more is same left few-more =
      let both = taken few string more (takes (Enters string) is) left few-more in
      (both.0 ∙ sym (ap (λ es. walk_left es more) same), both.1)

  pub ends : (few-now : List Element) (fewer : List Frame) → step ≡ Ends → few-now ≡ few → fewer ≡ take (length new - 1) new
      → (elements_in (frames_left old) ≡ walk_left few-now fewer) × (work fewer < work old)
  ends few-now fewer is same cut =
      let lower : fewer ≡ stands.below =
      cut ∙ subst (λ (l : List Frame). take (length l - 1) l ≡ stands.below) (sym stands.is) (all-but-last stands.below stands.after) in
      let left : frames_left old ≡ frames_left fewer =
      left-before ∙ ap (λ l. l ++ frames_left stands.below) (takes Ends is).0 ∙ sym (ap frames_left lower) in
      let same-steps : length (frames_left old) ≡ length (frames_left fewer) = ap length left in
      let one : length old ≡ length stands.below + 1 = ap length stands.was ∙ length-append stands.below (stands.before ∷ []) in
      let less-by-one : length fewer ≡ length stands.below = ap length lower in
      (ap elements_in left ∙ sym (ap (λ es. walk_left es fewer) (same ∙ (takes Ends is).1)), omega (arith, same-steps, one, less-by-one))

-- the string that was opened
pub opened : (found : Option (List (List Element))) (all string : List (List Element)) → unwrap_or found [] ≡ all → found ≡ Some string → string ≡ all
opened found all string made is = ap (λ f. unwrap_or f []) (sym is) ∙ made

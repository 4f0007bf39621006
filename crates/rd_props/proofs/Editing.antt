-- Insertions and deletions leave what stands before them and one behind them.
use Rattle.std.proofs.Common.{◌≡◌, inl, inr, ℕ, ◌+◌, ◌-◌, ◌<◌, ◌≤◌, List, length, Option, sym, ap, subst, ◌∙◌, arith}
use Rattle.std.proofs.lemmas.Int.{ints}
use Rattle.rd_text.specs.Texts.{TextValue, IsText, IsAccessible}
use Rattle.rd_text.specs.Answers.{IsAccessibleRange}
use Rattle.rd_spans.proofs.Beside.{opened-before, opened-behind, closed-before, closed-behind}
use Rattle.rd_overlays.specs.declared.overlay.Overlay.{Overlay}
use Rattle.rd_objects.specs.Things.{ObjectLists}
use Rattle.rd_props.specs.Buffers.{BufferValue}
use Rattle.rd_props.specs.Agreement.{IsInReach, IsSame, IsEdited}
use Rattle.rd_props.specs.Edits.{AreOrdered, IsInsertion, IsDeletion}
use Rattle.rd_props.proofs.Alike.{SeeSame, seen-agrees}
use Rattle.rd_props.proofs.Texts.{ReadsAlike, inserted-reads-before, inserted-reads-behind, deleted-reads-before, deleted-reads-behind}
use Rattle.rd_props.proofs.Moves.{grown-before, grown-behind, shrunk-before, shrunk-behind}

-- all that two positions see is the same
pub record StaysSame (s : BufferValue) (x : ℕ) (t : BufferValue) (y : ℕ) : Type 0 where
  pub text : ReadsAlike s.text x t.text y
  pub properties : (kind : ℕ) → s.properties kind x ≡ t.properties kind y
  pub overlays : SeeSame x y s.overlays t.overlays

pub same-by : (s t : BufferValue) (objects : ObjectLists) (x y : ℕ) → StaysSame s x t y → IsInReach s x t y → IsSame s objects x t objects y
same-by s t objects x y stays reach =
    let text = stays.text in
    let agree = seen-agrees s t x y (record { character = text.character; inside = text.inside; properties = stays.properties }) stays.overlays objects in
    elim reach [
      | inl within ↦ record { old_within = within; new_within = text.to within; agree = agree }
      | inr within ↦ record { old_within = text.from within; new_within = within; agree = agree }
    ]

-- all that two positions see is the same, where what the texts and the overlays become is known
pub stays-by : (s t : BufferValue) (x y : ℕ) (text : TextValue) (slots : List (Option Overlay)) → t.text ≡ text → t.overlays ≡ slots → ReadsAlike s.text x text y → ((kind : ℕ) → s.properties kind x ≡ t.properties kind y) → SeeSame x y s.overlays slots
    → StaysSame s x t y
stays-by s t x y text slots is are reads properties sees = record {
  text = subst (λ (u : TextValue). ReadsAlike s.text x u y) (sym is) reads;
  properties = properties;
  overlays = subst (λ (os : List (Option Overlay)). SeeSame x y s.overlays os) (sym are) sees;
}

module _ (old new : BufferValue) (objects : ObjectLists) (text : IsText old.text) (ordered : AreOrdered old.overlays) where
  -- an edit, by what it leaves before it and one behind it
  edits-by : (from removed added : ℕ) → new.text.begin ≡ old.text.begin → ((x : ℕ) → x < from → StaysSame old x new x)
      → ((x y : ℕ) → from + added < y → y + removed ≡ x + added → StaysSame old x new y) → IsEdited old objects new objects from removed added
  edits-by from removed added begin before behind = record {
    begin = begin;
    before = λ x low less reach. same-by old new objects x x (before x less) reach;
    behind = λ x y low more is reach. same-by old new objects x y (behind x y (omega arith) (omega (arith, ints, is))) reach;
  }

  module _ (place : ℕ) (chars : List ℕ) (at : IsAccessible old.text place) (edit : IsInsertion old new place chars) where
    first : 1 ≤ place
    first = let begin = text.first in let low = at.0 in omega arith

    within : place ≤ length old.text.text + 1
    within = let end = text.last in let high = at.1 in omega arith

    insertion-before : (x : ℕ) → x < place → StaysSame old x new x
    insertion-before x less =
        stays-by old new x x _ _ edit.text edit.overlays (inserted-reads-before old.text place x chars within at.1 less)
        (λ kind. opened-before (old.properties kind) place (length chars) x less ∙ sym (edit.properties kind x))
        (grown-before place (length chars) x old.overlays ordered less)

    insertion-behind : (x y : ℕ) → place < x → x + length chars ≡ y → StaysSame old x new y
    insertion-behind x y less is =
        stays-by old new x y _ _ edit.text edit.overlays (inserted-reads-behind old.text place x y chars first within (omega arith) is)
        (λ kind. opened-behind (old.properties kind) place (length chars) x y (omega arith) is ∙ sym (edit.properties kind y))
        (grown-behind place (length chars) x y old.overlays ordered less is)

    pub insertion-edits : IsEdited old objects new objects place 0 (length chars)
    insertion-edits =
        edits-by place 0 (length chars) (ap (λ (t : TextValue). t.begin) edit.text) insertion-before
        (λ x y more is. insertion-behind x y (omega arith) (omega (arith, is)))

  module _ (from to : ℕ) (at : IsAccessibleRange old.text from to) (edit : IsDeletion old new from to) where
    start : 1 ≤ from
    start = let begin = text.first in let low = at.first in omega arith

    inside : from ≤ length old.text.text + 1
    inside = let end = text.last in let ordered = at.ordered in let high = at.last in omega arith

    deletion-before : (x : ℕ) → x < from → StaysSame old x new x
    deletion-before x less =
        stays-by old new x x _ _ edit.text edit.overlays (deleted-reads-before old.text from to x inside at.ordered at.last less)
        (λ kind. closed-before (old.properties kind) from to x less ∙ sym (edit.properties kind x))
        (shrunk-before from to x old.overlays at.ordered less)

    deletion-behind : (x y : ℕ) → from < y → y + (to - from) ≡ x → StaysSame old x new y
    deletion-behind x y less is =
        stays-by old new x y _ _ edit.text edit.overlays (deleted-reads-behind old.text from to x y start at.ordered inside at.last (omega arith) is)
        (λ kind. closed-behind (old.properties kind) from to x y (omega arith) is ∙ sym (edit.properties kind y))
        (shrunk-behind from to x y old.overlays at.ordered less is)

    pub deletion-edits : IsEdited old objects new objects from (to - from) 0
    deletion-edits =
        edits-by from (to - from) 0 (ap (λ (t : TextValue). t.begin) edit.text) deletion-before
        (λ x y more is. deletion-behind x y (omega arith) (omega (arith, is)))

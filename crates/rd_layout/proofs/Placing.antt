-- Where the edits of accepted ops stand.
use Rattle.std.proofs.Common.{◌≡◌, ◌⊎◌, inl, inr, ℕ, ◌-◌, ◌≤◌, true, Option, None, Some, Result, Ok, List, length, sym, ap, refl, subst, ◌∙◌, unwrap_or, is_some, arith}
use Rattle.std.specs.Prelude.{slice_get}
use Rattle.std.proofs.lemmas.Result.{IfOk-at_ok}
use Rattle.std.specs.Option.{option_and_then}
use Rattle.rd_overlays.specs.Overlays.{overlay_at}
use Rattle.rd_overlays.specs.declared.overlay.Overlay.{Overlay}
use Rattle.rd_script.specs.Forms.{IsWhole}
use Rattle.rd_script.specs.declared.op.Op.{Op}
use Rattle.rd_script.specs.declared.op.Op.TheVariants as ops
use Rattle.rd_state.specs.Edits.{is_accessible, is_accessible_range, is_range_of_all, insertion, deletion, overlay_moving}
use Rattle.rd_state.specs.Effects.{covered_effect, effect_of, moved_effect, overlay_in}
use Rattle.rd_state.specs.States.{BufferValue, ContentValue, StateValue, number_of, opening_window}
use Rattle.rd_state.specs.Steps.{edited_moving, raw_text, step}
use Rattle.rd_state.specs.declared.moves.Move.TheVariants.{Deleted, Inserted}
use Rattle.rd_state.specs.Valid.{IsValid}
use Rattle.rd_state.specs.Windows.{selected_window}
use Rattle.rd_state.specs.declared.moves.Move.{Move}
use Rattle.rd_state.specs.declared.refused.Refused.{Refused}
use Rattle.rd_state.specs.declared.window.WindowState.{WindowState}
use Rattle.rd_base.proofs.Choices.{both-ok, if-ok}
use Rattle.rd_state.proofs.Tests.{is_accessible-means, is_accessible_range-means, is_range_of_all-means}
use Rattle.rd_text.specs.Texts.{IsText}
use Rattle.rd_layout.proofs.Leading.{HasPlace}
use Rattle.rd_state.proofs.StepParts.{edited-if, edited_moving-if, placing-if, typing-if}

-- ---- edits

insertion-low : (place : ℕ) (new : List ℕ) (c d : ContentValue) → insertion place new c ≡ Ok d → c.text.begin ≤ place
insertion-low place new c d h = (is_accessible-means c.text place (if-ok (is_accessible c.text place) _ _ d h).0).0

deletion-low : (from to : ℕ) (c d : ContentValue) → deletion from to c ≡ Ok d → c.text.begin ≤ from
deletion-low from to c d h = (is_accessible_range-means c.text from to (if-ok (is_accessible_range c.text from to) _ _ d h).0).first

moving-ordered : (number from to : ℕ) (c d : ContentValue) → overlay_moving number from to c ≡ Ok d → from ≤ to
moving-ordered number from to c d h =
    (is_range_of_all-means c.text from to (both-ok (is_some (overlay_at c.overlays number)) (is_range_of_all c.text from to) _ _ _ d h).1).ordered

-- ---- effects

one-buffer : (bs : List BufferValue) (i k : ℕ) (b c : BufferValue) → k ≡ i → slice_get bs i ≡ Some b → slice_get bs k ≡ Some c → b ≡ c
one-buffer bs i k b c is h g = cc

-- where the text of a buffer changes from a place on
abbrev pub Low : StateValue → ℕ → ℕ → ℕ → ℕ → Type 0
Low s i from removed added = (k : ℕ) (c : BufferValue) → slice_get s.buffers k ≡ Some c → k ≡ i → (c.content.text.begin ≤ from) ⊎ (removed ≡ added)

low-at : (s : StateValue) (i from removed added : ℕ) (b : BufferValue) → slice_get s.buffers i ≡ Some b → b.content.text.begin ≤ from → Low s i from removed added
low-at s i from removed added b at le k c there is = inl (subst (λ (x : BufferValue). x.content.text.begin ≤ from) (one-buffer s.buffers i k b c is at there) le)

covered-stands : (i k : ℕ) (c : ContentValue) (o : Option Overlay) → HasPlace (covered_effect i o) k c
covered-stands i k c None = tt
covered-stands i k c (Some o) = λ _. inr refl

module _ (s t : StateValue) (v : IsValid s) where
  moved-stands : (i number from to : ℕ) (o : Option Overlay) → from ≤ to → (k : ℕ) (b : BufferValue) → slice_get s.buffers k ≡ Some b
      → ((x : Overlay) → o ≡ Some x → k ≡ i → overlay_at b.content.overlays number ≡ Some x) → HasPlace (moved_effect i from to o) k b.content
  moved-stands i number from to None le k b at found = tt
  moved-stands i number from to (Some x) le k b at found = λ is. (((v.buffers.contents k b at).within.overlays number x (found x refl is)).ordered, le)

  overlay-found : (name : List ℕ) (number k : ℕ) (b : BufferValue) (x : Overlay) → slice_get s.buffers k ≡ Some b → overlay_in s name number ≡ Some x → k ≡ number_of name s.buffers
      → overlay_at b.content.overlays number ≡ Some x
  overlay-found name number k b x at is same =
      sym (ap (option_and_then (λ (c : BufferValue). overlay_at c.content.overlays number)) (sym (ap (slice_get s.buffers) same) ∙ at)) ∙ is

  moving-low : (name : List ℕ) (how : Move) (edit : ContentValue → Result ContentValue Refused) (from removed added : ℕ) → ((c d : ContentValue) → edit c ≡ Ok d → c.text.begin ≤ from)
      → edited_moving s name how edit ≡ Ok t → Low s (number_of name s.buffers) from removed added
  moving-low name how edit from removed added low h =
      let i = number_of name s.buffers in
      IfOk-at_ok (λ _. Low s i from removed added) h
      (edited_moving-if (λ _. Low s i from removed added) s name how edit (λ b c at is. low-at s i from removed added b at (low b.content c is)))

  pub has-place : (op : Op) → step s op ≡ Ok t → (k : ℕ) (b : BufferValue) → slice_get s.buffers k ≡ Some b → HasPlace (effect_of s op) k b.content
  unfolding step effect_of
  has-place (ops.Insert name place text) h k b at = moving-low name (Inserted place (length text)) (insertion place text) place 0 (length text) (insertion-low place text) h k b at
  has-place (ops.InsertRaw name place bytes) h k b at =
      moving-low name (Inserted place (length (raw_text bytes))) (insertion place (raw_text bytes)) place 0 (length (raw_text bytes)) (insertion-low place (raw_text bytes)) h k b at
  has-place (ops.TypeText text) h k b at =
      let low : WindowState → Type 0 = λ w. Low s w.buffer w.point 0 (length text) in
      IfOk-at_ok (λ _. low (selected_window s)) h
      (typing-if (λ _. low (selected_window s)) s text
      (λ w x c lives there is. subst low (sym (ap (λ (o : Option WindowState). unwrap_or o opening_window) lives)) (low-at s w.buffer w.point 0 (length text) x there (insertion-low w.point text x.content c is))))
      k b at
  has-place (ops.Delete name from to) h k b at = moving-low name (Deleted from to) (deletion from to) from (to - from) 0 (deletion-low from to) h k b at
  has-place (ops.Put name from to kind value) h k b at = λ _. inr refl
  has-place (ops.Overlay name from to priority front rear) h k b at = λ _. inr refl
  has-place (ops.OverlayMove name overlay from to) h k b at =
      let le = IfOk-at_ok (λ _. from ≤ to) h
      (edited-if (λ _. from ≤ to) s name (overlay_moving overlay from to) (λ c d there is. moving-ordered overlay from to c.content d is)) in
      moved-stands (number_of name s.buffers) overlay from to (overlay_in s name overlay) le k b at (λ x is same. overlay-found name overlay k b x at is same)
  has-place (ops.OverlayDrop name overlay) h k b at = covered-stands (number_of name s.buffers) k b.content (overlay_in s name overlay)
  has-place (ops.OverlayPut name overlay kind value) h k b at = covered-stands (number_of name s.buffers) k b.content (overlay_in s name overlay)
  has-place op h k b at = tt

  -- a position to which point moves has 64 bits
  whole-place : (c : ContentValue) (place : ℕ) → IsText c.text → is_accessible c.text place ≡ true → IsWhole place
  whole-place c place text h =
      let high = (is_accessible-means c.text place h).1 in
      let last = text.last in
      let short = text.short in
      omega arith

  pub point-whole : (window place : ℕ) → step s (ops.Point window place) ≡ Ok t → IsWhole place
  unfolding step
  point-whole window place h =
      IfOk-at_ok (λ _. IsWhole place) h
      (placing-if (λ _. IsWhole place) s window place (λ old. record old { point = place })
      (λ w b lives at yes. whole-place b.content place (v.buffers.contents w.buffer b at).text yes))

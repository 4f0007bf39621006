-- A step leads from a valid state to a valid one, op by op.
use Rattle.std.proofs.Common.{◌≡◌, ℕ, zero, suc, ◌+◌, ◌≤◌, inl, inr, ◌==◌, Bool, true, false, pos, ◌+ℤ◌, map, IsTrue, None, Some, Result, Ok, Err, List, [], ◌∷◌, length, subst, sym, ap, refl, ◌∙◌, arith}
use Rattle.std.specs.Prelude.{slice_get, IfOk, option_map}
use Rattle.std.specs.Str.{chars}
use Rattle.rd_base.proofs.Choices.{either, of-choice}
use Rattle.rd_base.proofs.Lists.{get-set}
use Rattle.rd_base.specs.declared.limits.TheConstants.{SCROLL_CONSERVATIVELY, SCROLL_MARGIN}
use Rattle.rd_base.specs.declared.settings.Anchor.{Anchor}
use Rattle.rd_text.specs.Texts.{TextValue, IsAccessible}
use Rattle.rd_objects.specs.Sound.{AreCodes}
use Rattle.rd_objects.specs.Things.{nothing_made}
use Rattle.rd_objects.proofs.Soundness.{nothing_sound, nothing_closed, string_right, spec_right, face_right, table_right, string_extends, spec_extends, face_extends, table_extends}
use Rattle.rd_script.specs.declared.op.Op.{Op}
use Rattle.rd_script.specs.declared.op.Op.TheVariants as ops
use Rattle.rd_script.specs.Forms.{IsInForm, is_buffer_name, is_plain_text}
use Rattle.rd_tree.proofs.Validity.{opening_valid}
use Rattle.rd_state.specs.declared.moves.Move.{Move}
use Rattle.rd_state.specs.declared.moves.Move.TheVariants.{Inserted, Deleted, Narrowed}
use Rattle.rd_state.specs.declared.refused.Refused.{Refused}
use Rattle.rd_state.specs.declared.effect.Effect.{Effect}
use Rattle.rd_state.specs.Answers.{Applies}
use Rattle.rd_state.specs.declared.window.WindowState.{WindowState}
use Rattle.rd_state.specs.States.{BufferValue, ContentValue, StateValue, opening, main_name, opening_window, new_buffer}
use Rattle.rd_state.specs.Windows.{window_of, changed_under, leaf_of}
use Rattle.rd_state.proofs.ByNumber.{window-each}
use Rattle.rd_state.proofs.Keeping.{holding, window-still}
use Rattle.rd_state.specs.Valid.{IsContent, IsWindow, IsValid}
use Rattle.rd_state.specs.Edits.{insertion, deletion, narrowing, widening, property_putting, overlay_making, overlay_moving, overlay_dropping, overlay_putting, margin_putting, setting_putting}
use Rattle.rd_state.specs.Making.{object_run, spec_of, table_of}
use Rattle.rd_state.specs.Moves.{moved, moved_by, moved_in}
use Rattle.rd_state.specs.Steps.{typing, raw_text, held, step, settled, settled_window}
use Rattle.rd_state.proofs.Naming.{setting-keeps, margin-keeps, objects-valid, small-spec, making-valid, new-valid}
use Rattle.rd_state.proofs.Showing.{set-valid, placing-valid, point-keeps, placed-keeps, start-keeps, scroll-keeps, showing-valid, splitting-valid, removing-valid, resizing-valid, selecting-valid, mode_lining-valid, margining-valid}
use Rattle.rd_state.proofs.Slots.{table-right}
use Rattle.rd_state.proofs.StepParts.{with_content, setting-if, typing-if}
use Rattle.rd_state.proofs.Stepping.{raw-codes, edited-valid, edited_moving-valid, moving-valid, insertion-keeps, insertion-means, deletion-keeps, narrowing-keeps, widening-keeps, put-keeps, making-keeps, moving-keeps, dropping-keeps, giving-keeps}
use Rattle.rd_state.proofs.Tests.{text-codes}

-- ---- typing

-- a state in which the selected window's point is another accessible position
pointed-valid : (s : StateValue) (number place : ℕ) → IsValid s
    → ((w : WindowState) (b : BufferValue) → window_of number s.windows ≡ Some w → slice_get s.buffers w.buffer ≡ Some b → IsAccessible b.content.text place)
    → IsValid (record s { windows = changed_under number (λ old. record old { point = place }) s.windows })
pointed-valid s number place v at =
    set-valid s number (λ old. record old { point = place }) v (λ w. refl) (λ w lives old. point-keeps s.buffers place w old (λ b h. at w b lives h))

typed-place : (t : TextValue) (p n : ℕ) → IsAccessible t p → (t.begin ≤ p + n) × (p + n ≤ t.end + n)
typed-place t p n at = let low = at.0 in let high = at.1 in (omega arith, omega arith)

-- a window that was moved shows what it showed
pub moved-buffer : (i : ℕ) (how : Move) (w : WindowState) → (moved_by i how w).buffer ≡ w.buffer
moved-buffer i how w = either (λ (x : WindowState). x.buffer ≡ w.buffer) (w.buffer == i) (moved how w) w refl refl

typing-valid : (s : StateValue) (new : List ℕ) → IsValid s → AreCodes new → IfOk (typing s new) IsValid
typing-valid s new v codes =
    typing-if IsValid s new
    (λ w b d lives at is.
    let how = Inserted w.point (length new) in
    let i = w.buffer in
    let place = w.point + length new in
    let u : StateValue = record (with_content s i b d) { windows = map (moved_in i how) s.windows } in
    let valid : IsValid u = moving-valid s i b d how (insertion w.point new) v (insertion-keeps s.objects w.point new codes) at is in
    let m = insertion-means w.point new b.content d is in
    let end : IsAccessible d.text place = subst (λ (x : ContentValue). IsAccessible x.text place) m.2 (typed-place b.content.text w.point (length new) m.0) in
    pointed-valid u s.selected place valid
    (λ x c there hc.
    let was : option_map (moved_by i how) (window_of s.selected s.windows) ≡ Some x = sym (window-each s.selected (moved_by i how) s.windows) ∙ there in
    let is_x : moved_by i how w ≡ x = cc (sym (ap (option_map (moved_by i how)) lives) ∙ was) in
    let shows : x.buffer ≡ i = sym (ap (λ (y : WindowState). y.buffer) is_x) ∙ moved-buffer i how w in
    elim (get-set s.buffers i x.buffer (holding b d) c hc) [
      | inl q ↦ subst (λ (z : BufferValue). IsAccessible z.content.text place) (sym q.1) end
      | inr q ↦ absurd (q.0 shows)
    ]))

-- ---- the whole frame

-- a state in which other things belong to the whole frame
framed-valid : (s : StateValue) (margin conservatively : ℕ) (echo : List ℕ) (shifting : Bool) → IsValid s → margin ≤ SCROLL_MARGIN → conservatively ≤ SCROLL_CONSERVATIVELY → IsTrue (is_plain_text echo)
    → IsValid (record s { margin = margin; conservatively = conservatively; echo = echo; shifting = shifting })
framed-valid s margin conservatively echo shifting v few rows plain = record {
  buffers = v.buffers;
  objects = v.objects;
  closed = v.closed;
  windows = v.windows;
  frame = v.frame;
  margin = few;
  conservatively = rows;
  echo = plain;
}

-- ---- all ops

pub step-valid : (s : StateValue) (op : Op) → IsValid s → IsInForm op → IfOk (step s op) IsValid
unfolding step
step-valid s (ops.Frame width height) v form = resizing-valid s width height v form.0 form.1 form.2 form.3
step-valid s (ops.Buffer name) v form = making-valid s name v form
step-valid s (ops.Insert name place text) v form =
    edited_moving-valid s name (Inserted place (length text)) (insertion place text) v (insertion-keeps s.objects place text (text-codes text form.2))
step-valid s (ops.InsertRaw name place bytes) v form =
    let text = raw_text bytes in
    edited_moving-valid s name (Inserted place (length text)) (insertion place text) v (insertion-keeps s.objects place text (raw-codes bytes form.2))
step-valid s (ops.TypeText text) v form = typing-valid s text v (text-codes text form)
step-valid s (ops.Delete name from to) v form = edited_moving-valid s name (Deleted from to) (deletion from to) v (deletion-keeps s.objects from to)
step-valid s (ops.Narrow name from to) v form = edited_moving-valid s name (Narrowed from to) (narrowing from to) v (narrowing-keeps s.objects from to)
step-valid s (ops.Widen name) v form = edited-valid s name widening v (widening-keeps s.objects)
step-valid s (ops.Put name from to kind value) v form =
    edited-valid s name (property_putting s.objects from to kind value) v (put-keeps s.objects from to kind value form.3)
step-valid s (ops.Overlay name from to priority front rear) v form =
    edited-valid s name (overlay_making from to priority front rear) v (making-keeps s.objects from to priority front rear)
step-valid s (ops.OverlayMove name overlay from to) v form = edited-valid s name (overlay_moving overlay from to) v (moving-keeps s.objects overlay from to)
step-valid s (ops.OverlayDrop name overlay) v form = edited-valid s name (overlay_dropping overlay) v (dropping-keeps s.objects overlay)
step-valid s (ops.OverlayPut name overlay kind value) v form =
    edited-valid s name (overlay_putting s.objects overlay kind value) v (giving-keeps s.objects overlay kind value)
step-valid s (ops.Setting name value) v form = edited-valid s name (setting_putting s.objects value) v (setting-keeps s.objects value form.1)
step-valid s (ops.AddString text runs) v form =
    let rs = map object_run runs in
    objects-valid s _ _ v (string_right s.objects text rs (text-codes text form.0)) (string_extends s.objects text rs)
step-valid s (ops.AddSpec spec) v form =
    let x = spec_of spec in
    objects-valid s _ _ v (spec_right s.objects x (small-spec spec form)) (spec_extends s.objects x)
step-valid s (ops.AddFace face) v form =
    objects-valid s _ _ v (face_right s.objects face (record { fg = form.0; bg = form.1 })) (face_extends s.objects face)
step-valid s (ops.AddTable entries truncation continuation escape control ellipsis border) v form =
    let table = table_of entries truncation continuation escape control ellipsis border in
    let right = table-right entries truncation continuation escape control ellipsis border form.1 form.2 form.3 form.4 form.5 form.6 form.7 in
    objects-valid s _ _ v (table_right s.objects table right) (table_extends s.objects table)
step-valid s (ops.Split window side size) v form = splitting-valid s window side size v
step-valid s (ops.Remove window) v form = removing-valid s window v
step-valid s (ops.Select window) v form = selecting-valid s window v
step-valid s (ops.Show window name) v form = showing-valid s window name v
step-valid s (ops.Point window place) v form =
    placing-valid s window place (λ old. record old { point = place }) v (λ w. refl) (λ w old at. point-keeps s.buffers place w old at)
step-valid s (ops.Start window place row) v form =
    placing-valid s window place (λ old. record old { anchor = record { pos = place; row = row }; forced = true; pending = pos 0 }) v (λ w. refl)
    (λ w old at. start-keeps s.buffers place row w old at)
step-valid s (ops.Scroll window rows) v form =
    setting-if IsValid s window _ (set-valid s window (λ old. record old { forced = true; pending = held (old.pending +ℤ rows) }) v (λ w. refl)
    (λ w lives old. scroll-keeps s.buffers (w.pending +ℤ rows) w old))
step-valid s (ops.Hscroll window columns) v form =
    setting-if IsValid s window _ (set-valid s window (λ old. record old { hscroll = columns }) v (λ w. refl)
    (λ w lives old. window-still s.buffers (record w { hscroll = columns }) old.made old.point old.anchor old.pending form.1 old.format old.numbers old.strings))
step-valid s (ops.Wrap window mode) v form =
    setting-if IsValid s window _ (set-valid s window (λ old. record old { wrap = mode }) v (λ w. refl)
    (λ w lives old. window-still s.buffers (record w { wrap = mode }) old.made old.point old.anchor old.pending old.hscroll old.format old.numbers old.strings))
step-valid s (ops.ModeLine window format) v form = mode_lining-valid s window format v form.1
step-valid s (ops.Scrolling margin conservatively) v form = framed-valid s margin conservatively s.echo s.shifting v form.0 form.1 v.echo
step-valid s (ops.Echo text) v form = framed-valid s s.margin s.conservatively text s.shifting v v.margin v.conservatively form
step-valid s (ops.Shift on) v form = framed-valid s s.margin s.conservatively s.echo on v v.margin v.conservatively v.echo
step-valid s (ops.Margin window numbers strings) v form = margining-valid s window numbers strings v form.1 form.2
step-valid s (ops.MarginPut name overlay string) v form = edited-valid s name (margin_putting s.objects overlay string) v (margin-keeps s.objects overlay string)
step-valid s op v form = v

-- ---- settling

pub settled-valid : (s : StateValue) (number : ℕ) (anchor : Anchor) (point : ℕ) → IsValid s
    → ((w : WindowState) (b : BufferValue) → window_of number s.windows ≡ Some w → slice_get s.buffers w.buffer ≡ Some b → IsAccessible b.content.text anchor.pos × IsAccessible b.content.text point)
    → IsValid (settled s number anchor point)
settled-valid s number anchor point v at =
    set-valid s number (settled_window anchor point) v (λ w. refl)
    (λ w found old. placed-keeps s.buffers w w.buffer point anchor false old old.made (λ b h. (at w b found h).1) (λ b h. (at w b found h).0))

-- ---- the opening

main-named : IsTrue (is_buffer_name main_name)
unfolding chars
main-named = refl

main-apart : (j k : ℕ) (a b : BufferValue) → slice_get (new_buffer main_name ∷ []) j ≡ Some a → slice_get (new_buffer main_name ∷ []) k ≡ Some b → a.name ≡ b.name → j ≡ k
main-apart zero zero a b h g e = refl
main-apart zero (suc k) a b h g e = absurd (cc)
main-apart (suc j) k a b h g e = absurd (cc)

only-main : (P : BufferValue → Type 0) → P (new_buffer main_name) → (k : ℕ) (b : BufferValue) → slice_get (new_buffer main_name ∷ []) k ≡ Some b → P b
only-main P h zero b is = let same : new_buffer main_name ≡ b = cc in subst P same h
only-main P h (suc k) b is = absurd (cc)

opening-shown : (b : BufferValue) → slice_get (new_buffer main_name ∷ []) 0 ≡ Some b → IsAccessible b.content.text 1
opening-shown b h = only-main (λ x. IsAccessible x.content.text 1) (omega arith, omega arith) 0 b h

opening-looks : IsWindow (new_buffer main_name ∷ []) opening_window
opening-looks = window-still (new_buffer main_name ∷ []) opening_window (omega arith) opening-shown opening-shown refl (omega arith) tt (omega arith) (omega arith)

opening-windows : (k : ℕ) (e : ℕ × WindowState) → slice_get ((0, opening_window) ∷ []) k ≡ Some e → IsWindow (new_buffer main_name ∷ []) e.1
opening-windows zero e h =
    let same : (0, opening_window) ≡ e = cc in
    subst (λ (x : ℕ × WindowState). IsWindow (new_buffer main_name ∷ []) x.1) same opening-looks
opening-windows (suc k) e h = absurd (cc)

pub opening-valid : IsValid opening
opening-valid = record {
  buffers = record {
    few = omega arith;
    told = main-apart;
    names = only-main (λ b. IsTrue (is_buffer_name b.name)) main-named;
    contents = only-main (λ b. IsContent nothing_made b.content) (new-valid nothing_made);
  };
  objects = nothing_sound;
  closed = nothing_closed;
  windows = record {
    tree = opening_valid 80 23 (omega arith) (omega arith) (omega arith) (omega arith);
    leaves = λ number. sym (of-choice (option_map leaf_of) (0 == number) (Some opening_window) None);
    apart = (refl, tt);
    each = opening-windows;
    selected = refl;
  };
  frame = record { wide = omega arith; narrow = omega arith; high = omega arith; low = omega arith; columns = refl; rows = omega arith };
  margin = omega arith;
  conservatively = omega arith;
  echo = refl;
}

-- ---- answers

-- what a call that applies an op leaves is valid
pub applied-valid : (result : Result Effect Refused) (op : Op) (old new : StateValue) → ((s t : StateValue) (op : Op) → IsValid s → IsInForm op → step s op ≡ Ok t → IsValid t) → IsValid old → IsInForm op
    → Applies result op old new → IsValid new
applied-valid (Ok effect) op old new law v form said = law old new op v form said.0
applied-valid (Err refused) op old new law v form said = subst IsValid (sym said.0) v

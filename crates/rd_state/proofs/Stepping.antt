-- A step leads from a valid state to a valid one: the ops on buffers and on objects.
use Rattle.std.proofs.Common.{◌≡◌, ℕ, ◌+◌, ◌≤◌, Bool, true, false, is_some, if◌then◌else◌, nat_lt, nat_le, ℤ, Option, Some, Result, Ok, Err, List, [], ◌∷◌, ◌++◌, length, map, min, max, subst, sym, refl, arith, IsTrue}
use Rattle.std.proofs.lemmas.Bool.{leb-true, or_right}
use Rattle.std.proofs.lemmas.Bool.Decides.{nat_tests}
use Rattle.std.proofs.lemmas.List.Elements.{All-map, All-weaker}
use Rattle.std.specs.Prelude.{All, IfOk, slice_get, slice_set}
use Rattle.rd_base.specs.Chars.{is_code, is_raw, is_scalar, raw_code}
use Rattle.rd_base.specs.declared.limits.TheConstants.{OVERLAYS, TEXT_CHARACTERS}
use Rattle.rd_text.specs.Texts.{TextValue, IsAccessible}
use Rattle.rd_text.specs.Answers.{IsAccessibleRange, IsRangeOfAll}
use Rattle.rd_base.proofs.Choices.{some-of, both-ok, made-ok, ok-unless}
use Rattle.rd_overlays.specs.declared.overlay.Overlay.{Overlay}
use Rattle.rd_overlays.specs.declared.overlay.Kind.{Kind}
use Rattle.rd_overlays.proofs.Bounding.{deletion-within}
use Rattle.rd_overlays.specs.Overlays as overlays
use Rattle.rd_overlays.specs.Overlays.{overlay_at, new_overlay, after_deletion}
use Rattle.rd_objects.specs.Things.{ObjectLists}
use Rattle.rd_objects.specs.Sound.{AreCodes}
use Rattle.rd_script.specs.Forms.{is_text_kind, IsRawByte}
use Rattle.rd_state.specs.declared.moves.Move.{Move}
use Rattle.rd_state.specs.declared.moves.Move.TheVariants.{Inserted, Deleted, Narrowed}
use Rattle.rd_state.specs.declared.refused.Refused.{Refused}
use Rattle.rd_state.specs.declared.refused.Refused.TheVariants.{NoObject, NoOverlay, OutOfRange, TextTooLarge, TooManyOverlays}
use Rattle.rd_state.specs.States.{BufferValue, ContentValue, StateValue, number_of}
use Rattle.rd_state.specs.Valid.{AreWindows, IsContent, IsValid}
use Rattle.rd_state.specs.Edits.{is_accessible, is_accessible_range, is_range_of_all, has_room, is_value_made, content_grown, content_shrunk, insertion, deletion, narrowing, widening, property_putting, overlay_making, overlay_moving, overlay_dropping, overlay_putting}
use Rattle.rd_state.specs.Moves.{point_after_insertion, brought_into, place_after, moved_in}
use Rattle.rd_state.specs.Steps.{edited, edited_moving, raw_text}
use Rattle.rd_state.specs.Windows.{NumberedWindow}
use Rattle.rd_state.proofs.Contents.{grown-valid, shrunk-valid, narrowed-valid, widened-valid, put-valid, made-valid, moved-valid, dropped-valid, given-valid, with_property, with_overlays}
use Rattle.rd_state.proofs.Keeping.{holding, buffers-replaced, windows-replaced, windows-moved}
use Rattle.rd_state.proofs.StepParts.{with_content, edited-if, edited_moving-if}
use Rattle.rd_state.proofs.Tests.{is_accessible-means, is_accessible_range-means, is_range_of_all-means}
use Rattle.rd_state.proofs.WithParts.{with_parts}
use Rattle.rd_state.proofs.Within.{place-moves}

-- ---- texts

raw-code : (byte : ℕ) → IsRawByte byte → is_code (raw_code byte) ≡ true
raw-code byte h =
    let low = h.0 in
    let high = h.1 in
    or_right (is_scalar (raw_code byte)) (is_raw (raw_code byte)) (grind (arith, nat_tests))

pub raw-codes : (bytes : List ℕ) → All IsRawByte bytes → AreCodes (raw_text bytes)
raw-codes bytes h =
    All-map (λ (x : ℕ). IsTrue (is_code x)) raw_code bytes
    (All-weaker IsRawByte (λ byte. IsTrue (is_code (raw_code byte))) raw-code bytes h)

-- ---- one buffer

-- what an edit of a buffer of a valid state leaves: a valid buffer, in which positions that went on are accessible
abbrev pub Keeps : ObjectLists → (ℕ → ℕ) → (ContentValue → Result ContentValue Refused) → Type 0
Keeps o f edit = (c d : ContentValue) → IsContent o c → edit c ≡ Ok d → IsContent o d × ((p : ℕ) → IsAccessible c.text p → IsAccessible d.text (f p))

-- a state in which one buffer was edited
pub record IsEditOf (s t : StateValue) (i : ℕ) (edit : ContentValue → Result ContentValue Refused) : Type 0 where
  pub buffer : BufferValue
  pub content : ContentValue
  pub at : slice_get s.buffers i ≡ Some buffer
  pub gives : edit buffer.content ≡ Ok content
  pub is : record s { buffers = slice_set s.buffers i (holding buffer content); windows = t.windows } ≡ t

-- a state in which one buffer was edited is valid where what the buffer holds and the windows are
edit-valid : (s : StateValue) (i : ℕ) (b : BufferValue) (d : ContentValue) (edit : ContentValue → Result ContentValue Refused) (f : ℕ → ℕ) (ws : List NumberedWindow) → IsValid s → Keeps s.objects f edit
    → slice_get s.buffers i ≡ Some b → edit b.content ≡ Ok d
    → (((p : ℕ) → IsAccessible b.content.text p → IsAccessible d.text (f p)) → AreWindows (slice_set s.buffers i (holding b d)) s.tree ws s.selected)
    → IsValid (record (with_content s i b d) { windows = ws })
edit-valid s i b d edit f ws v k at is windows =
    let kept = k b.content d (v.buffers.contents i b at) is in
    with_parts s (slice_set s.buffers i (holding b d)) s.objects s.tree ws s.selected s.width s.height v (buffers-replaced s.objects s.buffers i b d v.buffers at kept.0) v.objects v.closed
    (windows kept.1) v.frame

pub edited-valid : (s : StateValue) (name : List ℕ) (edit : ContentValue → Result ContentValue Refused) → IsValid s → Keeps s.objects (λ p. p) edit → IfOk (edited s name edit) IsValid
edited-valid s name edit v k =
    let i = number_of name s.buffers in
    edited-if IsValid s name edit
    (λ b d at is. edit-valid s i b d edit (λ p. p) s.windows v k at is (λ kept. windows-replaced s.buffers i b d s.tree s.windows s.selected at kept v.windows))

pub moving-valid : (s : StateValue) (i : ℕ) (b : BufferValue) (d : ContentValue) (how : Move) (edit : ContentValue → Result ContentValue Refused) → IsValid s → Keeps s.objects (place_after how) edit
    → slice_get s.buffers i ≡ Some b → edit b.content ≡ Ok d → IsValid (record (with_content s i b d) { windows = map (moved_in i how) s.windows })
moving-valid s i b d how edit v k at is =
    edit-valid s i b d edit (place_after how) (map (moved_in i how) s.windows) v k at is (λ kept. windows-moved s.buffers i b d how s.tree s.windows s.selected at kept v.windows)

pub edited_moving-valid : (s : StateValue) (name : List ℕ) (how : Move) (edit : ContentValue → Result ContentValue Refused) → IsValid s → Keeps s.objects (place_after how) edit
    → IfOk (edited_moving s name how edit) IsValid
edited_moving-valid s name how edit v k = edited_moving-if IsValid s name how edit (λ b d at is. moving-valid s (number_of name s.buffers) b d how edit v k at is)

-- ---- what each edit means

pub insertion-means : (pos : ℕ) (new : List ℕ) (c d : ContentValue) → insertion pos new c ≡ Ok d
    → IsAccessible c.text pos × (length c.text.text + length new ≤ TEXT_CHARACTERS) × (content_grown c pos new ≡ d)
insertion-means pos new c d h =
    let m = both-ok (is_accessible c.text pos) (has_room c.text new) (content_grown c pos new) TextTooLarge OutOfRange d h in
    (is_accessible-means c.text pos m.0, leb-true (length c.text.text + length new) TEXT_CHARACTERS m.1, m.2)

-- what an edit makes is what it gives
made-keeps : (o : ObjectLists) (f : ℕ → ℕ) (c made d : ContentValue) → made ≡ d → IsContent o made → ((p : ℕ) → IsAccessible c.text p → IsAccessible made.text (f p))
    → IsContent o d × ((p : ℕ) → IsAccessible c.text p → IsAccessible d.text (f p))
made-keeps o f c made d same v at = subst (λ (x : ContentValue). IsContent o x × ((p : ℕ) → IsAccessible c.text p → IsAccessible x.text (f p))) same (v, at)

pub insertion-keeps : (o : ObjectLists) (pos : ℕ) (new : List ℕ) → AreCodes new → Keeps o (place_after (Inserted pos (length new))) (insertion pos new)
insertion-keeps o pos new codes c d v h =
    let m = insertion-means pos new c d h in
    made-keeps o (point_after_insertion pos (length new)) c (content_grown c pos new) d m.2 (grown-valid o c pos new v codes m.0 m.1)
    (λ p a. let moves = place-moves (nat_lt pos p) p (length new) in (omega (arith, moves.0, a.0), omega (arith, moves.1, a.1)))

pub deletion-means : (from to : ℕ) (c d : ContentValue) → deletion from to c ≡ Ok d → IsAccessibleRange c.text from to × (content_shrunk c from to ≡ d)
deletion-means from to c d h =
    let m = made-ok (is_accessible_range c.text from to) (content_shrunk c from to) OutOfRange d h in
    (is_accessible_range-means c.text from to m.0, m.1)

pub deletion-keeps : (o : ObjectLists) (from to : ℕ) → Keeps o (place_after (Deleted from to)) (deletion from to)
deletion-keeps o from to c d v h =
    let m = deletion-means from to c d h in
    let at = m.0 in
    made-keeps o (after_deletion from to) c (content_shrunk c from to) d m.1 (shrunk-valid o c from to v at)
    (λ p a. deletion-within c.text.begin c.text.end from to p at.first at.ordered at.last a.0 a.1)

brought : (from to p : ℕ) → from ≤ to → (from ≤ max from (min p to)) × (max from (min p to) ≤ to)
brought from to p h = (omega arith, omega arith)

pub narrowing-means : (from to : ℕ) (c d : ContentValue) → narrowing from to c ≡ Ok d → IsRangeOfAll c.text from to × (record c { text = record { text = c.text.text; begin = from; end = to } } ≡ d)
narrowing-means from to c d h =
    let m = made-ok (is_range_of_all c.text from to) (record c { text = record { text = c.text.text; begin = from; end = to } }) OutOfRange d h in
    (is_range_of_all-means c.text from to m.0, m.1)

pub narrowing-keeps : (o : ObjectLists) (from to : ℕ) → Keeps o (place_after (Narrowed from to)) (narrowing from to)
narrowing-keeps o from to c d v h =
    let m = narrowing-means from to c d h in
    made-keeps o (brought_into from to) c _ d m.1 (narrowed-valid o c from to v m.0) (λ p a. brought from to p m.0.ordered)

pub widening-keeps : (o : ObjectLists) → Keeps o (λ p. p) widening
widening-keeps o c d v h =
    let made : ContentValue = record c { text = record { text = c.text.text; begin = 1; end = length c.text.text + 1 } } in
    let same : made ≡ d = cc (h) in
    let first = v.text.first in
    let last = v.text.last in
    made-keeps o (λ p. p) c made d same (widened-valid o c v) (λ p a. let low = a.0 in let high = a.1 in (omega arith, omega arith))

-- an edit that leaves the text
pub text-kept : (o : ObjectLists) (c made d : ContentValue) → made ≡ d → made.text ≡ c.text → IsContent o made
    → IsContent o d × ((p : ℕ) → IsAccessible c.text p → IsAccessible d.text p)
text-kept o c made d same text v = made-keeps o (λ p. p) c made d same v (λ p. subst (λ (x : TextValue). IsAccessible x p) (sym text))

pub putting-means : (o : ObjectLists) (from to : ℕ) (kind : Kind) (value : Option ℕ) (c d : ContentValue) → property_putting o from to kind value c ≡ Ok d
    → IsAccessibleRange c.text from to × (is_value_made o kind value ≡ true) × (with_property c from to kind value ≡ d)
putting-means o from to kind value c d h =
    let m = both-ok (is_accessible_range c.text from to) (is_value_made o kind value) (with_property c from to kind value) NoObject OutOfRange d h in
    (is_accessible_range-means c.text from to m.0, m.1, m.2)

pub put-keeps : (o : ObjectLists) (from to : ℕ) (kind : Kind) (value : Option ℕ) → is_text_kind kind ≡ true → Keeps o (λ p. p) (property_putting o from to kind value)
put-keeps o from to kind value is c d v h =
    let m = putting-means o from to kind value c d h in
    text-kept o c (with_property c from to kind value) d m.2 refl (put-valid o c from to kind value v is m.0 m.1)

pub making-means : (from to : ℕ) (priority : ℤ) (front rear : Bool) (c d : ContentValue) → overlay_making from to priority front rear c ≡ Ok d
    → (is_range_of_all c.text from to ≡ true) × (nat_le OVERLAYS (length c.overlays) ≡ false) × (with_overlays c (c.overlays ++ Some (new_overlay from to priority front rear) ∷ []) ≡ d)
making-means from to priority front rear c d h =
    let new = with_overlays c (c.overlays ++ Some (new_overlay from to priority front rear) ∷ []) in
    ok-unless (is_range_of_all c.text from to) (nat_le OVERLAYS (length c.overlays)) new TooManyOverlays OutOfRange d h

pub making-keeps : (o : ObjectLists) (from to : ℕ) (priority : ℤ) (front rear : Bool) → Keeps o (λ p. p) (overlay_making from to priority front rear)
making-keeps o from to priority front rear c d v h =
    let m = making-means from to priority front rear c d h in
    text-kept o c (with_overlays c (c.overlays ++ Some (new_overlay from to priority front rear) ∷ [])) d m.2 refl
    (made-valid o c from to priority front rear v m.0 (is_range_of_all-means c.text from to m.0) m.1)

-- an edit of an overlay, which lives
abbrev pub OfOverlay : ℕ → Bool → List (Option Overlay) → ContentValue → ContentValue → Type 0
OfOverlay number test overlays c d = ((overlay : Overlay) × (overlay_at c.overlays number ≡ Some overlay)) × (test ≡ true) × (with_overlays c overlays ≡ d)

overlay-means : (number : ℕ) (test : Bool) (overlays : List (Option Overlay)) (e : Refused) (c d : ContentValue)
    → (if is_some (overlay_at c.overlays number) then (if test then Ok (with_overlays c overlays) else Err e) else Err NoOverlay) ≡ Ok d → OfOverlay number test overlays c d
overlay-means number test overlays e c d h =
    let m = both-ok (is_some (overlay_at c.overlays number)) test (with_overlays c overlays) e NoOverlay d h in
    (some-of (overlay_at c.overlays number) m.0, m.1, m.2)

pub moving-means : (number from to : ℕ) (c d : ContentValue) → overlay_moving number from to c ≡ Ok d → OfOverlay number (is_range_of_all c.text from to) (overlays.moved c.overlays number from to) c d
moving-means number from to c d h = overlay-means number (is_range_of_all c.text from to) (overlays.moved c.overlays number from to) OutOfRange c d h

pub moving-keeps : (o : ObjectLists) (number from to : ℕ) → Keeps o (λ p. p) (overlay_moving number from to)
moving-keeps o number from to c d v h =
    let m = moving-means number from to c d h in
    text-kept o c (with_overlays c (overlays.moved c.overlays number from to)) d m.2 refl (moved-valid o c number from to v m.1)

pub dropping-means : (number : ℕ) (c d : ContentValue) → overlay_dropping number c ≡ Ok d → OfOverlay number true (overlays.dropped c.overlays number) c d
dropping-means number c d h = overlay-means number true (overlays.dropped c.overlays number) NoOverlay c d h

pub dropping-keeps : (o : ObjectLists) (number : ℕ) → Keeps o (λ p. p) (overlay_dropping number)
dropping-keeps o number c d v h =
    text-kept o c (with_overlays c (overlays.dropped c.overlays number)) d (dropping-means number c d h).2 refl (dropped-valid o c number v)

pub giving-means : (o : ObjectLists) (number : ℕ) (kind : Kind) (value : Option ℕ) (c d : ContentValue) → overlay_putting o number kind value c ≡ Ok d
    → OfOverlay number (is_value_made o kind value) (overlays.given c.overlays number kind value) c d
giving-means o number kind value c d h = overlay-means number (is_value_made o kind value) (overlays.given c.overlays number kind value) NoObject c d h

pub giving-keeps : (o : ObjectLists) (number : ℕ) (kind : Kind) (value : Option ℕ) → Keeps o (λ p. p) (overlay_putting o number kind value)
giving-keeps o number kind value c d v h =
    let m = giving-means o number kind value c d h in
    text-kept o c (with_overlays c (overlays.given c.overlays number kind value)) d m.2 refl (given-valid o c number kind value v m.1)

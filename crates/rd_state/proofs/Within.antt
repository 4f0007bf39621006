-- Overlays and values of properties that lie in a text, and still do after an edit of it.
use Rattle.std.proofs.Common.{◌≡◌, ℕ, ◌+◌, ◌-◌, ◌<◌, ◌≤◌, ◌++◌, inl, inr, ◌==◌, ◌&&◌, ◌||◌, Bool, true, false, if◌then◌else◌, nat_lt, nat_le, Option, None, Some, List, [], ◌∷◌, length, map, set, sym, ap, subst, refl, ◌∙◌, arith, length-append}
use Rattle.std.specs.Option.{option_map, unwrap_or}
use Rattle.std.proofs.lemmas.Bool.{leb-false}
use Rattle.std.proofs.lemmas.Bool.Decides.{nat_tests}
use Rattle.std.proofs.lemmas.List.{length-map, length-set}
use Rattle.rd_text.specs.Texts.{TextValue, IsText, IsAccessible, inserted, deleted}
use Rattle.rd_text.specs.Answers.{IsAccessibleRange}
use Rattle.rd_text.proofs.Keeping.{length-grown}
use Rattle.rd_text.proofs.Ranges.{length-gap}
use Rattle.rd_spans.proofs.Beside.{opened-from, closed-from}
use Rattle.rd_base.specs.declared.limits.TheConstants.{LAST_POSITION}
use Rattle.rd_overlays.proofs.Bounding.{deletion-rises, deletion-within}
use Rattle.rd_overlays.proofs.Slots.{slot-each, changed-each, after-set, after-end}
use Rattle.rd_overlays.specs.declared.overlay.Kind.{Kind}
use Rattle.rd_overlays.specs.declared.overlay.Overlay.{Overlay}
use Rattle.rd_overlays.specs.Overlays.{overlay_at, make_fault, moved, given, place_of, slot_grown, slot_shrunk, grown, shrunk, AllFit, SlotFits}
use Rattle.rd_base.specs.Settings.{SettingValues}
use Rattle.rd_overlays.specs.declared.fault.OverlayFault.TheVariants.{OutOfRange, TooMany}
use Rattle.rd_props.specs.Buffers as props
use Rattle.rd_state.specs.Edits.{is_range_of_all}
use Rattle.rd_state.specs.Valid.{IsOverlayIn, IsWithin}
use Rattle.rd_props.specs.Edits.{opened, closed}

-- ---- overlays

-- each overlay lies in a text of so many characters
abbrev pub AreIn : ℕ → List (Option Overlay) → Type 0
AreIn size slots = (number : ℕ) (o : Overlay) → overlay_at slots number ≡ Some o → IsOverlayIn size o

slot-fits : (size pos n : ℕ) (slot : Option Overlay) → size + 1 + n ≤ LAST_POSITION → ((o : Overlay) → slot ≡ Some o → IsOverlayIn size o) → SlotFits pos n slot
slot-fits size pos n None room h = tt
slot-fits size pos n (Some o) room h =
    let in_text = h o refl in
    let ordered = in_text.ordered in
    let last = in_text.last in
    (λ _. omega arith, λ _. omega arith)

pub all-fit : (slots : List (Option Overlay)) (size pos n : ℕ) → size + 1 + n ≤ LAST_POSITION → AreIn size slots → AllFit pos n slots
all-fit slots size pos n room h number slot at = slot-fits size pos n slot room (λ o is. h number o (ap (λ s. unwrap_or s None) at ∙ is))

pub place-moves : (t : Bool) (p n : ℕ) → (p ≤ (if t then p + n else p)) × ((if t then p + n else p) ≤ p + n)
place-moves true p n = (omega arith, omega arith)
place-moves false p n = (omega arith, omega arith)

grown-in : (size pos n : ℕ) (o : Overlay) → IsOverlayIn size o → IsOverlayIn (size + n) (grown pos n o)
grown-in size pos n o h =
    let from = place-moves (nat_lt pos o.from || ((o.from == pos) && o.front)) o.from n in
    let to = place-moves (nat_lt pos o.to || ((o.to == pos) && o.rear)) o.to n in
    let first = h.first in
    let ordered = h.ordered in
    let last = h.last in
    record { first = omega arith; ordered = omega arith; last = omega arith }

shrunk-in : (size from to : ℕ) (o : Overlay) → 1 ≤ from → from ≤ to → to ≤ size + 1 → IsOverlayIn size o → IsOverlayIn (size - (to - from)) (shrunk from to o)
shrunk-in size from to o one h within is =
    let start = deletion-within 1 (size + 1) from to o.from one h within is.first (omega (arith, is.ordered, is.last)) in
    let end = deletion-within 1 (size + 1) from to o.to one h within (omega (arith, is.first, is.ordered)) is.last in
    record { first = start.0; ordered = deletion-rises from to o.from o.to h is.ordered; last = omega (arith, end.1, one, within) }

-- ---- buffers

-- a buffer whose values came from another's and lie in its text where they lay in that one's, and whose few overlays lie in its text
came-within : (b c : props.BufferValue) (slots : List (Option Overlay)) → IsWithin b
    → ((kind p value : ℕ) → c.properties kind p ≡ Some value
    → (q : ℕ) × (b.properties kind q ≡ Some value) × (1 ≤ q → q ≤ length b.text.text → (1 ≤ p) × (p ≤ length c.text.text)))
    → c.overlays ≡ slots → length slots ≤ 65536 → AreIn (length c.text.text) slots → IsWithin c
came-within b c slots within came overlays few all = record {
  kinds = λ kind p value h. let was = came kind p value h in within.kinds kind was.0 value was.1;
  first = λ kind p value h. let was = came kind p value h in (was.2 (within.first kind was.0 value was.1) (within.last kind was.0 value was.1)).0;
  last = λ kind p value h. let was = came kind p value h in (was.2 (within.first kind was.0 value was.1) (within.last kind was.0 value was.1)).1;
  few = subst (λ xs. length xs ≤ 65536) (sym overlays) few;
  overlays = subst (AreIn (length c.text.text)) (sym overlays) all;
}

-- a buffer with characters put in
pub grown-within : (b c : props.BufferValue) (pos : ℕ) (new : List ℕ) → IsText b.text → IsWithin b → IsAccessible b.text pos
    → c.text ≡ inserted b.text pos new → ((kind p : ℕ) → c.properties kind p ≡ opened b.properties pos (length new) kind p)
    → c.overlays ≡ map (slot_grown pos (length new)) b.overlays → IsWithin c
grown-within b c pos new text within at same values overlays =
    let n = length new in
    let last = text.last in
    let size : length c.text.text ≡ length b.text.text + n = ap (λ t. length t.text) same ∙ length-grown b.text.text new (pos - 1) (omega (arith, at.1)) in
    came-within b c (map (slot_grown pos n) b.overlays) within
    (λ kind p value h.
    let from = opened-from (b.properties kind) pos n p value (sym (values kind p) ∙ h) in
    (from.0, from.1, λ one most. (omega (arith, from.2, one), omega (arith, from.3, most, size))))
    overlays (rw length-map within.few) (changed-each (IsOverlayIn (length c.text.text)) (grown pos n) b.overlays
    (λ k o at. subst (λ s. IsOverlayIn s (grown pos n o)) (sym size) (grown-in (length b.text.text) pos n o (within.overlays k o at))))

-- a buffer with a range taken away
pub shrunk-within : (b c : props.BufferValue) (from to : ℕ) → IsText b.text → IsWithin b → IsAccessibleRange b.text from to
    → c.text ≡ deleted b.text from to → ((kind p : ℕ) → c.properties kind p ≡ closed b.properties from to kind p)
    → c.overlays ≡ map (slot_shrunk from to) b.overlays → IsWithin c
shrunk-within b c from to text within at same values overlays =
    let begin = text.first in
    let end = text.last in
    let low = at.first in
    let ordered = at.ordered in
    let high = at.last in
    let one : 1 ≤ from = omega arith in
    let most : to ≤ length b.text.text + 1 = omega arith in
    let cut = length-gap b.text.text (from - 1) (to - 1) (omega arith) (omega arith) in
    let size : length c.text.text ≡ length b.text.text - (to - from) = ap (λ t. length t.text) same ∙ omega (arith, cut) in
    came-within b c (map (slot_shrunk from to) b.overlays) within
    (λ kind p value h.
    let was = closed-from (b.properties kind) from to p value (sym (values kind p) ∙ h) in
    let stays : 1 ≤ was.0 → was.0 ≤ length b.text.text → (1 ≤ p) × (p ≤ length c.text.text) = λ least last. elim was.2 [
      | inl before ↦ (omega (arith, before.0, least), omega (arith, before.1, ordered, most, size))
      | inr behind ↦ (omega (arith, behind.1, one), omega (arith, behind.0, last, size))
    ] in
    (was.0, was.1, stays))
    overlays (rw length-map within.few) (changed-each (IsOverlayIn (length c.text.text)) (shrunk from to) b.overlays
    (λ k o at. subst (λ s. IsOverlayIn s (shrunk from to o)) (sym size)
    (shrunk-in (length b.text.text) from to o one ordered most (within.overlays k o at))))

-- a buffer whose characters and values are another's, with few overlays, of which each lies in the text
overlays-within : (b c : props.BufferValue) (slots : List (Option Overlay)) → IsWithin b → c.text.text ≡ b.text.text
    → ((kind p : ℕ) → c.properties kind p ≡ b.properties kind p) → c.overlays ≡ slots → length slots ≤ 65536 → AreIn (length b.text.text) slots → IsWithin c
overlays-within b c slots within same values overlays few all =
    came-within b c slots within
    (λ kind p value h. (p, sym (values kind p) ∙ h, λ one most. (one, subst (λ t. p ≤ length t) (sym same) most))) overlays few
    (subst (λ t. AreIn (length t) slots) (sym same) all)

-- a buffer whose characters, values and overlays are another's
pub same-within : (b c : props.BufferValue) → IsWithin b → c.text.text ≡ b.text.text → ((kind p : ℕ) → c.properties kind p ≡ b.properties kind p)
    → c.overlays ≡ b.overlays → IsWithin c
same-within b c within same values overlays = overlays-within b c b.overlays within same values overlays within.few within.overlays

-- ---- one overlay more, or another

in-range : (t : TextValue) (from to : ℕ) (o : Overlay) → is_range_of_all t from to ≡ true → o.from ≡ from → o.to ≡ to → IsOverlayIn (length t.text) o
in-range t from to o h f g = record { first = grind (arith, nat_tests); ordered = grind (arith, nat_tests); last = grind (arith, nat_tests) }

room-left : (a b : Bool) (n from to : ℕ) → nat_lt to from ≡ a → nat_le 65536 n ≡ b → (if a then Some OutOfRange else (if b then Some TooMany else None)) ≡ None → n < 65536
room-left true b n from to ha hb h = absurd (cc)
room-left false true n from to ha hb h = absurd (cc)
room-left false false n from to ha hb h = leb-false 65536 n hb

pub made-within : (b : props.BufferValue) (overlays : List (Option Overlay)) (settings : SettingValues) (from to : ℕ) (o : Overlay) → IsWithin b
    → is_range_of_all b.text from to ≡ true → make_fault b.overlays from to ≡ None → o.from ≡ from → o.to ≡ to → overlays ≡ b.overlays ++ Some o ∷ []
    → IsWithin (record b { overlays = overlays; settings = settings })
made-within b overlays settings from to o within range none f g is =
    let room = room-left (nat_lt to from) (nat_le 65536 (length b.overlays)) (length b.overlays) from to refl refl none in
    overlays-within b (record b { overlays = overlays; settings = settings }) (b.overlays ++ Some o ∷ []) within refl (λ kind p. refl) is
    (omega (arith, room, length-append b.overlays (Some o ∷ [])))
    (λ number p h. elim (after-end b.overlays o number p h) [
      | inl old ↦ within.overlays number p old
      | inr same ↦ subst (IsOverlayIn (length b.text.text)) same (in-range b.text from to o range f g)
    ])

-- what is put at a number lies in the text
pub put-within : (b : props.BufferValue) (overlays : List (Option Overlay)) (settings : SettingValues) (number : ℕ) (slot : Option Overlay) → IsWithin b
    → ((p : Overlay) → slot ≡ Some p → IsOverlayIn (length b.text.text) p) → overlays ≡ set b.overlays number slot
    → IsWithin (record b { overlays = overlays; settings = settings })
put-within b overlays settings number slot within new is =
    overlays-within b (record b { overlays = overlays; settings = settings }) (set b.overlays number slot) within refl (λ kind p. refl) is (rw length-set within.few)
    (λ k p h. elim (after-set b.overlays number slot k p h) [
      | inl old ↦ within.overlays k p old
      | inr here ↦ new p here
    ])

pub moved-within : (b : props.BufferValue) (overlays : List (Option Overlay)) (settings : SettingValues) (number from to : ℕ) → IsWithin b
    → is_range_of_all b.text from to ≡ true → overlays ≡ moved b.overlays number from to → IsWithin (record b { overlays = overlays; settings = settings })
moved-within b overlays settings number from to within range is =
    let change : Overlay → Overlay = λ overlay. record overlay { from = from; to = to } in
    put-within b overlays settings number (option_map change (overlay_at b.overlays number)) within
    (slot-each (IsOverlayIn (length b.text.text)) change (overlay_at b.overlays number) (λ q at. in-range b.text from to (change q) range refl refl)) is

pub given-within : (b : props.BufferValue) (overlays : List (Option Overlay)) (settings : SettingValues) (number : ℕ) (kind : Kind) (value : Option ℕ) → IsWithin b
    → overlays ≡ given b.overlays number kind value → IsWithin (record b { overlays = overlays; settings = settings })
given-within b overlays settings number kind value within is =
    let change : Overlay → Overlay = λ overlay. record overlay { values = set overlay.values (place_of kind) value } in
    put-within b overlays settings number (option_map change (overlay_at b.overlays number)) within
    (slot-each (IsOverlayIn (length b.text.text)) change (overlay_at b.overlays number)
    (λ q at. let old = within.overlays number q at in record { first = old.first; ordered = old.ordered; last = old.last })) is

-- A property that is put, an overlay that becomes another, and objects that are made leave what stands elsewhere.
use Rattle.std.proofs.Common.{◌≡◌, ◌⊎◌, inl, inr, ℕ, zero, suc, ◌+◌, ◌-◌, ◌<◌, ◌≤◌, min, max, Bool, true, false, ◌&&◌, if◌then◌else◌, List, [], ◌∷◌, ◌++◌, length, set, Option, None, Some, refl, sym, ap, subst, ◌∙◌, arith}
use Rattle.std.specs.Prelude.{nat_lt, nat_le, ◌==◌, slice_get, ℤ, pos, ◌-ℤ◌}
use Rattle.std.specs.Option.{option_map, unwrap_or}
use Rattle.std.proofs.lemmas.Int.{ints}
use Rattle.std.proofs.lemmas.Bool.Decides.{nat_tests}
use Rattle.rd_base.proofs.Lists.{get-first, read-set}
use Rattle.rd_base.specs.Faces.{Attributes, plain}
use Rattle.rd_text.specs.Texts.{TextValue}
use Rattle.rd_overlays.specs.declared.overlay.Overlay.{Overlay}
use Rattle.rd_overlays.specs.declared.overlay.Kind.{Kind}
use Rattle.rd_overlays.specs.declared.overlay.Kind.TheVariants.{Face}
use Rattle.rd_overlays.specs.Overlays.{overlay_at, place_of, covers, starts, ends, covering, moved, dropped, given}
use Rattle.rd_objects.specs.Things.{ObjectLists}
use Rattle.rd_objects.specs.Sound.{Extends}
use Rattle.rd_props.specs.Buffers.{BufferValue, property}
use Rattle.rd_props.specs.Values.{value_of}
use Rattle.rd_props.specs.Faces.{face_of, laid_over, face_at}
use Rattle.rd_props.specs.Appearance.{appearance_at}
use Rattle.rd_props.specs.Seen.{seen_at, Agree}
use Rattle.rd_props.specs.Agreement.{IsInReach, IsSame, Unchanged, IsEdited}
use Rattle.rd_props.specs.Edits.{IsPut, HasOverlays}
use Rattle.rd_props.specs.Made.{AreMade}
use Rattle.rd_props.proofs.Alike.{AreAlike, SeeSame, mark_of, picked, laid-by}
use Rattle.rd_props.proofs.Texts.{ReadsAlike}
use Rattle.rd_props.proofs.Editing.{StaysSame, same-by, stays-by}
use Rattle.rd_props.proofs.Sees.{slot-made}

itself : (t : TextValue) (x : ℕ) → ReadsAlike t x t x
itself t x = record { inside = refl; character = refl; to = λ h. h; from = λ h. h }

see-itself : (x : ℕ) (slots : List (Option Overlay)) → SeeSame x x slots slots
see-itself x slots = record { covers = λ n. refl; starts = λ n. refl; ends = λ n. refl }

-- two states of one length that see the same before one position and from another on
kept : (old new : BufferValue) (made objects : ObjectLists) → new.text.begin ≡ old.text.begin → (head tail : ℕ) (added : ℤ) → added ≡ pos 0
    → ((x : ℕ) → (x < head) ⊎ (tail ≤ x) → IsInReach old x new x → IsSame old made x new objects x) → Unchanged old made new objects head tail added
kept old new made objects begin head tail added none same = record {
  begin = begin;
  before = λ x low less reach. same x (inl less) reach;
  behind = λ x y low more is reach.
      let here : x ≡ y = omega (arith, ints, is, none) in
      let P : ℕ → Type 0 = λ z. IsInReach old x new z → IsSame old made x new objects z in
      subst P here (same x (inr (omega arith))) reach;
}

unmoved : (old new : BufferValue) (objects : ObjectLists) → new.text.begin ≡ old.text.begin → (head last : ℕ) (added : ℤ) → added ≡ pos 0
    → ((x : ℕ) → (x < head) ⊎ (last < x) → StaysSame old x new x) → Unchanged old objects new objects head (last + 1) added
unmoved old new objects begin head last added none stays =
    kept old new objects objects begin head (last + 1) added none
    (λ x away. same-by old new objects x x (stays x (elim away [ inl low ↦ inl low | inr high ↦ inr (omega (arith, high)) ])))

-- where as many positions stand as before none is added
pub no-more : (n : ℕ) → pos n -ℤ pos n ≡ pos 0
no-more n = omega (arith, ints)

-- ---- the settings alone

pub settings-edit : (old new : BufferValue) (objects : ObjectLists) (head tail : ℕ) → HasOverlays old new old.overlays → Unchanged old objects new objects head tail (pos 0)
settings-edit old new objects head tail edit =
    kept old new objects objects (ap (λ (t : TextValue). t.begin) edit.text) head tail (pos 0) refl (λ x away. same-by old new objects x x
    (stays-by old new x x _ _ edit.text edit.overlays (itself old.text x) (λ kind. sym (edit.properties kind x)) (see-itself x old.overlays)))

-- ---- a property that is put

put-outside : (t u : Bool) (value other : Option ℕ) → u ≡ false → other ≡ (if t then (if u then value else other) else other)
put-outside true false value other out = refl
put-outside true true value other out = absurd (cc)
put-outside false u value other out = refl

put-stays : (old new : BufferValue) (kind : Kind) (from to x : ℕ) (value : Option ℕ) → IsPut old new kind from to value → (x < from) ⊎ (from + (to - from) < x) → StaysSame old x new x
put-stays old new kind from to x value edit away =
    let out : (nat_le from x && nat_lt x to) ≡ false = grind (arith, nat_tests) in
    stays-by old new x x _ _ edit.text edit.overlays (itself old.text x)
    (λ k. put-outside (k == place_of kind) (nat_le from x && nat_lt x to) value (old.properties k x) out ∙ sym (edit.properties k x)) (see-itself x old.overlays)

pub put-edits : (old new : BufferValue) (objects : ObjectLists) (kind : Kind) (from to : ℕ) (value : Option ℕ) → IsPut old new kind from to value
    → IsEdited old objects new objects from (to - from) (to - from)
put-edits old new objects kind from to value edit =
    unmoved old new objects (ap (λ (t : TextValue). t.begin) edit.text) from (from + (to - from)) (pos (to - from) -ℤ pos (to - from)) (no-more (to - from))
    (λ x away. put-stays old new kind from to x value edit away)

-- ---- one overlay that becomes another

-- an overlay that may be there lies between two positions
abbrev LiesIn : ℕ → ℕ → Option Overlay → Type 0
LiesIn low high slot = (o : Overlay) → slot ≡ Some o → (low ≤ o.from) × (o.from ≤ o.to) × (o.to ≤ high)

unmet : (f : Overlay → Bool) (slot : Option Overlay) → ((o : Overlay) → slot ≡ Some o → f o ≡ false) → picked f slot ≡ None
unmet f None none = refl
unmet f (Some o) none = ap (λ (t : Bool). if t then Some (mark_of o) else None) (none o refl)

missed : (low high x : ℕ) (o : Overlay) → (low ≤ o.from) × (o.from ≤ o.to) × (o.to ≤ high) → (x < low) ⊎ (high < x) → (covers x o ≡ false) × (starts x o ≡ false) × (ends x o ≡ false)
missed low high x o lies away =
    let first = lies.0 in let ordered = lies.1 in let last = lies.2 in (grind (arith, nat_tests), grind (arith, nat_tests), grind (arith, nat_tests))

-- two lists whose overlays are the same but for some that lie between two positions: a test that no such overlay passes finds
-- the same in both
abbrev DifferIn : ℕ → ℕ → List (Option Overlay) → List (Option Overlay) → Type 0
DifferIn low high a b = (f : Overlay → Bool) → ((o : Overlay) → (low ≤ o.from) × (o.from ≤ o.to) × (o.to ≤ high) → f o ≡ false) → AreAlike f f a b

see-elsewhere : (low high : ℕ) (a b : List (Option Overlay)) → DifferIn low high a b → (x : ℕ) → (x < low) ⊎ (high < x) → SeeSame x x a b
see-elsewhere low high a b differ x away = record {
  covers = differ (covers x) (λ o lies. (missed low high x o lies away).0);
  starts = differ (starts x) (λ o lies. (missed low high x o lies away).1);
  ends = differ (ends x) (λ o lies. (missed low high x o lies away).2);
}

overlays-stay : (old new : BufferValue) (slots : List (Option Overlay)) (low high x : ℕ) → HasOverlays old new slots → DifferIn low high old.overlays slots
    → (x < low) ⊎ (high < x) → StaysSame old x new x
overlays-stay old new slots low high x edit differ away =
    stays-by old new x x _ _ edit.text edit.overlays (itself old.text x) (λ kind. sym (edit.properties kind x)) (see-elsewhere low high old.overlays slots differ x away)

-- overlays with one more that a test does not pick
found-end : (f : Overlay → Bool) (slots : List (Option Overlay)) (n : ℕ) (slot : Option Overlay) → picked f slot ≡ None
    → picked f (overlay_at slots n) ≡ picked f (overlay_at (slots ++ slot ∷ []) n)
found-end f [] zero slot new = sym new
found-end f [] (suc n) slot new = refl
found-end f (s ∷ slots) zero slot new = refl
found-end f (s ∷ slots) (suc n) slot new = found-end f slots n slot new

same-lies : (low high : ℕ) (slot : Option Overlay) (o p : Overlay) → slot ≡ Some o → (low ≤ o.from) × (o.from ≤ o.to) × (o.to ≤ high) → slot ≡ Some p
    → (low ≤ p.from) × (p.from ≤ p.to) × (p.to ≤ high)
same-lies low high slot o p is lies h =
    let same : o ≡ p = cc in
    let P : Overlay → Type 0 = λ q. (low ≤ q.from) × (q.from ≤ q.to) × (q.to ≤ high) in
    subst P same lies

-- an overlay of a number that became another, or went
set-differs : (slots : List (Option Overlay)) (number low high : ℕ) (o : Overlay) (slot : Option Overlay) → overlay_at slots number ≡ Some o → (low ≤ o.from) × (o.from ≤ o.to) × (o.to ≤ high)
    → LiesIn low high slot → DifferIn low high slots (set slots number slot)
set-differs slots number low high o slot is lies next = λ f none n.
    let old = unmet f (overlay_at slots number) (λ p h. none p (same-lies low high (overlay_at slots number) o p is lies h)) in
    let new = unmet f slot (λ p h. none p (next p h)) in
    read-set (λ s. picked f (overlay_at slots n) ≡ picked f (unwrap_or s None)) slots number n slot (λ e. ap (λ k. picked f (overlay_at slots k)) e ∙ old ∙ sym new) refl

end-differs : (slots : List (Option Overlay)) (low high : ℕ) (o : Overlay) → (low ≤ o.from) × (o.from ≤ o.to) × (o.to ≤ high) → DifferIn low high slots (slots ++ Some o ∷ [])
end-differs slots low high o lies = λ f none n. found-end f slots n (Some o) (unmet f (Some o) (λ p h. none p (same-lies low high (Some o) o p refl lies h)))

module _ (old new : BufferValue) (objects : ObjectLists) where
  one-edits : (slots : List (Option Overlay)) (from to : ℕ) → HasOverlays old new slots → DifferIn from (from + (to - from)) old.overlays slots
      → IsEdited old objects new objects from (to - from) (to - from)
  one-edits slots from to edit differ =
      unmoved old new objects (ap (λ (t : TextValue). t.begin) edit.text) from (from + (to - from)) (pos (to - from) -ℤ pos (to - from)) (no-more (to - from))
      (λ x away. overlays-stay old new slots from (from + (to - from)) x edit differ away)

  pub making-edits : (o : Overlay) → o.from ≤ o.to → HasOverlays old new (old.overlays ++ Some o ∷ []) → IsEdited old objects new objects o.from (o.to - o.from) (o.to - o.from)
  making-edits o ordered edit =
      one-edits (old.overlays ++ Some o ∷ []) o.from o.to edit
      (end-differs old.overlays o.from (o.from + (o.to - o.from)) o (omega arith, ordered, omega arith))

  module _ (number : ℕ) (o : Overlay) (is : overlay_at old.overlays number ≡ Some o) (ordered : o.from ≤ o.to) where
    pub dropping-edits : HasOverlays old new (dropped old.overlays number) → IsEdited old objects new objects o.from (o.to - o.from) (o.to - o.from)
    dropping-edits edit =
        one-edits (dropped old.overlays number) o.from o.to edit
        (set-differs old.overlays number o.from (o.from + (o.to - o.from)) o None is (omega arith, ordered, omega arith) (λ p h. absurd (cc)))

    pub giving-edits : (kind : Kind) (value : Option ℕ) → HasOverlays old new (given old.overlays number kind value) → IsEdited old objects new objects o.from (o.to - o.from) (o.to - o.from)
    giving-edits kind value edit =
        let change : Overlay → Overlay = λ overlay. record overlay { values = set overlay.values (place_of kind) value } in
        one-edits (given old.overlays number kind value) o.from o.to edit
        (set-differs old.overlays number o.from (o.from + (o.to - o.from)) o (option_map change (overlay_at old.overlays number)) is (omega arith, ordered, omega arith)
        (λ p h. same-lies o.from (o.from + (o.to - o.from)) _ (change o) p (ap (option_map change) is) (omega arith, ordered, omega arith) h))

    pub moving-edits : (from to : ℕ) → from ≤ to → HasOverlays old new (moved old.overlays number from to)
        → Unchanged old objects new objects (min o.from from) (max o.to to + 1) (pos 0)
    moving-edits from to less edit =
        let change : Overlay → Overlay = λ overlay. record overlay { from = from; to = to } in
        let differ = set-differs old.overlays number (min o.from from) (max o.to to) o (option_map change (overlay_at old.overlays number)) is (omega arith, ordered, omega arith)
        (λ p h. same-lies (min o.from from) (max o.to to) _ (change o) p (ap (option_map change) is) (omega arith, less, omega arith) h) in
        unmoved old new objects (ap (λ (t : TextValue). t.begin) edit.text) (min o.from from) (max o.to to) (pos 0) refl
        (λ x away. overlays-stay old new (moved old.overlays number from to) (min o.from from) (max o.to to) x edit differ away)

-- ---- objects that are made

module _ (s : BufferValue) (old new : ObjectLists) (extends : Extends old new) (made : AreMade s old) where
  face-same : (o : Option ℕ) → ((v : ℕ) → o ≡ Some v → v < length old.faces) → face_of old o ≡ face_of new o
  face-same None small = refl
  face-same (Some v) small =
      ap (λ (a : Option Attributes). unwrap_or a plain)
      (sym (get-first old.faces extends.faces.0 v (small v refl)) ∙ ap (λ (xs : List Attributes). slice_get xs v) (sym extends.faces.1))

  seen-same : (x : ℕ) → Agree s old x s new x
  seen-same x =
      let own = face-same (property s Face x) (λ v h. made.properties Face x v h) in
      let laid = laid-by old new s.overlays s.overlays (covering x s.overlays) (face_of old (property s Face x))
      (λ n _. face-same (value_of Face (overlay_at s.overlays n)) (λ v h. slot-made s old made n Face _ v refl h))
      ∙ ap (laid_over new s.overlays (covering x s.overlays)) own in
      let face : face_at s old x ≡ face_at s new x = ap (λ (a : Attributes). if nat_lt x s.text.end then a else plain) laid in
      λ i. record (seen_at s old x) { appearance = record (appearance_at s old x) { face = face i } }

  within-same : (x : ℕ) → IsInReach s x s x → IsSame s old x s new x
  within-same x reach =
      let within : x ≤ s.text.end = elim reach [ inl h ↦ h | inr h ↦ h ] in
      record { old_within = within; new_within = within; agree = seen-same x }

  pub objects-edit : (head tail : ℕ) → Unchanged s old s new head tail (pos 0)
  objects-edit head tail = kept s s old new refl head tail (pos 0) refl (λ x away reach. within-same x reach)

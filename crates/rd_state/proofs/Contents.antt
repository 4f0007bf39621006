-- What a buffer holds stays valid through each edit of it, and what each edit is in the terms of properties and overlays.
use Rattle.std.proofs.Common.{◌≡◌, ℕ, ◌+◌, ◌-◌, ◌<◌, ◌≤◌, ◌==◌, ◌&&◌, ◌++◌, ◌⊎◌, inl, inr, Bool, true, false, if◌then◌else◌, nat_lt, nat_le, ℤ, Option, None, Some, List, [], ◌∷◌, length, take, drop, subst, sym, refl, ◌∙◌, arith, IsTrue}
use Rattle.std.proofs.lemmas.Bool.{leb-true, ltb-true, eqb-true, cond-false, le-ltb}
use Rattle.std.proofs.lemmas.List.Elements.{All-append, All-take, All-drop}
use Rattle.std.specs.FinMap.{get}
use Rattle.std.specs.Prelude.{IfSome}
use Rattle.rd_base.specs.Chars.{is_code}
use Rattle.rd_base.specs.Settings.{SettingValues}
use Rattle.rd_base.specs.declared.limits.TheConstants.{TEXT_CHARACTERS}
use Rattle.rd_text.specs.Texts.{TextValue, IsText, IsAccessible, narrowed, widened}
use Rattle.rd_text.specs.Answers.{IsAccessibleRange, IsRangeOfAll}
use Rattle.rd_text.proofs.Keeping.{inserted-is_text, deleted-is_text, narrowed-is_text, widened-is_text}
use Rattle.rd_overlays.specs.declared.overlay.Overlay.{Overlay}
use Rattle.rd_overlays.specs.declared.overlay.Kind.{Kind}
use Rattle.rd_overlays.specs.declared.overlay.Kind.TheVariants as kinds
use Rattle.rd_overlays.specs.Overlays.{new_overlay, place_of, moved, dropped, given}
use Rattle.rd_objects.specs.Sound.{AreCodes}
use Rattle.rd_objects.specs.Things.{ObjectLists}
use Rattle.rd_props.specs.Buffers as props
use Rattle.rd_props.specs.Edits.{put_on, HasParts, IsInsertion, IsDeletion, IsPut, HasOverlays}
use Rattle.rd_props.proofs.Names.{made-inserted, made-deleted, made-put, made-making, made-moving, made-dropping, made-giving}
use Rattle.rd_props.specs.Made.{IsMade, SettingsMade, AreMade}
use Rattle.rd_props.specs.Values.{value_of}
use Rattle.rd_script.specs.Forms.{is_text_kind}
use Rattle.rd_state.specs.States.{ContentValue, seen, values_on, value_in}
use Rattle.rd_state.specs.Valid.{IsWithin, IsContent}
use Rattle.rd_state.specs.Edits.{is_range_of_all, is_number_made, is_value_made, marked_modified, content_grown, content_shrunk, seen_grown, seen_shrunk, with_seen}
use Rattle.rd_state.proofs.Tables.{AreAlike, value-in-table}
use Rattle.rd_state.proofs.Within.{grown-within, shrunk-within, same-within, made-within, put-within, moved-within, given-within}

-- ---- values over another text

-- values that lie in a text are those of their lists
listed-alike : (b : props.BufferValue) → IsWithin b → AreAlike (value_in (values_on b.text b.properties)) b.properties
listed-alike b within = value-in-table (length b.text.text) b.properties within.kinds within.first within.last

-- a buffer with the lists of its values
abbrev listed_values : props.BufferValue → props.BufferValue
listed_values b = record b { properties = value_in (values_on b.text b.properties) }

listed-within : (b : props.BufferValue) → IsWithin b → IsWithin (listed_values b)
listed-within b within = same-within b (listed_values b) within refl (listed-alike b within) refl

-- what a buffer holds where this is seen of it has its parts, whatever the settings
seen-parts : (c : ContentValue) (b : props.BufferValue) (s : SettingValues) → IsWithin b → HasParts (seen (with_seen c b)) (record b { settings = s })
seen-parts c b s within = record { text = refl; properties = listed-alike b within; overlays = refl }

-- ---- insertion

opened-within : (c : ContentValue) (pos : ℕ) (new : List ℕ) → IsText c.text → IsWithin (seen c) → IsAccessible c.text pos → IsWithin (seen_grown c pos new)
opened-within c pos new text within at = grown-within (seen c) (seen_grown c pos new) pos new text within at refl (λ kind p. refl) refl

pub grown-is : (c : ContentValue) (pos : ℕ) (new : List ℕ) → IsText c.text → IsWithin (seen c) → IsAccessible c.text pos → IsInsertion (seen c) (seen (content_grown c pos new)) pos new
grown-is c pos new text within at = seen-parts c (seen_grown c pos new) c.settings (opened-within c pos new text within at)

settings-kept : (o : ObjectLists) (s t : SettingValues) → t.table ≡ s.table → t.line_prefix ≡ s.line_prefix → t.wrap_prefix ≡ s.wrap_prefix → SettingsMade o s → SettingsMade o t
settings-kept o s t a b d h = record {
  table = subst (λ (x : Option ℕ). IfSome x (λ number. number < length o.tables)) (sym a) h.table;
  line_prefix = subst (λ (x : Option ℕ). IfSome x (λ number. number < length o.strings)) (sym b) h.line_prefix;
  wrap_prefix = subst (λ (x : Option ℕ). IfSome x (λ number. number < length o.strings)) (sym d) h.wrap_prefix;
}

-- tab stops of 1 to 32 columns
abbrev pub IsTab : SettingValues → Type 0
IsTab s = (1 ≤ s.tab_width) × (s.tab_width ≤ 32)

-- what a buffer holds is still valid where its tab stops, characters, values, overlays and margin strings are
pub still-valid : (o : ObjectLists) (c : ContentValue) → IsTab c.settings → IsText c.text → AreCodes c.text.text → IsWithin (seen c) → AreMade (seen c) o
    → ((overlay string : ℕ) → get c.marks overlay ≡ Some string → string < length o.strings) → IsContent o c
still-valid o c tab text characters within names marks = record {
  text = text;
  characters = characters;
  within = within;
  least_tab = tab.0;
  most_tab = tab.1;
  names = names;
  marks = marks;
}

pub grown-valid : (o : ObjectLists) (c : ContentValue) (pos : ℕ) (new : List ℕ) → IsContent o c → AreCodes new → IsAccessible c.text pos
    → length c.text.text + length new ≤ TEXT_CHARACTERS → IsContent o (content_grown c pos new)
grown-valid o c pos new v codes at room =
    let code = λ (x : ℕ). IsTrue (is_code x) in
    let first = All-append code (take (pos - 1) c.text.text) new (All-take code (pos - 1) c.text.text v.characters) codes in
    let settings = settings-kept o c.settings (marked_modified (nat_lt 0 (length new)) c.settings) refl refl refl v.names.settings in
    still-valid o (content_grown c pos new) (v.least_tab, v.most_tab) (inserted-is_text c.text pos new v.text at room)
    (All-append code (take (pos - 1) c.text.text ++ new) (drop (pos - 1) c.text.text) first (All-drop code (pos - 1) c.text.text v.characters))
    (listed-within (seen_grown c pos new) (opened-within c pos new v.text v.within at))
    (made-inserted (seen c) (seen (content_grown c pos new)) o v.names settings pos new (grown-is c pos new v.text v.within at)) v.marks

-- ---- deletion

closed-within : (c : ContentValue) (from to : ℕ) → IsText c.text → IsWithin (seen c) → IsAccessibleRange c.text from to → IsWithin (seen_shrunk c from to)
closed-within c from to text within at = shrunk-within (seen c) (seen_shrunk c from to) from to text within at refl (λ kind p. refl) refl

pub shrunk-is : (c : ContentValue) (from to : ℕ) → IsText c.text → IsWithin (seen c) → IsAccessibleRange c.text from to → IsDeletion (seen c) (seen (content_shrunk c from to)) from to
shrunk-is c from to text within at = seen-parts c (seen_shrunk c from to) c.settings (closed-within c from to text within at)

pub shrunk-valid : (o : ObjectLists) (c : ContentValue) (from to : ℕ) → IsContent o c → IsAccessibleRange c.text from to → IsContent o (content_shrunk c from to)
shrunk-valid o c from to v at =
    let code = λ (x : ℕ). IsTrue (is_code x) in
    let settings = settings-kept o c.settings (marked_modified (nat_lt from to) c.settings) refl refl refl v.names.settings in
    still-valid o (content_shrunk c from to) (v.least_tab, v.most_tab) (deleted-is_text c.text from to v.text at)
    (All-append code (take (from - 1) c.text.text) (drop (to - 1) c.text.text) (All-take code (from - 1) c.text.text v.characters) (All-drop code (to - 1) c.text.text v.characters))
    (listed-within (seen_shrunk c from to) (closed-within c from to v.text v.within at))
    (made-deleted (seen c) (seen (content_shrunk c from to)) o v.names settings from to (shrunk-is c from to v.text v.within at)) v.marks

-- ---- the accessible range

range-valid : (o : ObjectLists) (c : ContentValue) (t : TextValue) → IsContent o c → IsText t → t.text ≡ c.text.text → IsContent o (record c { text = t })
range-valid o c t v text same =
    still-valid o (record c { text = t }) (v.least_tab, v.most_tab) text (subst AreCodes (sym same) v.characters)
    (same-within (seen c) (seen (record c { text = t })) v.within same (λ kind p. refl) refl)
    (record { properties = v.names.properties; overlays = v.names.overlays; settings = v.names.settings }) v.marks

pub narrowed-valid : (o : ObjectLists) (c : ContentValue) (from to : ℕ) → IsContent o c → IsRangeOfAll c.text from to → IsContent o (record c { text = narrowed c.text from to })
narrowed-valid o c from to v at = range-valid o c (narrowed c.text from to) v (narrowed-is_text c.text from to v.text at) refl

pub widened-valid : (o : ObjectLists) (c : ContentValue) → IsContent o c → IsContent o (record c { text = widened c.text })
widened-valid o c v = range-valid o c (widened c.text) v (widened-is_text c.text v.text) refl

-- ---- properties

text-place : (kind : Kind) → is_text_kind kind ≡ true → place_of kind < 5
text-place kinds.Before h = absurd (cc)
text-place kinds.After h = absurd (cc)
text-place kind h = omega arith

abbrev put_values : ContentValue → ℕ → ℕ → Kind → Option ℕ → props.BufferValue
put_values c from to kind value = record (seen c) { properties = put_on (value_in c.properties) kind from to value }

-- where a value on a range came from
put-came : (t u w : Bool) (a : Option ℕ) (value : Option ℕ) (v : ℕ) → (if t then (if u && w then value else a) else a) ≡ Some v → ((t ≡ true) × (u ≡ true) × (w ≡ true)) ⊎ (a ≡ Some v)
put-came true true true a value v h = inl (refl, refl, refl)
put-came true true false a value v h = inr h
put-came true false w a value v h = inr h
put-came false u w a value v h = inr h

-- values lie in their text after a value was put on a range of it
pub put_on-within : (b : props.BufferValue) (from to : ℕ) (kind : Kind) (value : Option ℕ) → IsText b.text → IsWithin b → is_text_kind kind ≡ true → IsAccessibleRange b.text from to
    → IsWithin (record b { properties = put_on b.properties kind from to value })
put_on-within b from to kind value text within is at =
    let first = text.first in
    let last = text.last in
    let low = at.first in
    let high = at.last in
    let came = λ (k p v : ℕ) (h : put_on b.properties kind from to value k p ≡ Some v). put-came (k == place_of kind) (nat_le from p) (nat_lt p to) (b.properties k p) value v h in
    record {
      kinds = λ k p v h. elim (came k p v h) [
        | inl q ↦ subst (λ (x : ℕ). x < 5) (sym (eqb-true k (place_of kind) q.0)) (text-place kind is)
        | inr q ↦ within.kinds k p v q
      ];
      first = λ k p v h. elim (came k p v h) [
        | inl q ↦ let from_p = leb-true from p q.1 in omega arith
        | inr q ↦ within.first k p v q
      ];
      last = λ k p v h. elim (came k p v h) [
        | inl q ↦ let p_to = ltb-true p to q.2 in omega arith
        | inr q ↦ within.last k p v q
      ];
      few = within.few;
      overlays = within.overlays;
    }

-- a buffer with another property on a range
abbrev pub with_property : ContentValue → ℕ → ℕ → Kind → Option ℕ → ContentValue
with_property c from to kind value = record c { properties = values_on c.text (put_on (value_in c.properties) kind from to value) }

pub put-is : (c : ContentValue) (from to : ℕ) (kind : Kind) (value : Option ℕ) → IsText c.text → IsWithin (seen c) → is_text_kind kind ≡ true → IsAccessibleRange c.text from to
    → IsPut (seen c) (seen (with_property c from to kind value)) kind from to value
put-is c from to kind value text within is at = seen-parts c (put_values c from to kind value) c.settings (put_on-within (seen c) from to kind value text within is at)

pub number-made : (count : ℕ) (number : Option ℕ) → is_number_made count number ≡ true → IfSome number (λ n. n < count)
number-made count None h = tt
number-made count (Some n) h = ltb-true n count h

made-number : (count : ℕ) (value : Option ℕ) (v : ℕ) → is_number_made count value ≡ true → value ≡ Some v → v < count
made-number count value v h e = subst (λ o. IfSome o (λ n. n < count)) e (number-made count value h)

pub value-made : (o : ObjectLists) (kind : Kind) (value : Option ℕ) → is_value_made o kind value ≡ true → (v : ℕ) → value ≡ Some v → IsMade o kind v
value-made o kinds.Face value h v e = made-number (length o.faces) value v h e
value-made o kinds.Display value h v e = made-number (length o.specs) value v h e
value-made o kinds.Invisible value h v e = tt
value-made o kind value h v e = made-number (length o.strings) value v h e

pub put-valid : (o : ObjectLists) (c : ContentValue) (from to : ℕ) (kind : Kind) (value : Option ℕ) → IsContent o c → is_text_kind kind ≡ true
    → IsAccessibleRange c.text from to → is_value_made o kind value ≡ true → IsContent o (with_property c from to kind value)
put-valid o c from to kind value v is at numbered =
    still-valid o (with_property c from to kind value) (v.least_tab, v.most_tab) v.text v.characters
    (listed-within (put_values c from to kind value) (put_on-within (seen c) from to kind value v.text v.within is at))
    (made-put (seen c) (seen (with_property c from to kind value)) o v.names v.names.settings kind from to value (value-made o kind value numbered) (put-is c from to kind value v.text v.within is at)) v.marks

-- ---- overlays

-- a buffer with other overlays
abbrev pub with_overlays : ContentValue → List (Option Overlay) → ContentValue
with_overlays c overlays = record c { overlays = overlays }

pub overlays-are : (c : ContentValue) (overlays : List (Option Overlay)) → HasOverlays (seen c) (seen (with_overlays c overlays)) overlays
overlays-are c overlays = record { text = refl; properties = λ kind p. refl; overlays = refl }

overlays-valid : (o : ObjectLists) (c : ContentValue) (overlays : List (Option Overlay)) → IsContent o c → IsWithin (seen (with_overlays c overlays)) → AreMade (seen (with_overlays c overlays)) o
    → IsContent o (with_overlays c overlays)
overlays-valid o c overlays v within names = still-valid o (with_overlays c overlays) (v.least_tab, v.most_tab) v.text v.characters within names v.marks

no-value : (kind : Kind) (from to : ℕ) (priority : ℤ) (front rear : Bool) (v : ℕ) → value_of kind (Some (new_overlay from to priority front rear)) ≡ Some v → ⊥
no-value kinds.Face from to priority front rear v h = cc
no-value kind from to priority front rear v h = cc

pub made-valid : (o : ObjectLists) (c : ContentValue) (from to : ℕ) (priority : ℤ) (front rear : Bool) → IsContent o c → is_range_of_all c.text from to ≡ true
    → IsRangeOfAll c.text from to → nat_le 65536 (length c.overlays) ≡ false → IsContent o (with_overlays c (c.overlays ++ Some (new_overlay from to priority front rear) ∷ []))
made-valid o c from to priority front rear v test range room =
    let overlay = new_overlay from to priority front rear in
    let all = c.overlays ++ Some overlay ∷ [] in
    let ordered = range.ordered in
    let none = cond-false (nat_lt to from) _ _ (le-ltb to from ordered) ∙ cond-false (nat_le 65536 (length c.overlays)) _ _ room in
    overlays-valid o c all v (made-within (seen c) all c.settings from to overlay v.within test none refl refl refl)
    (made-making (seen c) (seen (with_overlays c all)) o v.names v.names.settings overlay (λ kind x h. absurd (no-value kind from to priority front rear x h)) (overlays-are c all))

pub moved-valid : (o : ObjectLists) (c : ContentValue) (number from to : ℕ) → IsContent o c → is_range_of_all c.text from to ≡ true
    → IsContent o (with_overlays c (moved c.overlays number from to))
moved-valid o c number from to v test =
    let all = moved c.overlays number from to in
    overlays-valid o c all v (moved-within (seen c) all c.settings number from to v.within test refl)
    (made-moving (seen c) (seen (with_overlays c all)) o v.names v.names.settings number from to (overlays-are c all))

pub dropped-valid : (o : ObjectLists) (c : ContentValue) (number : ℕ) → IsContent o c → IsContent o (with_overlays c (dropped c.overlays number))
dropped-valid o c number v =
    let all = dropped c.overlays number in
    overlays-valid o c all v (put-within (seen c) all c.settings number None v.within (λ p h. absurd (cc)) refl)
    (made-dropping (seen c) (seen (with_overlays c all)) o v.names v.names.settings number (overlays-are c all))

pub given-valid : (o : ObjectLists) (c : ContentValue) (number : ℕ) (kind : Kind) (value : Option ℕ) → IsContent o c → is_value_made o kind value ≡ true
    → IsContent o (with_overlays c (given c.overlays number kind value))
given-valid o c number kind value v numbered =
    let all = given c.overlays number kind value in
    overlays-valid o c all v (given-within (seen c) all c.settings number kind value v.within refl)
    (made-giving (seen c) (seen (with_overlays c all)) o v.names v.names.settings number kind value (value-made o kind value numbered) (overlays-are c all))

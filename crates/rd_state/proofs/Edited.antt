-- What the ops on a buffer's text and properties leave is what their edits say.
use Rattle.std.proofs.Common.{◌≡◌, ℕ, ◌+◌, ◌≤◌, ◌==◌, Bool, true, not, nat_lt, Option, Ok, List, length, map, ap, refl, ◌∙◌, arith}
use Rattle.std.proofs.lemmas.Bool.{cond-true}
use Rattle.std.proofs.lemmas.Bool.Decides.{nat_tests}
use Rattle.rd_base.specs.declared.limits.TheConstants.{TEXT_CHARACTERS}
use Rattle.rd_text.specs.Texts.{TextValue, IsText, IsAccessible, inserted, deleted}
use Rattle.rd_text.specs.Answers.{IsAccessibleRange}
use Rattle.rd_objects.specs.Things.{ObjectLists}
use Rattle.rd_overlays.specs.declared.overlay.Kind.{Kind}
use Rattle.rd_overlays.specs.Overlays.{slot_grown, slot_shrunk}
use Rattle.rd_margins.specs.Marks.{MarkValues}
use Rattle.rd_props.specs.Buffers as props
use Rattle.rd_props.specs.Edits.{opened, closed, put_on}
use Rattle.rd_props.specs.declared.state.BufferState.{BufferState}
use Rattle.rd_state.specs.Held.{content_of}
use Rattle.rd_state.specs.Valid.{IsWithin}
use Rattle.rd_state.specs.Edits.{is_accessible, is_accessible_range, is_value_made, has_room, marked_modified, insertion, deletion, property_putting}
use Rattle.rd_script.specs.Forms.{is_text_kind}
use Rattle.rd_state.proofs.Contents.{put_on-within}
use Rattle.rd_state.proofs.Tests.{is_accessible_range-means}
use Rattle.rd_state.proofs.Within.{same-within}
use Rattle.rd_state.proofs.Tables.{AreAlike, changed-content}

accessible : (t : TextValue) (pos : ℕ) → IsAccessible t pos → is_accessible t pos ≡ true
accessible t pos at = let a = at.0 in let b = at.1 in grind (arith, nat_tests)

accessible-range : (t : TextValue) (from to : ℕ) → IsAccessibleRange t from to → is_accessible_range t from to ≡ true
accessible-range t from to at = let a = at.first in let b = at.ordered in let d = at.last in grind (arith, nat_tests)

roomy : (t : TextValue) (new : List ℕ) → length t.text + length new ≤ TEXT_CHARACTERS → has_room t new ≡ true
roomy t new h = grind (arith, nat_tests)

pub some-characters : (n : ℕ) (t : Bool) → t ≡ (n == 0) → not t ≡ nat_lt 0 n
some-characters n t e = grind (arith, nat_tests)

pub insertion-is : (b c : BufferState) (pos : ℕ) (new : List ℕ) → IsWithin (props.meaning b) → IsAccessible b.text pos → length b.text.text + length new ≤ TEXT_CHARACTERS
    → c.text ≡ inserted b.text pos new → AreAlike (props.values_of c.spans) (opened (props.values_of b.spans) pos (length new))
    → c.overlays ≡ map (slot_grown pos (length new)) b.overlays → c.settings ≡ marked_modified (nat_lt 0 (length new)) b.settings
    → (m : MarkValues) → insertion pos new (content_of b m) ≡ Ok (content_of c m)
insertion-is b c pos new within at room same values overlays settings m =
    cond-true (is_accessible b.text pos) _ _ (accessible b.text pos at)
    ∙ (cond-true (has_room b.text new) _ _ (roomy b.text new room)
    ∙ ap Ok (changed-content b c m (inserted b.text pos new) (λ f. opened f pos (length new)) _ _ within same values overlays settings))

pub deletion-is : (b c : BufferState) (from to : ℕ) → IsWithin (props.meaning b) → IsAccessibleRange b.text from to
    → c.text ≡ deleted b.text from to → AreAlike (props.values_of c.spans) (closed (props.values_of b.spans) from to)
    → c.overlays ≡ map (slot_shrunk from to) b.overlays → c.settings ≡ marked_modified (nat_lt from to) b.settings
    → (m : MarkValues) → deletion from to (content_of b m) ≡ Ok (content_of c m)
deletion-is b c from to within at same values overlays settings m =
    cond-true (is_accessible_range b.text from to) _ _ (accessible-range b.text from to at)
    ∙ ap Ok (changed-content b c m (deleted b.text from to) (λ f. closed f from to) _ _ within same values overlays settings)

pub putting-is : (o : ObjectLists) (b : BufferState) (spans : List (List (Option ℕ))) (m : MarkValues) (kind : Kind) (from to : ℕ) (value : Option ℕ) → IsWithin (props.meaning b)
    → is_accessible_range b.text from to ≡ true → is_value_made o kind value ≡ true
    → AreAlike (props.values_of spans) (put_on (props.values_of b.spans) kind from to value)
    → property_putting o from to kind value (content_of b m) ≡ Ok (content_of (record b { spans = spans }) m)
putting-is o b spans m kind from to value within range made values =
    cond-true (is_accessible_range b.text from to) _ _ range
    ∙ (cond-true (is_value_made o kind value) _ _ made
    ∙ ap Ok (changed-content b (record b { spans = spans }) m b.text (λ f. put_on f kind from to value) b.overlays b.settings within refl values refl refl))

pub putting-within : (b : BufferState) (spans : List (List (Option ℕ))) (kind : Kind) (from to : ℕ) (value : Option ℕ) → IsText b.text → IsWithin (props.meaning b) → is_text_kind kind ≡ true
    → is_accessible_range b.text from to ≡ true → AreAlike (props.values_of spans) (put_on (props.values_of b.spans) kind from to value) → IsWithin (props.meaning (record b { spans = spans }))
putting-within b spans kind from to value text within is range values =
    let put : props.BufferValue = record (props.meaning b) { properties = put_on (props.values_of b.spans) kind from to value } in
    same-within put (props.meaning (record b { spans = spans }))
    (put_on-within (props.meaning b) from to kind value text within is (is_accessible_range-means b.text from to range)) refl values refl

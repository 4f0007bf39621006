-- Edits name no object that was not made.
use Rattle.std.proofs.Common.{◌≡◌, inl, inr, ℕ, zero, suc, ◌<◌, Bool, true, false, ◌&&◌, if◌then◌else◌, List, [], ◌∷◌, ◌++◌, length, set, Option, None, Some, refl, sym, ap, subst, ◌∙◌, arith}
use Rattle.std.specs.Prelude.{nat_lt, nat_le, ◌==◌, slice_get}
use Rattle.std.specs.Option.{option_map}
use Rattle.std.proofs.lemmas.Bool.Decides.{nat_tests}
use Rattle.std.proofs.lemmas.Option.{IfSome_then, unwrap_or-slice_get, get_or_from_slice_get}
use Rattle.rd_base.proofs.Choices.{read-some}
use Rattle.rd_base.proofs.Lists.{get-set}
use Rattle.rd_spans.proofs.Beside.{opened-from, closed-from}
use Rattle.rd_overlays.specs.declared.overlay.Overlay.{Overlay}
use Rattle.rd_overlays.specs.declared.overlay.Kind.{Kind}
use Rattle.rd_overlays.specs.declared.overlay.Kind.TheVariants.{Face, Display, Invisible, LinePrefix, WrapPrefix, Before, After}
use Rattle.rd_overlays.proofs.Slots.{slot-each, changed-each, after-set, after-end}
use Rattle.rd_overlays.specs.Overlays.{overlay_at, place_of, grown, shrunk, moved, dropped, given}
use Rattle.rd_objects.specs.Things.{ObjectLists}
use Rattle.rd_objects.proofs.Soundness.{goes_longer}
use Rattle.rd_objects.specs.Sound.{GoesOn, Extends}
use Rattle.rd_props.specs.Buffers.{BufferValue, property}
use Rattle.rd_props.specs.Values.{value_of}
use Rattle.rd_props.specs.Edits.{IsInsertion, IsDeletion, IsPut, HasOverlays}
use Rattle.rd_props.specs.Made.{IsMade, SettingsMade, AreMade}

-- ---- values of properties

-- the kind of a place
kind_at : ℕ → Kind
kind_at zero = Face
kind_at (suc zero) = Display
kind_at (suc (suc zero)) = Invisible
kind_at (suc (suc (suc zero))) = LinePrefix
kind_at (suc (suc (suc (suc zero)))) = WrapPrefix
kind_at (suc (suc (suc (suc (suc zero))))) = Before
kind_at (suc (suc (suc (suc (suc (suc n)))))) = After

at-place : (kind : Kind) → kind_at (place_of kind) ≡ kind
unfolding kind_at
at-place Face = refl
at-place Display = refl
at-place Invisible = refl
at-place LinePrefix = refl
at-place WrapPrefix = refl
at-place Before = refl
at-place After = refl

same-kind : (k l : Kind) → place_of k ≡ place_of l → k ≡ l
same-kind k l e = sym (at-place k) ∙ (ap kind_at e ∙ at-place l)

put-by : (objects : ObjectLists) (k chosen : Kind) (t u : Bool) (value other : Option ℕ) (v : ℕ) → (place_of k == place_of chosen) ≡ t
    → ((w : ℕ) → value ≡ Some w → IsMade objects chosen w) → (other ≡ Some v → IsMade objects k v) → (if t then (if u then value else other) else other) ≡ Some v → IsMade objects k v
put-by objects k chosen true true value other v same given old h =
    let place : place_of k ≡ place_of chosen = grind (arith, nat_tests) in
    let P : Kind → Type 0 = λ l. IsMade objects l v in
    subst P (sym (same-kind k chosen place)) (given v h)
put-by objects k chosen true false value other v same given old h = old h
put-by objects k chosen false u value other v same given old h = old h

-- ---- values of overlays

-- a value of an overlay names an object that was made
abbrev NamesMade : ObjectLists → Kind → ℕ → Overlay → Type 0
NamesMade objects kind value overlay = value_of kind (Some overlay) ≡ Some value → IsMade objects kind value

abbrev AreOverlaysMade : ObjectLists → List (Option Overlay) → Type 0
AreOverlaysMade objects slots =
    (number value : ℕ) (kind : Kind) (overlay : Overlay) → overlay_at slots number ≡ Some overlay → NamesMade objects kind value overlay

set-made : (objects : ObjectLists) (slots : List (Option Overlay)) (i : ℕ) (slot : Option Overlay) → AreOverlaysMade objects slots
    → ((p : Overlay) (kind : Kind) (v : ℕ) → slot ≡ Some p → NamesMade objects kind v p) → AreOverlaysMade objects (set slots i slot)
set-made objects slots i slot made new number v kind p is h =
    elim (after-set slots i slot number p is) [ inl old ↦ made number v kind p old h | inr here ↦ new p kind v here h ]

end-made : (objects : ObjectLists) (slots : List (Option Overlay)) (o : Overlay) → AreOverlaysMade objects slots
    → ((kind : Kind) (v : ℕ) → value_of kind (Some o) ≡ Some v → IsMade objects kind v) → AreOverlaysMade objects (slots ++ Some o ∷ [])
end-made objects slots o made new number v kind p is h =
    elim (after-end slots o number p is) [
      | inl old ↦ made number v kind p old h
      | inr same ↦ let Q : Overlay → Type 0 = λ q. value_of kind (Some q) ≡ Some v in new kind v (subst Q (sym same) h)
    ]

given-made : (objects : ObjectLists) (slots : List (Option Overlay)) (number : ℕ) (chosen : Kind) (value : Option ℕ) → AreOverlaysMade objects slots
    → ((w : ℕ) → value ≡ Some w → IsMade objects chosen w) → AreOverlaysMade objects (given slots number chosen value)
given-made objects slots number chosen value made new =
    set-made objects slots number (option_map change (overlay_at slots number)) made (λ p kind v. slot-each (NamesMade objects kind v) change (overlay_at slots number) (by kind v) p)
  where
    change : Overlay → Overlay
    change overlay = record overlay { values = set overlay.values (place_of chosen) value }

    by : (kind : Kind) (v : ℕ) (o : Overlay) → overlay_at slots number ≡ Some o → NamesMade objects kind v (record o { values = set o.values (place_of chosen) value })
    by kind v o lives h =
        let changed = set o.values (place_of chosen) value in
        elim (get-set o.values (place_of chosen) (place_of kind) value (Some v) (read-some (slice_get changed (place_of kind)) v (unwrap_or-slice_get changed (place_of kind) None ∙ h))) [
          | inl both ↦ let P : Kind → Type 0 = λ l. IsMade objects l v in subst P (sym (same-kind kind chosen both.0)) (new v (sym both.1))
          | inr old ↦ made number v kind o lives (get_or_from_slice_get o.values (place_of kind) (Some v) None old.1)
        ]

moved-made : (objects : ObjectLists) (slots : List (Option Overlay)) (number from to : ℕ) → AreOverlaysMade objects slots → AreOverlaysMade objects (moved slots number from to)
moved-made objects slots number from to made =
    let change : Overlay → Overlay = λ overlay. record overlay { from = from; to = to } in
    set-made objects slots number (option_map change (overlay_at slots number)) made
    (λ p kind v. slot-each (NamesMade objects kind v) change (overlay_at slots number) (made number v kind) p)

-- ---- buffers

module _ (old new : BufferValue) (objects : ObjectLists) (made : AreMade old objects) (settings : SettingsMade objects new.settings) where
  -- values that were made, and overlays whose values were
  becomes-made : (slots : List (Option Overlay)) → ((kind : Kind) (p v : ℕ) → property new kind p ≡ Some v → IsMade objects kind v)
      → new.overlays ≡ slots → AreOverlaysMade objects slots → AreMade new objects
  becomes-made slots properties is all = record { properties = properties; overlays = subst (AreOverlaysMade objects) (sym is) all; settings = settings }

  pub made-inserted : (place : ℕ) (chars : List ℕ) → IsInsertion old new place chars → AreMade new objects
  made-inserted place chars edit =
      becomes-made _ (λ kind p v h.
      let found = opened-from (old.properties (place_of kind)) place (length chars) p v (sym (edit.properties (place_of kind) p) ∙ h) in
      made.properties kind found.0 v found.1) edit.overlays
      (λ m v kind. changed-each (NamesMade objects kind v) (grown place (length chars)) old.overlays (λ n. made.overlays n v kind) m)

  pub made-deleted : (from to : ℕ) → IsDeletion old new from to → AreMade new objects
  made-deleted from to edit =
      becomes-made _ (λ kind p v h.
      let found = closed-from (old.properties (place_of kind)) from to p v (sym (edit.properties (place_of kind) p) ∙ h) in
      made.properties kind found.0 v found.1) edit.overlays
      (λ m v kind. changed-each (NamesMade objects kind v) (shrunk from to) old.overlays (λ n. made.overlays n v kind) m)

  pub made-put : (kind : Kind) (from to : ℕ) (value : Option ℕ) → ((v : ℕ) → value ≡ Some v → IsMade objects kind v) → IsPut old new kind from to value → AreMade new objects
  made-put kind from to value new_made edit =
      becomes-made old.overlays (λ k p v h.
      put-by objects k kind (place_of k == place_of kind) (nat_le from p && nat_lt p to) value (old.properties (place_of k) p) v refl new_made (made.properties k p v)
      (sym (edit.properties (place_of k) p) ∙ h)) edit.overlays made.overlays

  made-overlays : (slots : List (Option Overlay)) → AreOverlaysMade objects slots → HasOverlays old new slots → AreMade new objects
  made-overlays slots all edit = becomes-made slots (λ kind p v h. made.properties kind p v (sym (edit.properties (place_of kind) p) ∙ h)) edit.overlays all

  pub made-making : (o : Overlay) → ((kind : Kind) (v : ℕ) → value_of kind (Some o) ≡ Some v → IsMade objects kind v) → HasOverlays old new (old.overlays ++ Some o ∷ []) → AreMade new objects
  made-making o all edit = made-overlays (old.overlays ++ Some o ∷ []) (end-made objects old.overlays o made.overlays all) edit

  pub made-dropping : (number : ℕ) → HasOverlays old new (dropped old.overlays number) → AreMade new objects
  made-dropping number edit = made-overlays (dropped old.overlays number) (set-made objects old.overlays number None made.overlays (λ p kind v is h. absurd (cc))) edit

  pub made-giving : (number : ℕ) (kind : Kind) (value : Option ℕ) → ((v : ℕ) → value ≡ Some v → IsMade objects kind v) → HasOverlays old new (given old.overlays number kind value) → AreMade new objects
  made-giving number kind value all edit = made-overlays (given old.overlays number kind value) (given-made objects old.overlays number kind value made.overlays all) edit

  pub made-moving : (number from to : ℕ) → HasOverlays old new (moved old.overlays number from to) → AreMade new objects
  made-moving number from to edit = made-overlays (moved old.overlays number from to) (moved-made objects old.overlays number from to made.overlays) edit

-- ---- objects

longer : {X : Type 0} (old new : List X) (n : ℕ) → GoesOn old new → n < length old → n < length new
longer old new n more less = omega (arith, less, goes_longer old new more)

made-longer : (old new : ObjectLists) → Extends old new → (kind : Kind) (v : ℕ) → IsMade old kind v → IsMade new kind v
made-longer old new extends Face v h = longer old.faces new.faces v extends.faces h
made-longer old new extends Display v h = longer old.specs new.specs v extends.specs h
made-longer old new extends Invisible v h = tt
made-longer old new extends LinePrefix v h = longer old.strings new.strings v extends.strings h
made-longer old new extends WrapPrefix v h = longer old.strings new.strings v extends.strings h
made-longer old new extends Before v h = longer old.strings new.strings v extends.strings h
made-longer old new extends After v h = longer old.strings new.strings v extends.strings h

pub made-extended : (s : BufferValue) (old new : ObjectLists) → AreMade s old → Extends old new → AreMade s new
made-extended s old new made extends = record {
  properties = λ kind p v h. made-longer old new extends kind v (made.properties kind p v h);
  overlays = λ number v kind o is h. made-longer old new extends kind v (made.overlays number v kind o is h);
  settings = record {
    table = IfSome_then s.settings.table made.settings.table (λ n. longer old.tables new.tables n extends.tables);
    line_prefix = IfSome_then s.settings.line_prefix made.settings.line_prefix (λ n. longer old.strings new.strings n extends.strings);
    wrap_prefix = IfSome_then s.settings.wrap_prefix made.settings.wrap_prefix (λ n. longer old.strings new.strings n extends.strings);
  };
}

-- What ops leave of what is seen.
use Rattle.std.proofs.Common.{◌≡◌, ◌≢◌, ℕ, ◌+◌, ◌-◌, ◌≤◌, inl, inr, Bool, true, is_some, min, max, ℤ, pos, Option, Some, Result, Ok, List, [], ◌∷◌, ◌++◌, length, subst, sym, ap, refl, ◌∙◌}
use Rattle.std.specs.Prelude.{slice_get, slice_set, ◌-ℤ◌}
use Rattle.rd_base.proofs.Lists.{get-set}
use Rattle.rd_overlays.specs.declared.overlay.Overlay.{Overlay}
use Rattle.rd_overlays.specs.declared.overlay.Kind.{Kind}
use Rattle.rd_overlays.specs.Overlays as overlays
use Rattle.rd_overlays.specs.Overlays.{overlay_at, new_overlay}
use Rattle.rd_objects.specs.Sound.{Extends}
use Rattle.rd_objects.specs.Things.{ObjectLists}
use Rattle.rd_props.proofs.Editing.{insertion-edits, deletion-edits}
use Rattle.rd_props.proofs.Replacing.{settings-edit, put-edits, making-edits, dropping-edits, giving-edits, moving-edits, objects-edit}
use Rattle.rd_props.specs.Edits.{AreOrdered}
use Rattle.rd_script.specs.Forms.{is_text_kind}
use Rattle.rd_margins.specs.Marks as marks
use Rattle.rd_state.specs.declared.refused.Refused.{Refused}
use Rattle.rd_state.specs.declared.refused.Refused.TheVariants.{NoObject, NoOverlay}
use Rattle.rd_state.specs.States.{BufferValue, ContentValue, StateValue, seen}
use Rattle.rd_state.specs.Valid.{IsContent}
use Rattle.rd_state.specs.Changes.{Stays, StaysWhole}
use Rattle.rd_state.specs.Edits.{is_number_made, content_grown, content_shrunk, insertion, deletion, property_putting, overlay_making, overlay_moving, overlay_dropping, overlay_putting, margin_putting}
use Rattle.rd_state.proofs.Contents.{grown-is, shrunk-is, put-is, overlays-are, with_property, with_overlays}
use Rattle.rd_state.proofs.Keeping.{holding}
use Rattle.rd_state.proofs.Stepping.{IsEditOf, insertion-means, deletion-means, putting-means, making-means, dropping-means, giving-means, moving-means}
use Rattle.rd_base.proofs.Choices.{both-ok}
use Rattle.rd_state.proofs.Tests.{is_range_of_all-means}
use Rattle.rd_state.proofs.Options.{one-value}

-- ---- the same buffer

pub whole : (o : ObjectLists) (c : ContentValue) → StaysWhole c o c o
whole o c head tail = record {
  seen = settings-edit (seen c) (seen c) o head tail (record { text = refl; properties = λ kind p. refl; overlays = refl });
  settings = refl;
}

pub whole-objects : (o p : ObjectLists) (c : ContentValue) → IsContent o c → Extends o p → StaysWhole c o c p
whole-objects o p c v more head tail = record { seen = objects-edit (seen c) o p more v.names head tail; settings = refl }

-- ---- edits

ordered : (o : ObjectLists) (c : ContentValue) → IsContent o c → AreOrdered c.overlays
ordered o c v number overlay h = (v.within.overlays number overlay h).ordered

pub stays-inserted : (o : ObjectLists) (place : ℕ) (new : List ℕ) (c d : ContentValue) → IsContent o c → insertion place new c ≡ Ok d
    → Stays c o d o place (place + length new + 1) (pos (length new) -ℤ pos 0)
stays-inserted o place new c d v h =
    let m = insertion-means place new c d h in
    let n = length new in
    subst (λ (x : ContentValue). Stays c o x o place (place + n + 1) (pos n -ℤ pos 0)) m.2 (record {
      seen = insertion-edits (seen c) (seen (content_grown c place new)) o v.text (ordered o c v) place new m.0 (grown-is c place new v.text v.within m.0);
      settings = refl;
    })

pub stays-deleted : (o : ObjectLists) (from to : ℕ) (c d : ContentValue) → IsContent o c → deletion from to c ≡ Ok d
    → Stays c o d o from (from + 0 + 1) (pos 0 -ℤ pos (to - from))
stays-deleted o from to c d v h =
    let m = deletion-means from to c d h in
    let n = to - from in
    subst (λ (x : ContentValue). Stays c o x o from (from + 0 + 1) (pos 0 -ℤ pos n)) m.1 (record {
      seen = deletion-edits (seen c) (seen (content_shrunk c from to)) o v.text (ordered o c v) from to m.0 (shrunk-is c from to v.text v.within m.0);
      settings = refl;
    })

-- a range that looks otherwise
abbrev pub StaysAround : ObjectLists → ℕ → ℕ → ContentValue → ContentValue → Type 0
StaysAround o from to c d = Stays c o d o from (from + (to - from) + 1) (pos (to - from) -ℤ pos (to - from))

pub stays-put : (o : ObjectLists) (from to : ℕ) (kind : Kind) (value : Option ℕ) (c d : ContentValue) → is_text_kind kind ≡ true → IsContent o c
    → property_putting o from to kind value c ≡ Ok d → StaysAround o from to c d
stays-put o from to kind value c d is v h =
    let new = with_property c from to kind value in
    let m = putting-means o from to kind value c d h in
    subst (StaysAround o from to c) m.2 (record { seen = put-edits (seen c) (seen new) o kind from to value (put-is c from to kind value v.text v.within is m.0); settings = refl })

pub stays-made : (o : ObjectLists) (from to : ℕ) (priority : ℤ) (front rear : Bool) (c d : ContentValue) → IsContent o c
    → overlay_making from to priority front rear c ≡ Ok d → StaysAround o from to c d
stays-made o from to priority front rear c d v h =
    let overlay = new_overlay from to priority front rear in
    let all = c.overlays ++ Some overlay ∷ [] in
    let m = making-means from to priority front rear c d h in
    let range = is_range_of_all-means c.text from to m.0 in
    subst (StaysAround o from to c) m.2 (record { seen = making-edits (seen c) (seen (with_overlays c all)) o overlay range.ordered (overlays-are c all); settings = refl })

-- where overlays become others, what stays around one that lives
around-one : (o : ObjectLists) (number : ℕ) (slots : List (Option Overlay)) (c d : ContentValue) (P : Overlay → ContentValue → Type 0) → IsContent o c
    → (overlay : Overlay) × (overlay_at c.overlays number ≡ Some overlay) → with_overlays c slots ≡ d
    → ((overlay : Overlay) → overlay_at c.overlays number ≡ Some overlay → overlay.from ≤ overlay.to → P overlay (with_overlays c slots))
    → (overlay : Overlay) × (overlay_at c.overlays number ≡ Some overlay) × P overlay d
around-one o number slots c d P v there is stays = (there.0, there.1, subst (P there.0) is (stays there.0 there.1 (ordered o c v number there.0 there.1)))

-- what happens around an overlay that lives
abbrev pub AroundOverlay : ObjectLists → ℕ → ContentValue → ContentValue → Type 0
AroundOverlay o number c d = (overlay : Overlay) × (overlay_at c.overlays number ≡ Some overlay) × StaysAround o overlay.from overlay.to c d

pub stays-dropped : (o : ObjectLists) (number : ℕ) (c d : ContentValue) → IsContent o c → overlay_dropping number c ≡ Ok d → AroundOverlay o number c d
stays-dropped o number c d v h =
    let all = overlays.dropped c.overlays number in
    let m = dropping-means number c d h in
    around-one o number all c d (λ x. StaysAround o x.from x.to c) v m.0 m.2
    (λ x at before. record { seen = dropping-edits (seen c) (seen (with_overlays c all)) o number x at before (overlays-are c all); settings = refl })

pub stays-given : (o : ObjectLists) (number : ℕ) (kind : Kind) (value : Option ℕ) (c d : ContentValue) → IsContent o c → overlay_putting o number kind value c ≡ Ok d
    → AroundOverlay o number c d
stays-given o number kind value c d v h =
    let all = overlays.given c.overlays number kind value in
    let m = giving-means o number kind value c d h in
    around-one o number all c d (λ x. StaysAround o x.from x.to c) v m.0 m.2
    (λ x at before. record { seen = giving-edits (seen c) (seen (with_overlays c all)) o number x at before kind value (overlays-are c all); settings = refl })

-- what happens around both ranges of an overlay
abbrev pub AroundBoth : ObjectLists → ℕ → ℕ → ℕ → ContentValue → ContentValue → Type 0
AroundBoth o number from to c d = (overlay : Overlay) × (overlay_at c.overlays number ≡ Some overlay) × Stays c o d o (min overlay.from from) (max overlay.to to + 1) (pos 0)

pub stays-moved : (o : ObjectLists) (number from to : ℕ) (c d : ContentValue) → IsContent o c → overlay_moving number from to c ≡ Ok d → AroundBoth o number from to c d
stays-moved o number from to c d v h =
    let all = overlays.moved c.overlays number from to in
    let m = moving-means number from to c d h in
    let range = is_range_of_all-means c.text from to m.1 in
    around-one o number all c d (λ x y. Stays c o y o (min x.from from) (max x.to to + 1) (pos 0)) v m.0 m.2
    (λ x at before. record { seen = moving-edits (seen c) (seen (with_overlays c all)) o number x at before from to range.ordered (overlays-are c all); settings = refl })

pub stays-margin : (o : ObjectLists) (number : ℕ) (string : Option ℕ) (c d : ContentValue) → margin_putting o number string c ≡ Ok d → StaysWhole c o d o
stays-margin o number string c d h =
    let new : ContentValue = record c { marks = marks.marked c.marks number string } in
    let m = both-ok (is_some (overlay_at c.overlays number)) (is_number_made (length o.strings) string) new NoObject NoOverlay d h in
    subst (λ (x : ContentValue). StaysWhole c o x o) m.2 (λ head tail. record { seen = (whole o c head tail).seen; settings = refl })

-- ---- one buffer of a state

pub same-at : (s t : StateValue) (i k : ℕ) (edit : ContentValue → Result ContentValue Refused) (b c : BufferValue) → IsEditOf s t i edit → slice_get s.buffers k ≡ Some b → slice_get t.buffers k ≡ Some c
    → k ≡ i → (edit b.content ≡ Ok c.content) × (slice_get s.buffers i ≡ Some b)
same-at s t i k edit b c e hb hc is =
    let here : slice_get s.buffers i ≡ Some b = ap (slice_get s.buffers) (sym is) ∙ hb in
    let was : e.buffer ≡ b = one-value (slice_get s.buffers i) e.buffer b e.at here in
    let after : slice_get (slice_set s.buffers i (holding e.buffer e.content)) k ≡ Some c = ap (λ (x : StateValue). slice_get x.buffers k) e.is ∙ hc in
    elim (get-set s.buffers i k (holding e.buffer e.content) c after) [
      | inl p ↦ (ap (λ (x : BufferValue). edit x.content) (sym was) ∙ (e.gives ∙ ap (λ (x : BufferValue). Ok x.content) (sym p.1)), here)
      | inr p ↦ absurd (p.0 is)
    ]

-- what an edit leaves of the other buffers
pub others-whole : (s t : StateValue) (i k : ℕ) (edit : ContentValue → Result ContentValue Refused) (b c : BufferValue) → IsEditOf s t i edit → slice_get s.buffers k ≡ Some b
    → slice_get t.buffers k ≡ Some c → k ≢ i → StaysWhole b.content s.objects c.content t.objects
others-whole s t i k edit b c e hb hc ne =
    let after : slice_get (slice_set s.buffers i (holding e.buffer e.content)) k ≡ Some c = ap (λ (x : StateValue). slice_get x.buffers k) e.is ∙ hc in
    let same : b ≡ c = elim (get-set s.buffers i k (holding e.buffer e.content) c after) [
      | inl p ↦ absurd (ne p.0)
      | inr p ↦ one-value (slice_get s.buffers k) b c hb p.1
    ] in
    subst (λ (o : ObjectLists). StaysWhole b.content s.objects c.content o) (ap (λ (x : StateValue). x.objects) e.is)
    (subst (λ (x : BufferValue). StaysWhole b.content s.objects x.content s.objects) same (whole s.objects b.content))

-- what an edit of a part leaves of its own buffer, and of the others
pub part-stays : (s t : StateValue) (i head tail : ℕ) (added : ℤ) (edit : ContentValue → Result ContentValue Refused) → IsEditOf s t i edit
    → ((b : BufferValue) (d : ContentValue) → slice_get s.buffers i ≡ Some b → edit b.content ≡ Ok d → Stays b.content s.objects d s.objects head tail added)
    → (k : ℕ) (b c : BufferValue) → slice_get s.buffers k ≡ Some b → slice_get t.buffers k ≡ Some c
    → (k ≡ i → Stays b.content s.objects c.content t.objects head tail added) × (k ≢ i → StaysWhole b.content s.objects c.content t.objects)
part-stays s t i head tail added edit e stays k b c hb hc = (
  λ is.
      let own = same-at s t i k edit b c e hb hc is in
      subst (λ (o : ObjectLists). Stays b.content s.objects c.content o head tail added) (ap (λ (x : StateValue). x.objects) e.is) (stays b c.content own.1 own.0),
  λ ne. others-whole s t i k edit b c e hb hc ne,
)

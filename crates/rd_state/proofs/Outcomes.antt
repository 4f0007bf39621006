-- What each op leaves: of buffers what its effect tells, objects that go on, and windows that show what they showed.
use Rattle.std.proofs.Common.{◌≡◌, ℕ, ◌+◌, ◌-◌, inl, inr, false, is_some, min, max, pos, Option, None, Some, Result, Ok, List, [], ◌∷◌, length, map, subst, sym, ap, refl, ◌∙◌, arith, length-append, unwrap_or}
use Rattle.std.proofs.lemmas.Bool.{cases_eq}
use Rattle.std.proofs.lemmas.List.{length-set}
use Rattle.std.proofs.lemmas.Option.{slice_get_within}
use Rattle.std.proofs.lemmas.Result.{IfOk-weaker}
use Rattle.std.specs.Option.{option_and_then}
use Rattle.std.specs.Prelude.{slice_get, IfOk, option_map, ◌-ℤ◌}
use Rattle.rd_base.proofs.Lists.{get-end}
use Rattle.rd_overlays.specs.declared.overlay.Overlay.{Overlay}
use Rattle.rd_overlays.specs.Overlays.{overlay_at}
use Rattle.rd_objects.proofs.Soundness.{extends_itself, string_extends, spec_extends, face_extends, table_extends}
use Rattle.rd_objects.specs.Sound.{Extends}
use Rattle.rd_objects.specs.Things.{ObjectLists}
use Rattle.rd_objects.specs.declared.fault.ObjectFault.{ObjectFault}
use Rattle.rd_script.specs.Forms.{IsInForm}
use Rattle.rd_script.specs.declared.op.Op.{Op}
use Rattle.rd_script.specs.declared.op.Op.TheVariants as ops
use Rattle.rd_tree.specs.declared.fault.TreeFault.{TreeFault}
use Rattle.rd_tree.specs.Calls.{Configuration, split_tree, remove_tree, resize_tree, mode_tree, margins_tree}
use Rattle.rd_state.specs.declared.effect.Effect.{Effect}
use Rattle.rd_state.specs.declared.effect.Effect.TheVariants.{Nothing, Edit, Moved, All, Window}
use Rattle.rd_state.specs.declared.moves.Move.{Move}
use Rattle.rd_state.specs.declared.moves.Move.TheVariants.{Inserted, Deleted, Narrowed}
use Rattle.rd_state.specs.declared.refused.Refused.{Refused}
use Rattle.rd_state.specs.declared.window.WindowState.{WindowState}
use Rattle.rd_state.specs.States.{BufferValue, ContentValue, StateValue, opening_window, new_buffer, number_of}
use Rattle.rd_state.specs.Valid.{IsContent, IsValid}
use Rattle.rd_state.specs.Windows.{window_of, changed_under, selected_window, NumberedWindow}
use Rattle.rd_state.specs.Changes.{Stays, StaysWhole, Leaves, LeavesTheRest}
use Rattle.rd_state.specs.Edits.{insertion, deletion, narrowing, widening, property_putting, overlay_making, overlay_moving, overlay_dropping, overlay_putting, margin_putting, setting_putting}
use Rattle.rd_state.specs.Effects.{overlay_in, inserted_effect, covered_effect, moved_effect, effect_of}
use Rattle.rd_state.specs.Making.{unless_fault, object_run, spec_of, table_of}
use Rattle.rd_state.specs.Moves.{moved_by, moved_in}
use Rattle.rd_state.specs.Steps.{with_objects, changing, inserting, typing, on_tree, edited, edited_moving, format_fault, making, raw_text, step}
use Rattle.rd_state.proofs.AllSteps.{moved-buffer}
use Rattle.rd_state.proofs.ByNumber.{Each, window-each, each-same, each-with, each-moved, each-end, each-without}
use Rattle.rd_state.proofs.Leaving.{whole, whole-objects, stays-inserted, stays-deleted, StaysAround, stays-put, stays-made, AroundOverlay, stays-dropped, stays-given, stays-moved, stays-margin, others-whole, part-stays}
use Rattle.rd_state.proofs.StepParts.{with_content, found, unless, tree-if, treed-if, making-if, edited-if, edited_moving-if, typing-if, setting-if, placing-if}
use Rattle.rd_state.proofs.Stepping.{IsEditOf}
use Rattle.rd_state.proofs.Options.{one-value}

-- windows show the buffers that they showed, but for those that an effect tells
abbrev pub Shows : Effect → ℕ → WindowState → WindowState → Type 0
Shows effect number w v = (effect ≡ Window number → ⊥) → v.buffer ≡ w.buffer

abbrev pub Show : StateValue → StateValue → Effect → Type 0
Show s t effect = Each (Shows effect) s.windows t.windows

-- ---- windows

show-by : (s t : StateValue) (effect : Effect) (ws : List NumberedWindow) → t.windows ≡ ws → Each (Shows effect) s.windows ws → Show s t effect
show-by s t effect ws is show = subst (Each (Shows effect) s.windows) (sym is) show

show-same : (s t : StateValue) (effect : Effect) → t.windows ≡ s.windows → Show s t effect
show-same s t effect is = show-by s t effect s.windows is (each-same (Shows effect) (λ number w ne. refl) s.windows)

show-each : (s t : StateValue) (effect : Effect) (i : ℕ) (how : Move) → t.windows ≡ map (moved_in i how) s.windows → Show s t effect
show-each s t effect i how is =
    show-by s t effect (map (moved_in i how) s.windows) is
    (each-moved (Shows effect) (moved_by i how) s.windows (λ number w ne. moved-buffer i how w))

show-with : (effect : Effect) (n : ℕ) (f : WindowState → WindowState) (ws : List NumberedWindow) → ((w : WindowState) → (f w).buffer ≡ w.buffer) → Each (Shows effect) ws (changed_under n f ws)
show-with effect n f ws keep = each-with (Shows effect) (λ number w ne. refl) n f ws (λ w ne. keep w)

-- the windows of a buffer, and one of all once more
show-typed : (effect : Effect) (i : ℕ) (how : Move) (n : ℕ) (f : WindowState → WindowState) (ws : List NumberedWindow) → ((w : WindowState) → (f w).buffer ≡ w.buffer)
    → Each (Shows effect) ws (changed_under n f (map (moved_in i how) ws))
show-typed effect i how n f ws keep number w v hw hv ne =
    show-with effect n f (map (moved_in i how) ws) keep number (moved_by i how w) v (window-each number (moved_by i how) ws ∙ ap (option_map (moved_by i how)) hw) hv ne
    ∙ moved-buffer i how w

-- ---- ops that leave buffers and objects

same-whole : (s : StateValue) (k : ℕ) (b c : BufferValue) → slice_get s.buffers k ≡ Some b → slice_get s.buffers k ≡ Some c → StaysWhole b.content s.objects c.content s.objects
same-whole s k b c hb hc = subst (λ (x : BufferValue). StaysWhole b.content s.objects x.content s.objects) (one-value (slice_get s.buffers k) b c hb hc) (whole s.objects b.content)

extends-kept : (s t : StateValue) → t.objects ≡ s.objects → Extends s.objects t.objects
extends-kept s t is = subst (Extends s.objects) (sym is) (extends_itself s.objects)

-- an op that keeps buffers and objects leaves the rest, by an effect that leaves all that is seen
kept : (s t : StateValue) (effect : Effect)
    → ((k : ℕ) (b c : BufferValue) → StaysWhole b.content s.objects c.content t.objects → Leaves effect k b.content s.objects c.content t.objects)
    → t.buffers ≡ s.buffers → t.objects ≡ s.objects → Show s t effect → LeavesTheRest s t effect
kept s t effect leaves buffers objects show = record {
  contents = λ k b c hb hc. leaves k b c
      (subst (StaysWhole b.content s.objects c.content) (sym objects) (same-whole s k b c hb (ap (λ (bs : List BufferValue). slice_get bs k) (sym buffers) ∙ hc)));
  objects = extends-kept s t objects;
  buffers = let size = ap length buffers in omega arith;
  windows = show;
}

-- a state to which an op leads that changes nothing that is shown
abbrev Quiet : StateValue → StateValue → Type 0
Quiet s t = LeavesTheRest s t Nothing

quiet : (s t : StateValue) → t.buffers ≡ s.buffers → t.objects ≡ s.objects → Show s t Nothing → Quiet s t
quiet s t = kept s t Nothing (λ k b c h. h)

-- a state with the same buffers, objects and windows shows no change
unseen : (s t : StateValue) → t.buffers ≡ s.buffers → t.objects ≡ s.objects → t.windows ≡ s.windows → Quiet s t
unseen s t buffers objects windows = quiet s t buffers objects (show-same s t Nothing windows)

-- ---- edits

-- a state in which one buffer was edited, and the windows behind it
abbrev Edited : StateValue → ℕ → (ContentValue → Result ContentValue Refused) → List NumberedWindow → StateValue → Type 0
Edited s i edit ws t = IsEditOf s t i edit × (t.windows ≡ ws)

edit-of : (s : StateValue) (i : ℕ) (edit : ContentValue → Result ContentValue Refused) (b : BufferValue) (c : ContentValue) (ws : List NumberedWindow) → slice_get s.buffers i ≡ Some b
    → edit b.content ≡ Ok c → Edited s i edit ws (record (with_content s i b c) { windows = ws })
edit-of s i edit b c ws at is = (record { buffer = b; content = c; at = at; gives = is; is = refl }, refl)

edited-is : (s : StateValue) (name : List ℕ) (edit : ContentValue → Result ContentValue Refused) → IfOk (edited s name edit) (Edited s (number_of name s.buffers) edit s.windows)
edited-is s name edit = let i = number_of name s.buffers in edited-if (Edited s i edit s.windows) s name edit (λ b c at is. edit-of s i edit b c s.windows at is)

edited_moving-is : (s : StateValue) (name : List ℕ) (how : Move) (edit : ContentValue → Result ContentValue Refused)
    → IfOk (edited_moving s name how edit) (Edited s (number_of name s.buffers) edit (map (moved_in (number_of name s.buffers) how) s.windows))
edited_moving-is s name how edit =
    let i = number_of name s.buffers in
    let ws = map (moved_in i how) s.windows in
    edited_moving-if (Edited s i edit ws) s name how edit (λ b c at is. edit-of s i edit b c ws at is)

edit-outcome : (s t : StateValue) (i : ℕ) (edit : ContentValue → Result ContentValue Refused) (effect : Effect) → IsEditOf s t i edit
    → ((k : ℕ) (b c : BufferValue) → slice_get s.buffers k ≡ Some b → slice_get t.buffers k ≡ Some c → Leaves effect k b.content s.objects c.content t.objects) → Show s t effect → LeavesTheRest s t effect
edit-outcome s t i edit effect e contents show = record {
  contents = contents;
  objects = extends-kept s t (sym (ap (λ (x : StateValue). x.objects) e.is));
  buffers = let size = sym (ap (λ (x : StateValue). length x.buffers) e.is) ∙ length-set s.buffers i _ in omega (arith, size);
  windows = show;
}

-- an edit of a range
range-outcome : (s t : StateValue) (i from removed added : ℕ) (edit : ContentValue → Result ContentValue Refused) → IsEditOf s t i edit
    → ((b : BufferValue) (d : ContentValue) → slice_get s.buffers i ≡ Some b → edit b.content ≡ Ok d → Stays b.content s.objects d s.objects from (from + added + 1) (pos added -ℤ pos removed))
    → Show s t (Edit i from removed added) → LeavesTheRest s t (Edit i from removed added)
range-outcome s t i from removed added edit e stays show =
    edit-outcome s t i edit (Edit i from removed added) e (part-stays s t i from (from + added + 1) (pos added -ℤ pos removed) edit e stays) show

-- an edit of a range in a buffer of a valid state, where the windows behind it are these
ranged : (s : StateValue) (i from removed added : ℕ) (edit : ContentValue → Result ContentValue Refused) (ws : List NumberedWindow) (r : Result StateValue Refused) → IsValid s
    → ((c d : ContentValue) → IsContent s.objects c → edit c ≡ Ok d → Stays c s.objects d s.objects from (from + added + 1) (pos added -ℤ pos removed))
    → ((t : StateValue) → t.windows ≡ ws → Show s t (Edit i from removed added)) → IfOk r (Edited s i edit ws) → IfOk r (λ t. LeavesTheRest s t (Edit i from removed added))
ranged s i from removed added edit ws r v stays show =
    IfOk-weaker _ _ _ (λ t e. range-outcome s t i from removed added edit e.0 (λ b d at gives. stays b.content d (v.buffers.contents i b at) gives) (show t e.1))

-- an edit of all that shows a buffer
all-outcome : (s t : StateValue) (i : ℕ) (edit : ContentValue → Result ContentValue Refused) → IsEditOf s t i edit → Show s t (All i) → LeavesTheRest s t (All i)
all-outcome s t i edit e show = edit-outcome s t i edit (All i) e (λ k b c hb hc ne. others-whole s t i k edit b c e hb hc ne) show

-- an overlay in a buffer that is there
found-overlay : (s : StateValue) (name : List ℕ) (number : ℕ) (b : BufferValue) (o : Overlay) → slice_get s.buffers (number_of name s.buffers) ≡ Some b → overlay_at b.content.overlays number ≡ Some o
    → overlay_in s name number ≡ Some o
found-overlay s name number b o at is = ap (option_and_then (λ (x : BufferValue). overlay_at x.content.overlays number)) at ∙ is

-- an edit of an overlay: what its effect tells of the overlay holds of each that the edit finds there, since that is one
around-outcome : (s t : StateValue) (name : List ℕ) (number : ℕ) (edit : ContentValue → Result ContentValue Refused) (effect : Option Overlay → Effect) (P : Overlay → ContentValue → ContentValue → Type 0)
    → IsEditOf s t (number_of name s.buffers) edit
    → ((b : BufferValue) (d : ContentValue) → slice_get s.buffers (number_of name s.buffers) ≡ Some b → edit b.content ≡ Ok d
    → (o : Overlay) × (overlay_at b.content.overlays number ≡ Some o) × P o b.content d)
    → ((o : Overlay) → ((b : BufferValue) (d : ContentValue) → slice_get s.buffers (number_of name s.buffers) ≡ Some b → edit b.content ≡ Ok d → P o b.content d) → LeavesTheRest s t (effect (Some o)))
    → LeavesTheRest s t (effect (overlay_in s name number))
around-outcome s t name number edit effect P e stays done =
    let there = stays e.buffer e.content e.at e.gives in
    let is : overlay_in s name number ≡ Some there.0 = found-overlay s name number e.buffer there.0 e.at there.1 in
    subst (λ (o : Option Overlay). LeavesTheRest s t (effect o)) (sym is)
    (done there.0 (λ b d at gives.
    let here = stays b d at gives in
    let same : here.0 ≡ there.0 = one-value (overlay_in s name number) here.0 there.0 (found-overlay s name number b here.0 at here.1) is in
    subst (λ (o : Overlay). P o b.content d) same here.2))

-- an edit of what an overlay covers
overlay-outcome : (s t : StateValue) (name : List ℕ) (number : ℕ) (edit : ContentValue → Result ContentValue Refused)
    → IsEditOf s t (number_of name s.buffers) edit × (t.windows ≡ s.windows)
    → ((b : BufferValue) (d : ContentValue) → slice_get s.buffers (number_of name s.buffers) ≡ Some b → edit b.content ≡ Ok d → AroundOverlay s.objects number b.content d)
    → LeavesTheRest s t (covered_effect (number_of name s.buffers) (overlay_in s name number))
overlay-outcome s t name number edit e stays =
    let i = number_of name s.buffers in
    around-outcome s t name number edit (covered_effect i) (λ o. StaysAround s.objects o.from o.to) e.0 stays
    (λ o all. let n = o.to - o.from in range-outcome s t i o.from n n edit e.0 all (show-same s t (Edit i o.from n n) e.1))

-- both ranges of an overlay that is moved
moved-outcome : (s t : StateValue) (name : List ℕ) (number from to : ℕ) → IsValid s
    → IsEditOf s t (number_of name s.buffers) (overlay_moving number from to) × (t.windows ≡ s.windows)
    → LeavesTheRest s t (moved_effect (number_of name s.buffers) from to (overlay_in s name number))
moved-outcome s t name number from to v e =
    let i = number_of name s.buffers in
    let edit = overlay_moving number from to in
    around-outcome s t name number edit (moved_effect i from to) (λ o c d. Stays c s.objects d s.objects (min o.from from) (max o.to to + 1) (pos 0)) e.0
    (λ b d at gives. stays-moved s.objects number from to b.content d (v.buffers.contents i b at) gives)
    (λ o all. let effect = Moved i (o.from, o.to) (from, to) in
    edit-outcome s t i edit effect e.0 (part-stays s t i (min o.from from) (max o.to to + 1) (pos 0) edit e.0 all) (show-same s t effect e.1))

-- a margin string changes nothing that is seen
margin-outcome : (s t : StateValue) (i number : ℕ) (string : Option ℕ) → IsEditOf s t i (margin_putting s.objects number string) × (t.windows ≡ s.windows) → LeavesTheRest s t Nothing
margin-outcome s t i number string e =
    let edit = margin_putting s.objects number string in
    edit-outcome s t i edit Nothing e.0
    (λ k b c hb hc head tail.
    let parts = part-stays s t i head tail (pos 0) edit e.0 (λ x y at gives. stays-margin s.objects number string x.content y gives head tail) k b c hb hc in
    elim (cases_eq k i) [ inl p ↦ parts.0 p | inr q ↦ parts.1 q head tail ])
    (show-same s t Nothing e.1)

-- ---- objects and new buffers

objects-outcome : (s : StateValue) (fault : Option ObjectFault) (p : ObjectLists) → IsValid s → Extends s.objects p → IfOk (with_objects s (unless_fault fault p)) (Quiet s)
objects-outcome s (Some e) p v more = tt
objects-outcome s None p v more = record {
  contents = λ k b c hb hc.
      subst (λ (x : BufferValue). StaysWhole b.content s.objects x.content p) (one-value (slice_get s.buffers k) b c hb hc)
      (whole-objects s.objects p b.content (v.buffers.contents k b hb) more);
  objects = more;
  buffers = omega arith;
  windows = show-same s s Nothing refl;
}

making-outcome : (s : StateValue) (name : List ℕ) → IfOk (making s name) (Quiet s)
making-outcome s name =
    making-if (Quiet s) s name (λ free room. record {
      contents = λ k b c hb hc. elim (get-end s.buffers (new_buffer name) k c hc) [
        | inl p ↦ same-whole s k b c hb p
        | inr p ↦ absurd (omega (arith, p.0, slice_get_within s.buffers k b hb))
      ];
      objects = extends_itself s.objects;
      buffers = let size = length-append s.buffers (new_buffer name ∷ []) in omega (arith, size);
      windows = show-same s s Nothing refl;
    })

-- ---- windows that become others

changed-outcome : (s : StateValue) (n : ℕ) (f : WindowState → WindowState) → ((w : WindowState) → (f w).buffer ≡ w.buffer) → IfOk (changing n f (Ok s)) (Quiet s)
changed-outcome s n f keep = quiet s _ refl refl (show-with Nothing n f s.windows keep)

-- a state in which the tree and a window became others
tree-outcome : (s : StateValue) (n : ℕ) (f : WindowState → WindowState) (r : Result Configuration TreeFault) → ((w : WindowState) → (f w).buffer ≡ w.buffer)
    → IfOk (changing n f (on_tree r (λ tree. record s { tree = tree }))) (Quiet s)
tree-outcome s n f r keep = treed-if (Quiet s) s r n f (λ d is. quiet s _ refl refl (show-with Nothing n f s.windows keep))

typing-outcome : (s : StateValue) (new : List ℕ) → IsValid s
    → IfOk (typing s new) (λ t. LeavesTheRest s t (inserted_effect (selected_window s).buffer (selected_window s).point new))
typing-outcome s new v =
    typing-if (λ t. LeavesTheRest s t (inserted_effect (selected_window s).buffer (selected_window s).point new)) s new
    (λ w b c lives at is.
    let i = w.buffer in
    let f : WindowState → WindowState = λ old. record old { point = w.point + length new } in
    let ws = changed_under s.selected f (map (moved_in i (Inserted w.point (length new))) s.windows) in
    let edit = insertion w.point new in
    let t : StateValue = record (with_content s i b c) { windows = ws } in
    subst (λ (o : Option WindowState). LeavesTheRest s t (inserted_effect (unwrap_or o opening_window).buffer (unwrap_or o opening_window).point new)) (sym lives)
    (range-outcome s t i w.point 0 (length new) edit (edit-of s i edit b c ws at is).0
    (λ x d there gives. stays-inserted s.objects w.point new x.content d (v.buffers.contents i x there) gives)
    (show-typed (Edit i w.point 0 (length new)) i (Inserted w.point (length new)) s.selected f s.windows (λ x. refl))))

inserted-outcome : (s : StateValue) (name : List ℕ) (place : ℕ) (text : List ℕ) → IsValid s
    → IfOk (inserting s name place text) (λ t. LeavesTheRest s t (inserted_effect (number_of name s.buffers) place text))
inserted-outcome s name place text v =
    let i = number_of name s.buffers in
    let how = Inserted place (length text) in
    ranged s i place 0 (length text) (insertion place text) _ _ v (stays-inserted s.objects place text) (λ t. show-each s t _ i how) (edited_moving-is s name how (insertion place text))

-- ---- all ops

pub outcome : (s : StateValue) (op : Op) → IsValid s → IsInForm op → IfOk (step s op) (λ t. LeavesTheRest s t (effect_of s op))
unfolding step effect_of
outcome s (ops.Frame width height) v form = tree-if (Quiet s) (resize_tree s.tree width (height - 1)) _ (λ d is. unseen s _ refl refl refl)
outcome s (ops.Buffer name) v form = making-outcome s name
outcome s (ops.Insert name place text) v form = inserted-outcome s name place text v
outcome s (ops.InsertRaw name place bytes) v form = inserted-outcome s name place (raw_text bytes) v
outcome s (ops.TypeText text) v form = typing-outcome s text v
outcome s (ops.Delete name from to) v form =
    let i = number_of name s.buffers in
    let edit = deletion from to in
    ranged s i from (to - from) 0 edit _ _ v (stays-deleted s.objects from to) (λ t. show-each s t _ i (Deleted from to)) (edited_moving-is s name (Deleted from to) edit)
outcome s (ops.Narrow name from to) v form =
    let i = number_of name s.buffers in
    IfOk-weaker _ _ _ (λ t e. all-outcome s t i (narrowing from to) e.0 (show-each s t (All i) i (Narrowed from to) e.1)) (edited_moving-is s name (Narrowed from to) (narrowing from to))
outcome s (ops.Widen name) v form =
    let i = number_of name s.buffers in
    IfOk-weaker _ _ _ (λ t e. all-outcome s t i widening e.0 (show-same s t (All i) e.1)) (edited-is s name widening)
outcome s (ops.Put name from to kind value) v form =
    let n = to - from in
    let edit = property_putting s.objects from to kind value in
    ranged s (number_of name s.buffers) from n n edit _ _ v (λ c d. stays-put s.objects from to kind value c d form.3) (λ t. show-same s t _) (edited-is s name edit)
outcome s (ops.Overlay name from to priority front rear) v form =
    let n = to - from in
    let edit = overlay_making from to priority front rear in
    ranged s (number_of name s.buffers) from n n edit _ _ v (stays-made s.objects from to priority front rear) (λ t. show-same s t _) (edited-is s name edit)
outcome s (ops.OverlayMove name overlay from to) v form =
    IfOk-weaker _ _ _ (λ t e. moved-outcome s t name overlay from to v e) (edited-is s name (overlay_moving overlay from to))
outcome s (ops.OverlayDrop name overlay) v form =
    IfOk-weaker _ _ _
    (λ t e. overlay-outcome s t name overlay (overlay_dropping overlay) e
    (λ b d at gives. stays-dropped s.objects overlay b.content d (v.buffers.contents (number_of name s.buffers) b at) gives))
    (edited-is s name (overlay_dropping overlay))
outcome s (ops.OverlayPut name overlay kind value) v form =
    let edit = overlay_putting s.objects overlay kind value in
    IfOk-weaker _ _ _
    (λ t e. overlay-outcome s t name overlay edit e
    (λ b d at gives. stays-given s.objects overlay kind value b.content d (v.buffers.contents (number_of name s.buffers) b at) gives))
    (edited-is s name edit)
outcome s (ops.Setting name value) v form =
    let i = number_of name s.buffers in
    let edit = setting_putting s.objects value in
    IfOk-weaker _ _ _ (λ t e. all-outcome s t i edit e.0 (show-same s t (All i) e.1)) (edited-is s name edit)
outcome s (ops.AddString text runs) v form = objects-outcome s _ _ v (string_extends s.objects text (map object_run runs))
outcome s (ops.AddSpec spec) v form = objects-outcome s _ _ v (spec_extends s.objects (spec_of spec))
outcome s (ops.AddFace face) v form = objects-outcome s _ _ v (face_extends s.objects face)
outcome s (ops.AddTable entries truncation continuation escape control ellipsis border) v form =
    objects-outcome s _ _ v (table_extends s.objects (table_of entries truncation continuation escape control ellipsis border))
outcome s (ops.Split window side size) v form =
    found (Quiet s) _ (window_of window s.windows) _
    (λ w lives. tree-if (Quiet s) (split_tree s.tree window side size) _
    (λ d is. quiet s _ refl refl (each-end (Shows Nothing) (λ number x ne. refl) s.windows (s.tree.made, record w { forced = false; pending = pos 0 }))))
outcome s (ops.Remove window) v form =
    found (Quiet s) _ (window_of window s.windows) _
    (λ w lives. tree-if (Quiet s) (remove_tree s.tree window) _
    (λ d is. quiet s _ refl refl (each-without (Shows Nothing) (λ number x ne. refl) window s.windows v.windows.apart)))
outcome s (ops.Select window) v form = found (Quiet s) _ (window_of window s.windows) _ (λ w lives. unseen s (record s { selected = window }) refl refl refl)
outcome s (ops.Show window name) v form =
    found (λ t. LeavesTheRest s t (Window window)) _ (window_of window s.windows) _
    (λ w lives. found (λ t. LeavesTheRest s t (Window window)) _ (slice_get s.buffers (number_of name s.buffers)) _
    (λ b at. kept s _ (Window window) (λ k x c h. h) refl refl
    (each-with (Shows (Window window)) (λ number x ne. refl) window _ s.windows (λ x ne. absurd (ne refl)))))
outcome s (ops.Point window place) v form = placing-if (Quiet s) s window place _ (λ w b lives at yes. changed-outcome s window _ (λ x. refl))
outcome s (ops.Start window place row) v form = placing-if (Quiet s) s window place _ (λ w b lives at yes. changed-outcome s window _ (λ x. refl))
outcome s (ops.Scroll window rows) v form = setting-if (Quiet s) s window _ (changed-outcome s window _ (λ w. refl))
outcome s (ops.Hscroll window columns) v form = setting-if (Quiet s) s window _ (changed-outcome s window _ (λ w. refl))
outcome s (ops.Wrap window mode) v form = setting-if (Quiet s) s window _ (changed-outcome s window _ (λ w. refl))
outcome s (ops.ModeLine window format) v form =
    found (Quiet s) _ (window_of window s.windows) _
    (λ w lives. unless (Quiet s) (format_fault format) _
    (λ good. tree-outcome s window (λ old. record old { format = format }) (mode_tree s.tree window (is_some format)) (λ x. refl)))
outcome s (ops.Margin window numbers strings) v form =
    found (Quiet s) _ (window_of window s.windows) _
    (λ w lives. tree-outcome s window (λ old. record old { numbers = numbers; strings = strings }) (margins_tree s.tree window (numbers + strings)) (λ x. refl))
outcome s (ops.MarginPut name overlay string) v form =
    IfOk-weaker _ _ _ (λ t e. margin-outcome s t (number_of name s.buffers) overlay string e) (edited-is s name (margin_putting s.objects overlay string))
outcome s op v form = unseen s _ refl refl refl

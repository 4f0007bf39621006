-- What each op leaves: the frame's size, the windows that live, and what is seen in those of which it tells no change.
use Rattle.std.proofs.Common.{◌≡◌, inl, inr, ℕ, ◌+◌, ◌-◌, ◌≤◌, ◌==◌, Bool, true, false, if◌then◌else◌, pos, ◌+ℤ◌, is_some, Option, Some, Result, Ok, Err, List, length, sym, ap, refl, subst, ◌∙◌, arith, unwrap_or}
use Rattle.std.proofs.lemmas.Bool.{cond-true, eq-eqb}
use Rattle.std.proofs.lemmas.Result.{IfOk-at_ok}
use Rattle.std.specs.Option.{option_and_then}
use Rattle.std.specs.Prelude.{slice_get, IfOk}
use Rattle.rd_margins.specs.Marks as marks
use Rattle.rd_objects.specs.Things.{ObjectLists}
use Rattle.rd_overlays.specs.Overlays.{overlay_at}
use Rattle.rd_reuse.specs.Changes.{all, is_none, none}
use Rattle.rd_base.proofs.Choices.{both-ok, if-ok}
use Rattle.rd_script.specs.declared.op.Op.{Op}
use Rattle.rd_script.specs.declared.op.Op.TheVariants as ops
use Rattle.rd_tree.specs.Calls.{Configuration, split_tree, remove_tree, resize_tree, mode_tree, margins_tree}
use Rattle.rd_tree.specs.declared.fault.TreeFault.{TreeFault}
use Rattle.rd_tree.proofs.Steps.{margins-means, mode-means, remove-means, resize-means, split-means}
use Rattle.rd_state.specs.Edits.{insertion, deletion, narrowing, widening, property_putting, overlay_making, overlay_moving, overlay_dropping, overlay_putting, margin_putting, setting_putting, is_number_made}
use Rattle.rd_state.specs.Effects.{effect_of, overlay_in}
use Rattle.rd_state.specs.Making.{table_of, string_making, spec_making, face_making, table_making}
use Rattle.rd_state.specs.States.{BufferValue, ContentValue, StateValue, new_buffer, number_of, opening_window, seen}
use Rattle.rd_state.specs.Steps.{changing, with_objects, on_tree, edited, edited_moving, setting, placing, format_fault, held, raw_text, step}
use Rattle.rd_state.specs.Windows.{selected_window, window_of, NumberedWindow}
use Rattle.rd_state.specs.declared.effect.Effect.{Effect}
use Rattle.rd_state.specs.declared.effect.Effect.TheVariants.{Nothing, Edit, Window}
use Rattle.rd_state.specs.declared.moves.Move.{Move}
use Rattle.rd_state.specs.declared.moves.Move.TheVariants.{Inserted, Deleted, Narrowed}
use Rattle.rd_state.specs.declared.refused.Refused.{Refused}
use Rattle.rd_state.specs.declared.refused.Refused.TheVariants.{NoObject, NoOverlay}
use Rattle.rd_state.specs.declared.window.WindowState.{WindowState}
use Rattle.rd_layout.specs.Sessions.{is_frame}
use Rattle.rd_state.proofs.StepParts.{found, unless, objects-if, tree-if, treed-if, making-if, edited-if, edited_moving-if, typing-if, setting-if, placing-if}
use Rattle.rd_layout.proofs.Calm.{Became, Contents, Kept, Loud, Quiet, Same, became-end, became-moved, became-same, became-typed, became-with, became-without, contents-pushed, contents-same, contents-set, covered-loud, loud-all, loud-edit, moved-loud}

-- no count of windows falls
abbrev Grows : Configuration → Configuration → Type 0
Grows c d = c.made ≤ d.made

-- a state from which a step led to another one: the frame has the size that it had, unless the op is that of the frame; no count of
-- windows falls, none that was made before comes to live, and of what the effect tells no change nothing else is seen
pub record Moves (framed : Bool) (effect : Effect) (s t : StateValue) : Type 0 where
  pub size : framed ≡ false → (t.width ≡ s.width) × (t.height ≡ s.height)
  pub made : s.tree.made ≤ t.tree.made
  pub contents : Contents effect s.buffers t.buffers
  pub windows : Became effect s.tree.made s.windows t.windows

abbrev Leads : Effect → StateValue → Result StateValue Refused → Type 0
Leads effect s r = IfOk r (Moves false effect s)

-- ---- parts of steps

-- where the frame's size, the tree, the buffers and the windows are the same
stays : (effect : Effect) (s t : StateValue) → t.width ≡ s.width → t.height ≡ s.height → t.tree ≡ s.tree → t.buffers ≡ s.buffers → t.windows ≡ s.windows → Moves false effect s t
stays effect s t w h r b is = record {
  size = λ _. (w, h);
  made = subst (Grows s.tree) (sym r) (omega arith);
  contents = subst (Contents effect s.buffers) (sym b) (contents-same effect s.buffers);
  windows = subst (Became effect s.tree.made s.windows) (sym is) (became-same effect s.tree.made s.windows);
}

-- where the frame's size and the tree are the same
inside : (effect : Effect) (s : StateValue) (bs : List BufferValue) (ws : List NumberedWindow) → Contents effect s.buffers bs → Became effect s.tree.made s.windows ws
    → Moves false effect s (record s { buffers = bs; windows = ws })
inside effect s bs ws c w = record { size = λ _. (refl, refl); made = omega arith; contents = c; windows = w }

-- an edit of which the effect tells, or after which the same is seen
edited-moves : (effect : Effect) (s : StateValue) (name : List ℕ) (edit : ContentValue → Result ContentValue Refused)
    → ((b : BufferValue) (c : ContentValue) → slice_get s.buffers (number_of name s.buffers) ≡ Some b → edit b.content ≡ Ok c → Kept effect (number_of name s.buffers) b.content c)
    → Leads effect s (edited s name edit)
edited-moves effect s name edit kept =
    edited-if (Moves false effect s) s name edit
    (λ b c at is. inside effect s _ s.windows (contents-set effect s.buffers (number_of name s.buffers) b c at (kept b c at is)) (became-same effect s.tree.made s.windows))

-- an edit that moves positions
edited_moving-moves : (effect : Effect) (s : StateValue) (name : List ℕ) (how : Move) (edit : ContentValue → Result ContentValue Refused) → Loud effect (number_of name s.buffers)
    → Leads effect s (edited_moving s name how edit)
edited_moving-moves effect s name how edit loud =
    let i = number_of name s.buffers in
    edited_moving-if (Moves false effect s) s name how edit
    (λ b c at is. inside effect s _ _ (contents-set effect s.buffers i b c at (inl loud)) (became-moved effect s.tree.made s.windows i how loud))

-- where windows became others, beside a tree in which no count of windows fell
became-moves : (effect : Effect) (s : StateValue) (d : Configuration) (ws : List NumberedWindow) (k : ℕ) → Grows s.tree d → Became effect s.tree.made s.windows ws
    → Moves false effect s (record s { tree = d; windows = ws; selected = k })
became-moves effect s d ws k grows became = record { size = λ _. (refl, refl); made = grows; contents = contents-same effect s.buffers; windows = became }

-- where a window becomes another, beside such a tree
with-moves : (effect : Effect) (s : StateValue) (d : Configuration) (n : ℕ) (f : WindowState → WindowState) → Grows s.tree d → ((w : WindowState) → Quiet effect n w.buffer → Same w (f w))
    → Leads effect s (changing n f (Ok (record s { tree = d })))
with-moves effect s d n f grows good = became-moves effect s d _ s.selected grows (became-with effect s.tree.made s.windows n f good)

-- a step that makes objects
objects-moves : (s : StateValue) (r : Result ObjectLists Refused) → Leads Nothing s (with_objects s r)
objects-moves s r = objects-if (Moves false Nothing s) s r (λ o is. stays Nothing s _ refl refl refl refl refl)

-- a step that changes the tree and a window
treed-moves : (s : StateValue) (r : Result Configuration TreeFault) (n : ℕ) (f : WindowState → WindowState) → ((d : Configuration) → r ≡ Ok d → Grows s.tree d)
    → ((w : WindowState) → Quiet Nothing n w.buffer → Same w (f w)) → Leads Nothing s (changing n f (on_tree r (λ tree. record s { tree = tree })))
treed-moves s r n f grows good = treed-if (Moves false Nothing s) s r n f (λ d is. with-moves Nothing s d n f (grows d is) good)

-- steps that change a window alone
changing-moves : (effect : Effect) (s : StateValue) (n : ℕ) (f : WindowState → WindowState) → ((w : WindowState) → Quiet effect n w.buffer → Same w (f w)) → Leads effect s (changing n f (Ok s))
changing-moves effect s n f good = with-moves effect s s.tree n f (omega arith) good

setting-moves : (s : StateValue) (n : ℕ) (f : WindowState → WindowState) → ((w : WindowState) → Quiet Nothing n w.buffer → Same w (f w)) → Leads Nothing s (setting s n f)
setting-moves s n f good = setting-if (Moves false Nothing s) s n f (changing-moves Nothing s n f good)

placing-moves : (s : StateValue) (n place : ℕ) (f : WindowState → WindowState) → ((w : WindowState) → Quiet Nothing n w.buffer → Same w (f w)) → Leads Nothing s (placing s n place f)
placing-moves s n place f good = placing-if (Moves false Nothing s) s n place f (λ w b lives at yes. changing-moves Nothing s n f good)

-- ---- overlays

-- an edit of an overlay is refused where there is none of its number
overlay-there : (s : StateValue) (name : List ℕ) (number : ℕ) (b : BufferValue) (r : Result ContentValue Refused) (e : Refused) (c : ContentValue)
    → slice_get s.buffers (number_of name s.buffers) ≡ Some b → (if is_some (overlay_at b.content.overlays number) then r else Err e) ≡ Ok c → is_some (overlay_in s name number) ≡ true
overlay-there s name number b r e c at is =
    ap (λ (o : Option BufferValue). is_some (option_and_then (λ (x : BufferValue). overlay_at x.content.overlays number) o)) at ∙ (if-ok (is_some (overlay_at b.content.overlays number)) r e c is).0

margins-seen : (objects : ObjectLists) (number : ℕ) (string : Option ℕ) (c d : ContentValue) → margin_putting objects number string c ≡ Ok d → seen d ≡ seen c
margins-seen objects number string c d h =
    ap seen (sym (both-ok (is_some (overlay_at c.overlays number)) (is_number_made (length objects.strings) string) (record c { marks = marks.marked c.marks number string }) NoObject NoOverlay d h).2)

-- ---- all ops

moves : (s : StateValue) (op : Op) → IfOk (step s op) (Moves (is_frame op) (effect_of s op) s)
unfolding step effect_of
moves s (ops.Frame width height) =
    tree-if (Moves true Nothing s) (resize_tree s.tree width (height - 1)) _ (λ d is. record {
      size = λ no. absurd (cc);
      made = subst (Grows s.tree) (resize-means s.tree d width (height - 1) is).1 (omega arith);
      contents = contents-same Nothing s.buffers;
      windows = became-same Nothing s.tree.made s.windows;
    })
moves s (ops.Buffer name) =
    making-if (Moves false Nothing s) s name
    (λ free room. inside Nothing s _ s.windows (contents-pushed Nothing s.buffers (new_buffer name)) (became-same Nothing s.tree.made s.windows))
moves s (ops.Insert name place text) = edited_moving-moves _ s name (Inserted place (length text)) (insertion place text) (loud-edit (number_of name s.buffers) place 0 (length text))
moves s (ops.InsertRaw name place bytes) =
    edited_moving-moves _ s name (Inserted place (length (raw_text bytes))) (insertion place (raw_text bytes)) (loud-edit (number_of name s.buffers) place 0 (length (raw_text bytes)))
moves s (ops.TypeText text) =
    let effect = Edit (selected_window s).buffer (selected_window s).point 0 (length text) in
    typing-if (Moves false effect s) s text
    (λ w b c lives at is.
    let loud = subst (λ (x : WindowState). Loud effect x.buffer) (ap (λ (o : Option WindowState). unwrap_or o opening_window) lives) (loud-edit (selected_window s).buffer (selected_window s).point 0 (length text)) in
    inside effect s _ _ (contents-set effect s.buffers w.buffer b c at (inl loud))
    (became-typed effect s.tree.made s.windows w.buffer (Inserted w.point (length text)) s.selected _ w loud lives refl))
moves s (ops.Delete name from to) = edited_moving-moves _ s name (Deleted from to) (deletion from to) (loud-edit (number_of name s.buffers) from (to - from) 0)
moves s (ops.Narrow name from to) = edited_moving-moves _ s name (Narrowed from to) (narrowing from to) (loud-all (number_of name s.buffers))
moves s (ops.Widen name) = edited-moves _ s name widening (λ b c at is. inl (loud-all (number_of name s.buffers)))
moves s (ops.Put name from to kind value) =
    edited-moves _ s name (property_putting s.objects from to kind value) (λ b c at is. inl (loud-edit (number_of name s.buffers) from (to - from) (to - from)))
moves s (ops.Overlay name from to priority front rear) =
    edited-moves _ s name (overlay_making from to priority front rear) (λ b c at is. inl (loud-edit (number_of name s.buffers) from (to - from) (to - from)))
moves s (ops.OverlayMove name overlay from to) =
    edited-moves _ s name (overlay_moving overlay from to)
    (λ b c at is. inl (moved-loud (number_of name s.buffers) from to (overlay_in s name overlay) (overlay-there s name overlay b _ _ c at is)))
moves s (ops.OverlayDrop name overlay) =
    edited-moves _ s name (overlay_dropping overlay)
    (λ b c at is. inl (covered-loud (number_of name s.buffers) (overlay_in s name overlay) (overlay-there s name overlay b _ _ c at is)))
moves s (ops.OverlayPut name overlay kind value) =
    edited-moves _ s name (overlay_putting s.objects overlay kind value)
    (λ b c at is. inl (covered-loud (number_of name s.buffers) (overlay_in s name overlay) (overlay-there s name overlay b _ _ c at is)))
moves s (ops.Setting name value) = edited-moves _ s name (setting_putting s.objects value) (λ b c at is. inl (loud-all (number_of name s.buffers)))
moves s (ops.AddString text runs) = objects-moves s (string_making s.objects text runs)
moves s (ops.AddSpec spec) = objects-moves s (spec_making s.objects spec)
moves s (ops.AddFace face) = objects-moves s (face_making s.objects face)
moves s (ops.AddTable entries truncation continuation escape control ellipsis border) =
    objects-moves s (table_making s.objects (table_of entries truncation continuation escape control ellipsis border))
moves s (ops.Split window side size) =
    found (Moves false Nothing s) _ (window_of window s.windows) _
    (λ w lives. tree-if (Moves false Nothing s) (split_tree s.tree window side size) _
    (λ d is. became-moves Nothing s d _ _ (subst (Grows s.tree) (split-means s.tree d window side size is).3 (omega arith))
    (became-end Nothing s.windows (s.tree.made, record w { forced = false; pending = pos 0 }))))
moves s (ops.Remove window) =
    found (Moves false Nothing s) _ (window_of window s.windows) _
    (λ w lives. tree-if (Moves false Nothing s) (remove_tree s.tree window) _
    (λ d is. became-moves Nothing s d _ _ (subst (Grows s.tree) (remove-means s.tree d window is).2 (omega arith)) (became-without Nothing s.tree.made s.windows window)))
moves s (ops.Select window) =
    found (Moves false Nothing s) _ (window_of window s.windows) _ (λ w lives. stays Nothing s (record s { selected = window }) refl refl refl refl refl)
moves s (ops.Show window name) =
    found (Moves false (Window window) s) _ (window_of window s.windows) _
    (λ w lives. found (Moves false (Window window) s) _ (slice_get s.buffers (number_of name s.buffers)) _
    (λ b at. changing-moves (Window window) s window _
    (λ x quiet. let is : is_none all ≡ true = ap is_none (sym (cond-true (window == window) all none (eq-eqb window window refl))) ∙ quiet in absurd (cc))))
moves s (ops.Point window place) = placing-moves s window place (λ old. record old { point = place }) (λ w quiet. (refl, λ h. (h, refl)))
moves s (ops.Start window place row) =
    placing-moves s window place (λ old. record old { anchor = record { pos = place; row = row }; forced = true; pending = pos 0 }) (λ w quiet. (refl, λ h. absurd (cc)))
moves s (ops.Scroll window rows) =
    setting-moves s window (λ old. record old { forced = true; pending = held (old.pending +ℤ rows) }) (λ w quiet. (refl, λ h. absurd (cc)))
moves s (ops.Hscroll window columns) = setting-moves s window (λ old. record old { hscroll = columns }) (λ w quiet. (refl, λ h. (h, refl)))
moves s (ops.Wrap window mode) = setting-moves s window (λ old. record old { wrap = mode }) (λ w quiet. (refl, λ h. (h, refl)))
moves s (ops.ModeLine window format) =
    found (Moves false Nothing s) _ (window_of window s.windows) _
    (λ w lives. unless (Moves false Nothing s) (format_fault format) _
    (λ good. treed-moves s (mode_tree s.tree window (is_some format)) window (λ old. record old { format = format })
    (λ d is. subst (Grows s.tree) (mode-means s.tree d window (is_some format) is).2 (omega arith)) (λ x quiet. (refl, λ h. (h, refl)))))
moves s (ops.Scrolling margin conservatively) = stays Nothing s (record s { margin = margin; conservatively = conservatively }) refl refl refl refl refl
moves s (ops.Echo text) = stays Nothing s (record s { echo = text }) refl refl refl refl refl
moves s (ops.Redisplay stop) = stays Nothing s s refl refl refl refl refl
moves s (ops.Shift on) = stays Nothing s (record s { shifting = on }) refl refl refl refl refl
moves s (ops.Go window right) = stays Nothing s s refl refl refl refl refl
moves s (ops.Hit window row column) = stays Nothing s s refl refl refl refl refl
moves s (ops.Margin window numbers strings) =
    found (Moves false Nothing s) _ (window_of window s.windows) _
    (λ w lives. treed-moves s (margins_tree s.tree window (numbers + strings)) window (λ old. record old { numbers = numbers; strings = strings })
    (λ d is. subst (Grows s.tree) (margins-means s.tree d window (numbers + strings) is).2 (omega arith)) (λ x quiet. (refl, λ h. (h, refl))))
moves s (ops.MarginPut name overlay string) =
    edited-moves Nothing s name (margin_putting s.objects overlay string) (λ b c at is. inr (margins-seen s.objects overlay string b.content c is))

-- what holds between a state and the one to which an op led, by the op's effect
pub moved : (s t : StateValue) (op : Op) → step s op ≡ Ok t → Moves (is_frame op) (effect_of s op) s t
moved s t op is = IfOk-at_ok (Moves (is_frame op) (effect_of s op) s) is (moves s op)

-- No op is refused for want of memory, by the definitions.
use Rattle.std.proofs.Common.{◌≢◌, ℕ, ◌+◌, ◌-◌, Bool, false, if◌then◌else◌, is_some, length, map, nat_le, slice_get, List, Option, None, Some, Result, Ok, Err, refl, ap}
use Rattle.std.specs.Prelude.{ℤ, pos}
use Rattle.rd_layout.specs.Pointing.{hitting_by, stepped_to}
use Rattle.rd_layout.specs.Sessions.{SessionValue, layout_of, session_step}
use Rattle.rd_layout.specs.Windows.{place_of}
use Rattle.rd_base.proofs.Choices.{IsFreeOf, either, goes-on-free, no-free, ok-free}
use Rattle.rd_base.specs.declared.limits.TheConstants.{FACES, SPECS, STRINGS, TABLES}
use Rattle.rd_objects.specs.Things.{ObjectLists, full_fault, spec_fault, string_fault}
use Rattle.rd_objects.specs.declared.run.Run.{Run}
use Rattle.rd_objects.specs.declared.run.Spec.{Spec}
use Rattle.rd_objects.specs.declared.fault.ObjectFault.{ObjectFault}
use Rattle.rd_objects.specs.declared.fault.ObjectFault.TheVariants as faults
use Rattle.rd_script.specs.declared.op.Op.{Op}
use Rattle.rd_script.specs.declared.op.Op.TheVariants as ops
use Rattle.rd_script.specs.declared.setting.Setting.{Setting}
use Rattle.rd_state.specs.Edits.{deletion, is_accessible, insertion, margin_putting, narrowing, overlay_dropping, overlay_making, overlay_moving, overlay_putting, property_putting, setting_putting, widening}
use Rattle.rd_state.specs.Making.{refused_object, object_run, spec_of, unless_fault}
use Rattle.rd_state.specs.States.{BufferValue, ContentValue, StateValue, number_of}
use Rattle.rd_state.specs.Steps.{changing, edited, edited_moving, in_window, in_buffer, in_shown, making, moving, on_tree, placing, raw_text, refused_tree, content_replaced, setting, showing, step, typed, typing, unless_bad, with_found, with_objects}
use Rattle.rd_state.proofs.Free.{refused-free}
use Rattle.rd_state.specs.declared.moves.Move.{Move}
use Rattle.rd_state.specs.declared.moves.Move.TheVariants.{Deleted, Inserted, Narrowed}
use Rattle.rd_state.specs.declared.refused.Refused.{Refused}
use Rattle.rd_state.specs.declared.refused.Refused.TheVariants.{Memory, NameTaken, NoBuffer, NoObject, NoOverlay, NoWindow, NotShown, OutOfRange, TextTooLarge, TooManyBuffers, TooManyOverlays}
use Rattle.rd_state.specs.declared.window.WindowState.{WindowState}
use Rattle.rd_tree.specs.Calls.{Configuration}
use Rattle.rd_tree.proofs.Free.{margins-free, mode-free, remove-free, resize-free, split-free}
use Rattle.rd_tree.specs.declared.fault.TreeFault.{TreeFault}
use Rattle.rd_tree.specs.declared.fault.TreeFault.TheVariants as trees
use Rattle.rd_tree.specs.declared.placed.Placed.{Placed}
use Rattle.rd_window.specs.declared.layout.Layout.{Layout}

found-free : {A B : Type 0} (refusal : Refused) (o : Option A) (f : A → Result B Refused) → refusal ≢ Memory → ((a : A) → IsFreeOf Memory (f a)) → IsFreeOf Memory (with_found refusal o f)
found-free refusal None f p h = λ e. p (cc)
found-free refusal (Some a) f p h = h a

-- what is done to a window that lives
lives-free : (s : StateValue) (window : ℕ) (f : WindowState → Result StateValue Refused) → ((w : WindowState) → IsFreeOf Memory (f w)) → IsFreeOf Memory (in_window s window f)
lives-free s window f h = found-free NoWindow _ f (λ e. cc) h

-- what is done to the buffer with a name, and to the one that a window shows
named-free : (s : StateValue) (name : List ℕ) (f : ℕ → BufferValue → Result StateValue Refused) → ((i : ℕ) (b : BufferValue) → IsFreeOf Memory (f i b)) → IsFreeOf Memory (in_buffer s name f)
named-free s name f h = found-free NoBuffer _ (f (number_of name s.buffers)) (λ e. cc) (h (number_of name s.buffers))

shown-free : (s : StateValue) (w : WindowState) (f : BufferValue → Result StateValue Refused) → ((b : BufferValue) → IsFreeOf Memory (f b)) → IsFreeOf Memory (in_shown s w f)
shown-free s w f h = found-free NoBuffer (slice_get s.buffers w.buffer) f (λ e. cc) h

-- ---- buffers

edited-free : (s : StateValue) (name : List ℕ) (edit : ContentValue → Result ContentValue Refused) → ((c : ContentValue) → IsFreeOf Memory (edit c)) → IsFreeOf Memory (edited s name edit)
edited-free s name edit h = named-free s name (λ i b. content_replaced s i b (edit b.content)) (λ i b. goes-on-free (content_replaced s i b) (edit b.content) (λ e. refl) (λ d is. ok-free _) (h b.content))

moved-free : (s : StateValue) (name : List ℕ) (how : Move) (edit : ContentValue → Result ContentValue Refused) → ((c : ContentValue) → IsFreeOf Memory (edit c)) → IsFreeOf Memory (edited_moving s name how edit)
moved-free s name how edit h =
    named-free s name (λ i b. moving i how (content_replaced s i b (edit b.content)))
    (λ i b. goes-on-free (λ r. moving i how (content_replaced s i b r)) (edit b.content) (λ e. refl) (λ d is. ok-free _) (h b.content))

-- an edit behind one test, and behind two
one-free : {A : Type 0} (t : Bool) (made : A) (e : Refused) → e ≢ Memory → IsFreeOf Memory (if t then Ok made else Err e)
one-free t made e p = either (IsFreeOf Memory) t _ _ (ok-free made) (no-free e p)

both-free : {A : Type 0} (t u : Bool) (made : A) (e f : Refused) → e ≢ Memory → f ≢ Memory → IsFreeOf Memory (if t then (if u then Ok made else Err e) else Err f)
both-free t u made e f p q = either (IsFreeOf Memory) t _ _ (one-free u made e p) (no-free f q)

insertion-free : (place : ℕ) (new : List ℕ) (c : ContentValue) → IsFreeOf Memory (insertion place new c)
insertion-free place new c = both-free _ _ _ TextTooLarge OutOfRange (λ e. cc) (λ e. cc)

overlay_making-free : (from to : ℕ) (priority : ℤ) (front rear : Bool) (c : ContentValue) → IsFreeOf Memory (overlay_making from to priority front rear c)
overlay_making-free from to priority front rear c = either (IsFreeOf Memory) _ _ _ (either (IsFreeOf Memory) _ _ _ (no-free TooManyOverlays (λ e. cc)) (ok-free _)) (no-free OutOfRange (λ e. cc))

making-free : (s : StateValue) (name : List ℕ) → IsFreeOf Memory (making s name)
making-free s name = either (IsFreeOf Memory) _ _ _ (no-free NameTaken (λ e. cc)) (either (IsFreeOf Memory) _ _ _ (no-free TooManyBuffers (λ e. cc)) (ok-free _))

typing-free : (s : StateValue) (new : List ℕ) → IsFreeOf Memory (typing s new)
typing-free s new =
    let done : WindowState → BufferValue → Result ContentValue Refused → Result StateValue Refused = λ w b r.
    changing s.selected (λ old. record old { point = w.point + length new }) (moving w.buffer (Inserted w.point (length new)) (content_replaced s w.buffer b r)) in
    let put : WindowState → BufferValue → Result StateValue Refused = λ w b. done w b (insertion w.point new b.content) in
    lives-free s s.selected (typed s new)
    (λ w. shown-free s w (put w) (λ b. goes-on-free (done w b) (insertion w.point new b.content) (λ e. refl) (λ d is. ok-free _) (insertion-free w.point new b.content)))

-- ---- objects

object-free : (fault : ObjectFault) → fault ≢ faults.Memory → refused_object fault ≢ Memory
object-free faults.Memory h = λ e. h refl
object-free fault h = λ e. cc

made-free : (s : StateValue) (o : Option ObjectFault) (made : ObjectLists) → o ≢ Some faults.Memory → IsFreeOf Memory (with_objects s (unless_fault o made))
made-free s None made h = ok-free _
made-free s (Some fault) made h = no-free (refused_object fault) (object-free fault (λ e. h (ap (λ f. Some f) e)))

-- neither of two possible faults is want of memory, so the one that is chosen is not
choice-free : (b : Bool) (o p : Option ObjectFault) → o ≢ Some faults.Memory → p ≢ Some faults.Memory → (if b then o else p) ≢ Some faults.Memory
choice-free b o p h k = either (λ (x : Option ObjectFault). x ≢ Some faults.Memory) b o p h k

full-free : (most made : ℕ) → full_fault most made ≢ Some faults.Memory
full-free most made = choice-free (nat_le most made) (Some faults.TooMany) None (λ e. cc) (λ e. cc)

string-free : (o : ObjectLists) (text : List ℕ) (runs : List Run) → string_fault o text runs ≢ Some faults.Memory
string-free o text runs =
    choice-free _ (Some faults.NoObject) _ (λ e. cc) (choice-free _ (Some faults.OutOfRange) _ (λ e. cc)
    (choice-free _ (Some faults.TooLong) _ (λ e. cc) (full-free STRINGS (length o.strings))))

spec-free : (o : ObjectLists) (spec : Spec) → spec_fault o spec ≢ Some faults.Memory
spec-free o spec = choice-free _ (Some faults.NoObject) _ (λ e. cc) (full-free SPECS (length o.specs))

-- ---- windows

tree-free : (r : Result Configuration TreeFault) (f : Configuration → StateValue) → r ≢ Err trees.Memory → IsFreeOf Memory (on_tree r f)
tree-free (Ok tree) f h = ok-free (f tree)
tree-free (Err fault) f h = no-free (refused_tree fault) (refused-free fault (λ e. h (ap (λ x. Err x) e)))

bad-free : (o : Option ℕ) (r : Result StateValue Refused) → IsFreeOf Memory r → IsFreeOf Memory (unless_bad o r)
bad-free None r h = h
bad-free (Some column) r h = λ e. cc

setting-free : (s : StateValue) (window : ℕ) (f : WindowState → WindowState) → IsFreeOf Memory (setting s window f)
setting-free s window f = lives-free s window _ (λ w. ok-free _)

placing-free : (s : StateValue) (window place : ℕ) (f : WindowState → WindowState) → IsFreeOf Memory (placing s window place f)
placing-free s window place f =
    let put : BufferValue → Result StateValue Refused = λ b. if is_accessible b.content.text place then changing window f (Ok s) else Err OutOfRange in
    lives-free s window (λ w. in_shown s w put)
    (λ w. shown-free s w put (λ b. either (IsFreeOf Memory) (is_accessible b.content.text place) (changing window f (Ok s)) (Err OutOfRange) (ok-free _) (no-free OutOfRange (λ e. cc))))

showing-free : (s : StateValue) (window : ℕ) (name : List ℕ) → IsFreeOf Memory (showing s window name)
showing-free s window name =
    let put : ℕ → BufferValue → Result StateValue Refused = λ i b.
    let begin = b.content.text.begin in
    changing window (λ old. record old { buffer = i; point = begin; anchor = record { pos = begin; row = 0 }; forced = false; pending = pos 0 }) (Ok s) in
    lives-free s window (λ w. in_buffer s name put) (λ w. named-free s name put (λ i b. ok-free _))

point-free : (s : StateValue) (window place : ℕ) → IsFreeOf Memory (step s (ops.Point window place))
unfolding step
point-free s window place = placing-free s window place _

hit-free : (s : StateValue) (window : ℕ) (w : WindowState) (last : Option Layout) (place : Option Placed) (row column : ℕ) → IsFreeOf Memory (hitting_by s window w last place row column)
hit-free s window w None place row column = λ e. cc
hit-free s window w (Some l) None row column = λ e. cc
hit-free s window w (Some l) (Some place) row column = either (IsFreeOf Memory) _ _ _ (point-free s window _) (no-free NotShown (λ e. cc))

-- ---- all ops

pub session-free : (v : SessionValue) (op : Op) → IsFreeOf Memory (session_step v op)
unfolding step
session-free v (ops.Frame width height) = tree-free _ _ (resize-free v.state.tree width (height - 1))
session-free v (ops.Buffer name) = making-free v.state name
session-free v (ops.Insert name place text) = moved-free v.state name (Inserted place (length text)) (insertion place text) (insertion-free place text)
session-free v (ops.InsertRaw name place bytes) = moved-free v.state name (Inserted place (length (raw_text bytes))) (insertion place (raw_text bytes)) (insertion-free place (raw_text bytes))
session-free v (ops.TypeText text) = typing-free v.state text
session-free v (ops.Delete name from to) = moved-free v.state name (Deleted from to) (deletion from to) (λ c. one-free _ _ OutOfRange (λ e. cc))
session-free v (ops.Narrow name from to) = moved-free v.state name (Narrowed from to) (narrowing from to) (λ c. one-free _ _ OutOfRange (λ e. cc))
session-free v (ops.Widen name) = edited-free v.state name widening (λ c. ok-free _)
session-free v (ops.Put name from to kind value) = edited-free v.state name (property_putting v.state.objects from to kind value) (λ c. both-free _ _ _ NoObject OutOfRange (λ e. cc) (λ e. cc))
session-free v (ops.Overlay name from to priority front rear) = edited-free v.state name (overlay_making from to priority front rear) (overlay_making-free from to priority front rear)
session-free v (ops.OverlayMove name overlay from to) = edited-free v.state name (overlay_moving overlay from to) (λ c. both-free _ _ _ OutOfRange NoOverlay (λ e. cc) (λ e. cc))
session-free v (ops.OverlayDrop name overlay) = edited-free v.state name (overlay_dropping overlay) (λ c. one-free _ _ NoOverlay (λ e. cc))
session-free v (ops.OverlayPut name overlay kind value) = edited-free v.state name (overlay_putting v.state.objects overlay kind value) (λ c. both-free _ _ _ NoObject NoOverlay (λ e. cc) (λ e. cc))
session-free v (ops.Setting name value) = edited-free v.state name (setting_putting v.state.objects value) (λ c. one-free _ _ NoObject (λ e. cc))
session-free v (ops.AddString text runs) = made-free v.state _ _ (string-free v.state.objects text (map object_run runs))
session-free v (ops.AddSpec spec) = made-free v.state _ _ (spec-free v.state.objects (spec_of spec))
session-free v (ops.AddFace face) = made-free v.state _ _ (full-free FACES (length v.state.objects.faces))
session-free v (ops.AddTable entries truncation continuation escape control ellipsis border) = made-free v.state _ _ (full-free TABLES (length v.state.objects.tables))
session-free v (ops.Split window side size) = lives-free v.state window _ (λ w. tree-free _ _ (split-free v.state.tree window side size))
session-free v (ops.Remove window) = lives-free v.state window _ (λ w. tree-free _ _ (remove-free v.state.tree window))
session-free v (ops.Select window) = lives-free v.state window _ (λ w. ok-free _)
session-free v (ops.Show window name) = showing-free v.state window name
session-free v (ops.Point window place) = placing-free v.state window place _
session-free v (ops.Start window place row) = placing-free v.state window place _
session-free v (ops.Scroll window rows) = setting-free v.state window _
session-free v (ops.Hscroll window columns) = setting-free v.state window _
session-free v (ops.Wrap window mode) = setting-free v.state window _
session-free v (ops.ModeLine window format) = lives-free v.state window _ (λ w. bad-free _ _ (goes-on-free (changing window _) _ (λ e. refl) (λ t is. ok-free _) (tree-free _ _ (mode-free v.state.tree window (is_some format)))))
session-free v (ops.Go window right) = lives-free v.state window _ (λ w. point-free v.state window (stepped_to v.files v.state w right))
session-free v (ops.Hit window row column) = lives-free v.state window _ (λ w. hit-free v.state window w (layout_of window v.layouts) (place_of window v.state) row column)
session-free v (ops.Margin window numbers strings) = lives-free v.state window _ (λ w. goes-on-free (changing window _) _ (λ e. refl) (λ t is. ok-free _) (tree-free _ _ (margins-free v.state.tree window (numbers + strings))))
session-free v (ops.MarginPut name overlay string) = edited-free v.state name (margin_putting v.state.objects overlay string) (λ c. both-free _ _ _ NoObject NoOverlay (λ e. cc) (λ e. cc))
session-free v op = λ e. cc

-- What holds of the state to which a step leads, by the parts of the step.
use Rattle.std.proofs.Common.{◌≡◌, ℕ, ◌+◌, Bool, true, false, if◌then◌else◌, nat_lt, nat_le, Option, None, Some, Result, Ok, Err, List, [], ◌∷◌, ◌++◌, length, map, refl}
use Rattle.std.specs.Prelude.{slice_get, slice_set, IfOk}
use Rattle.rd_base.specs.declared.limits.TheConstants.{BUFFERS}
use Rattle.rd_objects.specs.Things.{ObjectLists}
use Rattle.rd_tree.specs.Calls.{Configuration}
use Rattle.rd_tree.specs.declared.fault.TreeFault.{TreeFault}
use Rattle.rd_state.specs.Edits.{insertion, is_accessible}
use Rattle.rd_state.specs.Moves.{moved_in}
use Rattle.rd_state.specs.States.{BufferValue, ContentValue, StateValue, new_buffer, number_of}
use Rattle.rd_state.specs.Steps.{with_found, content_replaced, moving, changing, with_objects, on_tree, making, edited, edited_moving, typing, placing, setting, unless_bad}
use Rattle.rd_state.specs.Windows.{window_of, changed_under}
use Rattle.rd_state.specs.declared.moves.Move.{Move}
use Rattle.rd_state.specs.declared.moves.Move.TheVariants.{Inserted}
use Rattle.rd_state.specs.declared.refused.Refused.{Refused}
use Rattle.rd_state.specs.declared.window.WindowState.{WindowState}

-- where a test refuses what fails
tested : {T E : Type 0} (t : Bool) (r : Result T E) (e : E) (P : T → Type 0) → (t ≡ true → IfOk r P) → IfOk (if t then r else Err e) P
tested true r e P h = h refl
tested false r e P h = tt

-- where a test refuses what holds
untested : {T E : Type 0} (t : Bool) (r : Result T E) (e : E) (P : T → Type 0) → (t ≡ false → IfOk r P) → IfOk (if t then Err e else r) P
untested true r e P h = tt
untested false r e P h = h refl

-- a state in which a buffer holds something else
abbrev pub with_content : StateValue → ℕ → BufferValue → ContentValue → StateValue
with_content s i b c = record s { buffers = slice_set s.buffers i (record b { content = c }) }

-- a part of a step makes only states with a property, where the one state that it can make has it; a refusal makes none
module _ (P : StateValue → Type 0) where
  -- for a part that goes on from an answer: what it makes of a fault, and what it makes of the thing itself
  goes-on : {A E : Type 0} (part : Result A E → Result StateValue Refused) (r : Result A E) → ((e : E) → IfOk (part (Err e)) P) → ((a : A) → r ≡ Ok a → IfOk (part (Ok a)) P) → IfOk (part r) P
  goes-on part (Err e) none h = none e
  goes-on part (Ok a) none h = h a refl

  pub each-if : (r : Result StateValue Refused) → ((t : StateValue) → r ≡ Ok t → P t) → IfOk r P
  each-if r h = goes-on (λ x. x) r (λ e. tt) h

  pub found : {A : Type 0} (refusal : Refused) (o : Option A) (f : A → Result StateValue Refused) → ((a : A) → o ≡ Some a → IfOk (f a) P) → IfOk (with_found refusal o f) P
  found refusal None f h = tt
  found refusal (Some a) f h = h a refl

  pub unless : (o : Option ℕ) (r : Result StateValue Refused) → (o ≡ None → IfOk r P) → IfOk (unless_bad o r) P
  unless None r h = h refl
  unless (Some column) r h = tt

  pub objects-if : (s : StateValue) (r : Result ObjectLists Refused) → ((o : ObjectLists) → r ≡ Ok o → P (record s { objects = o })) → IfOk (with_objects s r) P
  objects-if s r h = goes-on (with_objects s) r (λ e. tt) h

  pub tree-if : (r : Result Configuration TreeFault) (f : Configuration → StateValue) → ((d : Configuration) → r ≡ Ok d → P (f d)) → IfOk (on_tree r f) P
  tree-if r f h = goes-on (λ x. on_tree x f) r (λ e. tt) h

  -- a window changed beside the tree
  pub treed-if : (s : StateValue) (r : Result Configuration TreeFault) (n : ℕ) (f : WindowState → WindowState)
      → ((d : Configuration) → r ≡ Ok d → P (record s { tree = d; windows = changed_under n f s.windows })) → IfOk (changing n f (on_tree r (λ tree. record s { tree = tree }))) P
  treed-if s r n f h = goes-on (λ x. changing n f (on_tree x (λ tree. record s { tree = tree }))) r (λ e. tt) h

  pub making-if : (s : StateValue) (name : List ℕ)
      → (nat_lt (number_of name s.buffers) (length s.buffers) ≡ false → nat_le BUFFERS (length s.buffers) ≡ false → P (record s { buffers = s.buffers ++ new_buffer name ∷ [] })) → IfOk (making s name) P
  making-if s name h = untested (nat_lt (number_of name s.buffers) (length s.buffers)) _ _ P (λ free. untested (nat_le BUFFERS (length s.buffers)) _ _ P (λ room. h free room))

  pub edited-if : (s : StateValue) (name : List ℕ) (edit : ContentValue → Result ContentValue Refused)
      → ((b : BufferValue) (c : ContentValue) → slice_get s.buffers (number_of name s.buffers) ≡ Some b → edit b.content ≡ Ok c → P (with_content s (number_of name s.buffers) b c)) → IfOk (edited s name edit) P
  edited-if s name edit h =
      let i = number_of name s.buffers in
      found _ (slice_get s.buffers i) _ (λ b at. goes-on (content_replaced s i b) (edit b.content) (λ e. tt) (λ c is. h b c at is))

  pub edited_moving-if : (s : StateValue) (name : List ℕ) (how : Move) (edit : ContentValue → Result ContentValue Refused)
      → ((b : BufferValue) (c : ContentValue) → slice_get s.buffers (number_of name s.buffers) ≡ Some b → edit b.content ≡ Ok c
      → P (record (with_content s (number_of name s.buffers) b c) { windows = map (moved_in (number_of name s.buffers) how) s.windows }))
      → IfOk (edited_moving s name how edit) P
  edited_moving-if s name how edit h =
      let i = number_of name s.buffers in
      found _ (slice_get s.buffers i) _ (λ b at. goes-on (λ r. moving i how (content_replaced s i b r)) (edit b.content) (λ e. tt) (λ c is. h b c at is))

  pub typing-if : (s : StateValue) (new : List ℕ)
      → ((w : WindowState) (b : BufferValue) (c : ContentValue) → window_of s.selected s.windows ≡ Some w → slice_get s.buffers w.buffer ≡ Some b → insertion w.point new b.content ≡ Ok c
      → P (record (with_content s w.buffer b c) { windows = changed_under s.selected (λ old. record old { point = w.point + length new }) (map (moved_in w.buffer (Inserted w.point (length new))) s.windows) }))
      → IfOk (typing s new) P
  typing-if s new h =
      found _ (window_of s.selected s.windows) _
      (λ w lives. found _ (slice_get s.buffers w.buffer) _
      (λ b at. goes-on (λ r. changing s.selected (λ old. record old { point = w.point + length new }) (moving w.buffer (Inserted w.point (length new)) (content_replaced s w.buffer b r)))
      (insertion w.point new b.content) (λ e. tt) (λ c is. h w b c lives at is)))

  pub setting-if : (s : StateValue) (n : ℕ) (f : WindowState → WindowState) → P (record s { windows = changed_under n f s.windows }) → IfOk (setting s n f) P
  setting-if s n f h = found _ (window_of n s.windows) _ (λ w lives. h)

  pub placing-if : (s : StateValue) (n place : ℕ) (f : WindowState → WindowState)
      → ((w : WindowState) (b : BufferValue) → window_of n s.windows ≡ Some w → slice_get s.buffers w.buffer ≡ Some b → is_accessible b.content.text place ≡ true
      → P (record s { windows = changed_under n f s.windows })) → IfOk (placing s n place f) P
  placing-if s n place f h =
      found _ (window_of n s.windows) _
      (λ w lives. found _ (slice_get s.buffers w.buffer) _ (λ b at. tested (is_accessible b.content.text place) _ _ P (λ yes. h w b lives at yes)))

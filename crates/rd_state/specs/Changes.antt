-- What an op leaves of what is shown, by its effect.
use Rattle.std.specs.Prelude.{◌≡◌, ◌≢◌, ℕ, ◌+◌, ◌≤◌, ℤ, pos, ◌-ℤ◌, min, max, length, slice_get, Some}
use Rattle.rd_base.specs.Settings.{without_flags}
use Rattle.rd_objects.specs.Sound.{Extends}
use Rattle.rd_objects.specs.Things.{ObjectLists}
use Rattle.rd_props.specs.Agreement.{Unchanged}
use Rattle.rd_state.specs.declared.effect.Effect.{Effect}
use Rattle.rd_state.specs.declared.effect.Effect.TheVariants.{Nothing, Edit, Moved, All, Window}
use Rattle.rd_state.specs.declared.window.WindowState.{WindowState}
use Rattle.rd_state.specs.States.{BufferValue, ContentValue, StateValue, seen}
use Rattle.rd_state.specs.Windows.{window_of}

-- a buffer before and behind an op: the same is seen before `head`, and from `tail` on where it stood before so many positions were
-- added, and the settings are the same but for the two flags
pub record Stays (old : ContentValue) (old_objects : ObjectLists) (new : ContentValue) (new_objects : ObjectLists) (head tail : ℕ) (added : ℤ) : Type 0 where
  pub seen : Unchanged (seen old) old_objects (seen new) new_objects head tail added
  pub settings : without_flags new.settings ≡ without_flags old.settings

-- a buffer before and behind an op, of which all is the same
abbrev pub StaysWhole : ContentValue → ObjectLists → ContentValue → ObjectLists → Type 0
StaysWhole old old_objects new new_objects = (head tail : ℕ) → Stays old old_objects new new_objects head tail (pos 0)

-- What an effect leaves of the buffer with a number. The position just behind an edit counts as changed, since the strings of
-- overlays can move there.
abbrev pub Leaves : Effect → ℕ → ContentValue → ObjectLists → ContentValue → ObjectLists → Type 0
Leaves Nothing k old old_objects new new_objects = StaysWhole old old_objects new new_objects
Leaves (Edit i from removed added) k old old_objects new new_objects =
    (k ≡ i → Stays old old_objects new new_objects from (from + added + 1) (pos added -ℤ pos removed))
    × (k ≢ i → StaysWhole old old_objects new new_objects)
Leaves (Moved i before after) k old old_objects new new_objects =
    (k ≡ i → Stays old old_objects new new_objects (min before.0 after.0) (max before.1 after.1 + 1) (pos 0))
    × (k ≢ i → StaysWhole old old_objects new new_objects)
Leaves (All i) k old old_objects new new_objects = k ≢ i → StaysWhole old old_objects new new_objects
Leaves (Window window) k old old_objects new new_objects = StaysWhole old old_objects new new_objects

-- what an op that led from one state to another left of buffers, of objects and of the buffers that windows show, by its effect
pub record LeavesTheRest (s t : StateValue) (effect : Effect) : Type 0 where
  pub contents : (k : ℕ) (b c : BufferValue) → slice_get s.buffers k ≡ Some b → slice_get t.buffers k ≡ Some c → Leaves effect k b.content s.objects c.content t.objects
  pub objects : Extends s.objects t.objects
  pub buffers : length s.buffers ≤ length t.buffers
  pub windows : (number : ℕ) (w v : WindowState) → window_of number s.windows ≡ Some w → window_of number t.windows ≡ Some v → (effect ≡ Window number → ⊥) → v.buffer ≡ w.buffer

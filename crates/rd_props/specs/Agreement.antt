-- What an edit leaves as it was.
use Rattle.std.specs.Prelude.{◌≡◌, ◌⊎◌, ℕ, ◌+◌, ◌<◌, ◌≤◌, ℤ, pos, ◌+ℤ◌, ◌-ℤ◌}
use Rattle.rd_objects.specs.Things.{ObjectLists}
use Rattle.rd_props.specs.Buffers.{BufferValue}
use Rattle.rd_props.specs.Seen.{Agree}

-- one of two positions is accessible in its buffer as far as the end, which counts as a position
abbrev pub IsInReach : BufferValue → ℕ → BufferValue → ℕ → Type 0
IsInReach s x t y = (x ≤ s.text.end) ⊎ (y ≤ t.text.end)

-- a position of one buffer and a position of another look the same, and neither stands behind the end
pub record IsSame (s : BufferValue) (objects : ObjectLists) (x : ℕ) (t : BufferValue) (things : ObjectLists) (y : ℕ) : Type 0 where
  pub old_within : x ≤ s.text.end
  pub new_within : y ≤ t.text.end
  pub agree : Agree s objects x t things y

-- two states of one buffer, of which the later has so many positions more: the same is seen at each position before `head`, and at
-- each later position from `tail` on and where it stood before. Both hold from the accessible beginning on as far as one of the
-- two accessible ranges reaches.
pub record Unchanged (old : BufferValue) (old_objects : ObjectLists) (new : BufferValue) (new_objects : ObjectLists) (head tail : ℕ) (added : ℤ) : Type 0 where
  pub begin : new.text.begin ≡ old.text.begin
  pub before : (x : ℕ) → new.text.begin ≤ x → x < head → IsInReach old x new x → IsSame old old_objects x new new_objects x
  pub behind : (x y : ℕ) → new.text.begin ≤ y → tail ≤ y → pos x +ℤ added ≡ pos y → IsInReach old x new y → IsSame old old_objects x new new_objects y

-- two states of a buffer, before and behind an edit that takes so many positions away from a place on, and puts so many others there:
-- the same is seen in both but where the edit was. The position just behind those that were put there counts as changed, since the
-- strings of overlays can move to it
abbrev pub IsEdited : BufferValue → ObjectLists → BufferValue → ObjectLists → ℕ → ℕ → ℕ → Type 0
IsEdited old old_objects new new_objects from removed added =
    Unchanged old old_objects new new_objects from (from + added + 1) (pos added -ℤ pos removed)

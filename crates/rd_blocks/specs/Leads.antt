-- How changes lead from one state of a buffer to later ones.
use Rattle.std.specs.Prelude.{◌≡◌, ◌⊎◌, max, pos, ◌+ℤ◌, ◌≤ℤ◌}
use Rattle.rd_objects.specs.Things.{ObjectLists}
use Rattle.rd_props.specs.Buffers.{BufferValue}
use Rattle.rd_reuse.specs.Changes.{all}
use Rattle.rd_reuse.specs.declared.change.Change.{Change}
use Rattle.rd_blocks.specs.Kept.{Follows}

-- a state that follows another, where what was added stands between the accessible beginning and the tail of the change
pub record Leads (old : BufferValue) (made : ObjectLists) (new : BufferValue) (objects : ObjectLists) (change : Change) : Type 0 where
  pub follows : Follows old made new objects change
  pub inside : (pos old.text.begin +ℤ change.added) ≤ℤ pos (max old.text.begin change.tail)

-- a change leads from one state to a later one; one of anything leads to each
abbrev pub LeadsTo : BufferValue → ObjectLists → BufferValue → ObjectLists → Change → Type 0
LeadsTo old made new objects change = (change ≡ all) ⊎ Leads old made new objects change

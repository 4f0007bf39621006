-- When rows of an older state of a buffer are rows of a newer one.
use Rattle.std.specs.Prelude.{◌≡◌, ℕ, List, All, slice_get, Some}
use Rattle.rd_objects.specs.Sound.{IsClosed, Extends}
use Rattle.rd_objects.specs.Things.{ObjectLists}
use Rattle.rd_props.specs.Agreement.{Unchanged}
use Rattle.rd_props.specs.Buffers.{BufferValue}
use Rattle.rd_props.specs.Made.{AreMade}
use Rattle.rd_base.specs.Settings.{without_flags}
use Rattle.rd_matrix.specs.Entries.{shown_entry}
use Rattle.rd_matrix.specs.Sources.{SourceValues, rows_at}
use Rattle.rd_matrix.specs.declared.matrix.Entry.{Entry}
use Rattle.rd_reuse.specs.declared.change.Change.{Change}
use Rattle.rd_rows.specs.Shapes.{ShapeValues}

-- two states of a buffer, of which the first names objects alone that were made by then: more may have been made since, all settings
-- but the two flags are the same, and what is seen stands as a change says
pub record Follows (old : BufferValue) (made : ObjectLists) (new : BufferValue) (objects : ObjectLists) (change : Change) : Type 0 where
  pub settings : without_flags new.settings ≡ without_flags old.settings
  pub closed : IsClosed made
  pub named : AreMade old made
  pub extends : Extends made objects
  pub unchanged : Unchanged old made new objects change.head change.tail change.added

-- rows of a source at a shape, each as the block and the number under which it stands say
abbrev pub AreRowsAt : SourceValues → ShapeValues → List Entry → Type 0
AreRowsAt m shape es = All (λ e. (place : ℕ) × (slice_get (rows_at m shape) place ≡ Some (shown_entry e))) es

-- A step there and a step back.
use Rattle.std.proofs.Common.{◌≡◌, ℕ, Some, sym, ap, ◌∙◌}
use Rattle.rd_ucd.specs.Data.{Data}
use Rattle.rd_objects.specs.Things.{ObjectLists}
use Rattle.rd_props.specs.Buffers.{BufferValue}
use Rattle.rd_visual.specs.Motion.{all_ranges, base_in, least}
use Rattle.rd_visual.specs.Tiles.{AreTiled}
use Rattle.rd_visual.specs.Ways.{opposite, sideways, stepped, way_in}
use Rattle.rd_visual.specs.declared.way.Way.{Way}
use Rattle.rd_visual.proofs.Counts.{all-some, at-most}
use Rattle.rd_visual.proofs.Neighbours.{back-again}
use Rattle.rd_visual.proofs.Steps.{opposite-in, sideways-is}

module _ (s : BufferValue) (objects : ObjectLists) (files : Data) (are : AreTiled s) where
  pub undo : (way : Way) (pos next : ℕ) → stepped way s objects files pos ≡ Some next → stepped (opposite way) s objects files next ≡ least pos (all_ranges s objects files)
  undo way pos next h = back-again way pos next (all_ranges s objects files) (all-some s objects files) (at-most s objects files are) h

  pub undo-side : (way : Way) (pos next : ℕ) → base_in s files next ≡ base_in s files pos → sideways way s objects files pos ≡ Some next
      → sideways (opposite way) s objects files next ≡ least pos (all_ranges s objects files)
  undo-side way pos next same h =
      sideways-is (opposite way) s objects files next
      ∙ ap (λ (base : ℕ). stepped (way_in (opposite way) base) s objects files next) same
      ∙ ap (λ (w : Way). stepped w s objects files next) (sym (opposite-in way (base_in s files pos)))
      ∙ undo (way_in way (base_in s files pos)) pos next (sym (sideways-is way s objects files pos) ∙ h)

-- Merged faces.
use Rattle.std.specs.Prelude.{ℕ, nat_lt, if◌then◌else◌, List, [], ◌∷◌, slice_get, Option, None, Some}
use Rattle.std.specs.Option.{unwrap_or}
use Rattle.rd_base.specs.Faces.{Attributes, plain, over}
use Rattle.rd_overlays.specs.declared.overlay.Overlay.{Overlay}
use Rattle.rd_overlays.specs.declared.overlay.Kind.TheVariants.{Face}
use Rattle.rd_overlays.specs.Overlays.{overlay_at, covering}
use Rattle.rd_objects.specs.Things.{ObjectLists}
use Rattle.rd_props.specs.Buffers.{BufferValue, property}
use Rattle.rd_props.specs.Values.{value_of}

-- the face of a number: the plain face where there is no number, and where none was made with it
abbrev pub face_of : ObjectLists → Option ℕ → Attributes
face_of objects None = plain
face_of objects (Some number) = unwrap_or (slice_get objects.faces number) plain

-- a face with the faces of these overlays laid over it, one after the other
abbrev pub laid_over : ObjectLists → List (Option Overlay) → List ℕ → Attributes → Attributes
laid_over objects slots [] face = face
laid_over objects slots (number ∷ numbers) face =
    laid_over objects slots numbers (over (face_of objects (value_of Face (overlay_at slots number))) face)

-- the face of a position: the text property's with those of the covering overlays laid over it in increasing order of priority
-- and number, and the plain face at the end of the accessible text
abbrev pub face_at : BufferValue → ObjectLists → ℕ → Attributes
face_at s objects pos =
    if nat_lt pos s.text.end
    then laid_over objects s.overlays (covering pos s.overlays) (face_of objects (property s Face pos))
    else plain

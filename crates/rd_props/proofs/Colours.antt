-- The colours of merged faces are in range where those of all faces are.
use Rattle.std.proofs.Common.{ℕ, nat_lt, List, [], ◌∷◌, All, Option, None, Some, subst, sym}
use Rattle.std.proofs.lemmas.Bool.{cond_both}
use Rattle.std.proofs.lemmas.Option.{unwrap_or-slice_get}
use Rattle.rd_base.proofs.Colours.{plain-coloured, over-coloured}
use Rattle.rd_base.proofs.Lists.{all-read}
use Rattle.rd_base.specs.Cells.{HasColours}
use Rattle.rd_base.specs.Faces.{Attributes, plain}
use Rattle.rd_objects.specs.Sound.{AreObjects}
use Rattle.rd_objects.specs.Things.{ObjectLists}
use Rattle.rd_overlays.specs.declared.overlay.Kind.TheVariants.{Face}
use Rattle.rd_overlays.specs.declared.overlay.Overlay.{Overlay}
use Rattle.rd_overlays.specs.Overlays.{covering, overlay_at}
use Rattle.rd_props.specs.Buffers.{BufferValue, property}
use Rattle.rd_props.specs.Faces.{face_of, laid_over, face_at}
use Rattle.rd_props.specs.Values.{value_of}

face-coloured : (objects : ObjectLists) (number : Option ℕ) → All HasColours objects.faces → HasColours (face_of objects number)
face-coloured objects None h = plain-coloured
face-coloured objects (Some number) h =
    subst HasColours (sym (unwrap_or-slice_get objects.faces number plain)) (all-read HasColours objects.faces number plain h plain-coloured)

laid-coloured : (objects : ObjectLists) (slots : List (Option Overlay)) (numbers : List ℕ) (face : Attributes) → All HasColours objects.faces → HasColours face → HasColours (laid_over objects slots numbers face)
laid-coloured objects slots [] face h k = k
laid-coloured objects slots (number ∷ numbers) face h k =
    laid-coloured objects slots numbers _ h (over-coloured (face_of objects (value_of Face (overlay_at slots number))) face (face-coloured objects _ h) k)

pub merged-coloured : (s : BufferValue) (objects : ObjectLists) (pos : ℕ) → AreObjects objects → HasColours (face_at s objects pos)
merged-coloured s objects pos sound =
    cond_both (nat_lt pos s.text.end) _ plain HasColours
    (λ _. laid-coloured objects s.overlays (covering pos s.overlays) (face_of objects (property s Face pos)) sound.faces (face-coloured objects (property s Face pos) sound.faces))
    (λ _. plain-coloured)

-- Buffers on which the definitions are worked out.
use Rattle.std.specs.Prelude.{ℕ, ◌+◌, ◌-◌, pos, Bool, false, List, [], ◌∷◌, ◌++◌, length, replicate, Option, None, Some}
use Rattle.rd_base.specs.Faces.{Attributes, plain}
use Rattle.rd_base.specs.Settings.{SettingValues, opening}
use Rattle.rd_base.specs.declared.settings.Invisible as setting
use Rattle.rd_text.specs.Texts.{TextValue}
use Rattle.rd_overlays.specs.declared.overlay.Overlay.{Overlay}
use Rattle.rd_overlays.specs.declared.overlay.Kind.TheVariants.{Face, Before, After}
use Rattle.rd_overlays.specs.Overlays.{new_overlay, given}
use Rattle.rd_props.specs.Buffers.{BufferValue, values_of}
use Rattle.rd_objects.specs.Things.{ObjectLists, nothing_made}

-- a property with one value from one position up to another
abbrev pub put_once : ℕ → ℕ → ℕ → List (Option ℕ)
put_once from to value = replicate from None ++ replicate (to - from) (Some value)

-- a text that is accessible from end to end
abbrev pub whole_text : List ℕ → TextValue
whole_text chars = record { text = chars; begin = 1; end = length chars + 1 }

-- a text with properties, overlays and settings
abbrev pub buffer : List ℕ → List (List (Option ℕ)) → List (Option Overlay) → SettingValues → BufferValue
buffer chars properties overlays settings = record {
  text = whole_text chars;
  properties = values_of properties;
  overlays = overlays;
  settings = settings;
}

-- three characters with a face, display specs, atoms and overlays
abbrev pub three_characters : List (Option ℕ) → List (Option ℕ) → List (Option ℕ) → List (Option Overlay) → BufferValue
three_characters faces specs atoms overlays = buffer (97 ∷ 98 ∷ 99 ∷ []) (faces ∷ specs ∷ atoms ∷ []) overlays opening

abbrev pub red : Attributes
red = record plain { fg = 1 }

abbrev pub on_green : Attributes
on_green = record plain { bg = 2 }

abbrev pub two_faces : ObjectLists
two_faces = record nothing_made { faces = red ∷ on_green ∷ [] }

-- an overlay on the second character, whose start moves with characters that are put in there or stays
abbrev pub on_the_second : Bool → List (Option Overlay)
on_the_second front = Some (new_overlay 2 3 (pos 0) front false) ∷ []

-- the first face on all three characters, and an overlay with this face on the second
abbrev pub coloured : ℕ → BufferValue
coloured face = three_characters (put_once 1 4 0) [] [] (given (on_the_second false) 0 Face (Some face))

-- two overlays that end at position 2 with the after-strings 0 and 1, two that start there with the before-strings 2 and 3, and
-- an empty one there with the strings 4 and 5
abbrev pub meeting : List (Option Overlay)
meeting =
    given (given (given (given (given (given
    (Some (new_overlay 1 2 (pos 1) false false) ∷ Some (new_overlay 1 2 (pos 2) false false) ∷ Some (new_overlay 2 3 (pos 1) false false) ∷ Some (new_overlay 2 3 (pos 2) false false) ∷ Some (new_overlay 2 2 (pos 0) false false) ∷ [])
    0 After (Some 0)) 1 After (Some 1)) 2 Before (Some 2)) 3 Before (Some 3)) 4 Before (Some 4)) 4 After (Some 5)

-- the atom 7 on the first two characters, the second of which has a display spec
abbrev pub partly_invisible : setting.Invisible → BufferValue
partly_invisible setting =
    let s = three_characters [] (put_once 2 3 0) (put_once 1 3 7) [] in
    record s { settings = record opening { invisible = setting } }

-- three characters, the second of which has an overlay with the before-string 4 and the after-string 5
abbrev pub enclosed : Bool → BufferValue
enclosed front = three_characters [] [] [] (given (given (on_the_second front) 0 Before (Some 4)) 0 After (Some 5))

-- What the frames of a walk have still to give, step by step: a step is the elements of one character, ellipsis, space or end, or of
-- nothing where a string is entered.
use Rattle.std.specs.Prelude.{ℕ, Bool, List, [], ◌∷◌, ◌++◌, slice_get}
use Rattle.std.specs.List.{flat_map}
use Rattle.rd_base.specs.Faces.{Attributes}
use Rattle.rd_base.specs.declared.element.Element.{Element}
use Rattle.rd_base.specs.declared.element.Origin.{Origin}
use Rattle.rd_objects.specs.Texts.{TextValue}
use Rattle.rd_items.specs.Pieces.{Scene}
use Rattle.rd_items.specs.declared.item.Item.{Item}
use Rattle.rd_items.specs.declared.item.ItemKind.TheVariants as kind
use Rattle.rd_levels.specs.declared.turn.Turn.{Turn}
use Rattle.rd_stack.specs.Strings.{shown_at, behind_row}
use Rattle.rd_stack.specs.Shown.{Putting, kind_elements, put_part, put_named}
use Rattle.rd_stack.specs.Lines.{put_item}
use Rattle.rd_stack.specs.declared.part.Part.{Part}
use Rattle.rd_stack.specs.declared.part.Shown.{Shown}

-- the steps of what an item or a part of a string shows: a string is entered
abbrev pub kind_steps : Putting (List Element)
kind_steps end string s (kind.Text n) odd face origin = [] ∷ string (slice_get s.objects.strings n)
kind_steps end string s k odd face origin = kind_elements end (λ text. []) s k odd face origin ∷ []

-- the steps of a part of an overlay's string or of a display string
abbrev pub part_steps : Scene → ℕ → Bool → Origin → Shown → List (List Element)
part_steps s base replaced origin = put_part kind_steps (put_named kind_steps s base replaced origin) s origin

-- what a string has still to give, where these turns of the parts of a row are left that ends at a place
abbrev pub string_left : Scene → ℕ → Bool → Origin → Attributes → TextValue → List Part → List Turn → ℕ → List (List Element)
string_left s base replaced origin under text parts turns i =
    flat_map (part_steps s base replaced origin) (flat_map (shown_at parts) turns ++ behind_row s base replaced text under i)

-- what a line has still to give, where these turns of its items are left
abbrev pub line_left : Scene → ℕ → List Item → List Turn → List (List Element)
line_left s base items turns = flat_map (put_item kind_steps s base items) turns

-- the elements of steps
abbrev pub elements_in : List (List Element) → List Element
elements_in steps = flat_map (λ (es : List Element). es) steps

-- Scenes that show alike what is read, since no object that it names has changed.
use Rattle.std.specs.Prelude.{◌≡◌, ◌<◌, List, length, All}
use Rattle.rd_base.specs.Settings.{without_flags}
use Rattle.rd_objects.specs.Sound.{Extends}
use Rattle.rd_objects.specs.Things.{ObjectLists}
use Rattle.rd_props.specs.Made.{SeesMade}
use Rattle.rd_props.specs.Seen.{Seen}
use Rattle.rd_items.specs.Pieces.{Scene}
use Rattle.rd_items.specs.declared.item.Item.{Item}
use Rattle.rd_items.specs.declared.item.ItemKind.{ItemKind}
use Rattle.rd_items.specs.declared.item.ItemKind.TheVariants as kind

-- each spec and each string that is named in what is read was made
abbrev pub ReadsMade : ObjectLists → List Seen → Type 0
ReadsMade o es = All (SeesMade o) es

-- the string that an item shows was made
abbrev pub ShowsMade : ObjectLists → ItemKind → Type 0
ShowsMade o (kind.Text number) = number < length o.strings
ShowsMade o k = Unit {0}

-- each string that items show was made
abbrev pub ShowMade : ObjectLists → List Item → Type 0
ShowMade o items = All (λ item. ShowsMade o item.kind) items

-- a scene that goes on from another: objects were only made, the two flags may be others, and all else is the same
pub record GoesOnFrom (old new : Scene) : Type 0 where
  pub objects : Extends old.objects new.objects
  pub table : new.parts.table ≡ old.parts.table
  pub settings : without_flags new.parts.settings ≡ without_flags old.parts.settings
  pub classes : new.parts.classes ≡ old.parts.classes
  pub mirrors : new.parts.mirrors ≡ old.parts.mirrors
  pub brackets : new.brackets ≡ old.brackets

-- The objects that a buffer names.
use Rattle.std.specs.Prelude.{◌≡◌, ℕ, ◌<◌, IfSome, List, [], ◌∷◌, ◌++◌, length, All, Option, None, Some}
use Rattle.rd_base.specs.Settings.{SettingValues}
use Rattle.rd_overlays.specs.declared.overlay.Overlay.{Overlay}
use Rattle.rd_overlays.specs.declared.overlay.Kind.{Kind}
use Rattle.rd_overlays.specs.declared.overlay.Kind.TheVariants.{Face, Display, Invisible, LinePrefix, WrapPrefix, Before, After}
use Rattle.rd_overlays.specs.Overlays.{overlay_at, moved, dropped, given}
use Rattle.rd_objects.specs.Sound.{Extends}
use Rattle.rd_objects.specs.Things.{ObjectLists}
use Rattle.rd_props.specs.Buffers.{BufferValue, property}
use Rattle.rd_props.specs.Edits.{IsInsertion, IsDeletion, IsPut, HasOverlays}
use Rattle.rd_props.specs.Seen.{Seen}
use Rattle.rd_props.specs.Values.{value_of}

-- how many objects were made of those that values of a kind name; an atom names none
abbrev pub object_count : ObjectLists → Kind → Option ℕ
object_count objects Face = Some (length objects.faces)
object_count objects Display = Some (length objects.specs)
object_count objects Invisible = None
object_count objects LinePrefix = Some (length objects.strings)
object_count objects WrapPrefix = Some (length objects.strings)
object_count objects Before = Some (length objects.strings)
object_count objects After = Some (length objects.strings)

-- the object that a value of a kind names was made, where it names one
abbrev pub IsMade : ObjectLists → Kind → ℕ → Type 0
IsMade objects kind value = IfSome (object_count objects kind) (λ count. value < count)

-- the table and the strings that settings name were made
pub record SettingsMade (objects : ObjectLists) (settings : SettingValues) : Type 0 where
  pub table : IfSome settings.table (λ number. number < length objects.tables)
  pub line_prefix : IfSome settings.line_prefix (λ number. number < length objects.strings)
  pub wrap_prefix : IfSome settings.wrap_prefix (λ number. number < length objects.strings)

-- each object that the properties, the overlays and the settings of a buffer name was made
pub record AreMade (s : BufferValue) (objects : ObjectLists) : Type 0 where
  pub properties : (kind : Kind) (p value : ℕ) → property s kind p ≡ Some value → IsMade objects kind value
  pub overlays : (number value : ℕ) (kind : Kind) (overlay : Overlay) → overlay_at s.overlays number ≡ Some overlay → value_of kind (Some overlay) ≡ Some value → IsMade objects kind value
  pub settings : SettingsMade objects s.settings

-- each spec and each string that is named where this is seen was made
pub record SeesMade (objects : ObjectLists) (seen : Seen) : Type 0 where
  pub display : IfSome seen.appearance.display (λ number. number < length objects.specs)
  pub line_prefix : IfSome seen.appearance.line_prefix (λ number. number < length objects.strings)
  pub wrap_prefix : IfSome seen.appearance.wrap_prefix (λ number. number < length objects.strings)
  pub strings : All (λ number. number < length objects.strings) seen.strings

-- a buffer that names made objects alone still does after an edit which names no other one, and after more objects were made
pub record MadeLaws : Type 0 where
  pub inserted : (old new : BufferValue) (objects : ObjectLists) (place : ℕ) (chars : List ℕ) → AreMade old objects → SettingsMade objects new.settings → IsInsertion old new place chars → AreMade new objects
  pub deleted : (old new : BufferValue) (objects : ObjectLists) (from to : ℕ) → AreMade old objects → SettingsMade objects new.settings → IsDeletion old new from to → AreMade new objects
  pub put : (old new : BufferValue) (objects : ObjectLists) (kind : Kind) (from to : ℕ) (value : Option ℕ) → AreMade old objects → SettingsMade objects new.settings
      → ((v : ℕ) → value ≡ Some v → IsMade objects kind v) → IsPut old new kind from to value → AreMade new objects
  pub made : (old new : BufferValue) (objects : ObjectLists) (overlay : Overlay) → AreMade old objects → SettingsMade objects new.settings
      → ((kind : Kind) (v : ℕ) → value_of kind (Some overlay) ≡ Some v → IsMade objects kind v) → HasOverlays old new (old.overlays ++ Some overlay ∷ []) → AreMade new objects
  pub dropped : (old new : BufferValue) (objects : ObjectLists) (number : ℕ) → AreMade old objects → SettingsMade objects new.settings → HasOverlays old new (dropped old.overlays number) → AreMade new objects
  pub given : (old new : BufferValue) (objects : ObjectLists) (number : ℕ) (kind : Kind) (value : Option ℕ) → AreMade old objects → SettingsMade objects new.settings
      → ((v : ℕ) → value ≡ Some v → IsMade objects kind v) → HasOverlays old new (given old.overlays number kind value) → AreMade new objects
  pub moved : (old new : BufferValue) (objects : ObjectLists) (number from to : ℕ) → AreMade old objects → SettingsMade objects new.settings → HasOverlays old new (moved old.overlays number from to) → AreMade new objects
  pub extended : (s : BufferValue) (old new : ObjectLists) → AreMade s old → Extends old new → AreMade s new

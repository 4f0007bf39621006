-- What holds of all objects that were made, and what stays as it is where more are made.
use Rattle.std.specs.Prelude.{◌≡◌, ℕ, ◌<◌, ◌≤◌, ◌++◌, IsTrue, List, length, All, None}
use Rattle.rd_base.specs.declared.limits.TheConstants.{FACES, SPECS, STRING_CHARACTERS, STRINGS, TABLES}
use Rattle.rd_base.specs.Chars.{is_code}
use Rattle.rd_base.specs.Cells.{HasColours}
use Rattle.rd_base.specs.Faces.{Attributes}
use Rattle.rd_objects.specs.declared.run.Run.{Run}
use Rattle.rd_objects.specs.declared.run.Spec.{Spec}
use Rattle.rd_objects.specs.declared.run.Spec.TheVariants.{Text}
use Rattle.rd_objects.specs.Texts.{TextValue}
use Rattle.rd_objects.specs.Tables.{TableValue, IsTable}
use Rattle.rd_objects.specs.Things.{ObjectLists, nothing_made, string_fault, spec_fault, full_fault, string_added, spec_added, face_added, table_added, IsSmallSpec}

-- each character is a scalar value or a raw byte
abbrev pub AreCodes : List ℕ → Type 0
AreCodes chars = All (λ c. IsTrue (is_code c)) chars

-- a string of at most 4,096 characters, whose runs give faces with colours in their range
pub record IsString (text : TextValue) : Type 0 where
  pub chars : AreCodes text.chars
  pub few : length text.chars ≤ STRING_CHARACTERS
  pub faces : All (λ run. HasColours run.value) text.faces

-- each object is sound, and there are no more than there may be
pub record AreObjects (o : ObjectLists) : Type 0 where
  pub strings : All IsString o.strings
  pub specs : All IsSmallSpec o.specs
  pub faces : All HasColours o.faces
  pub tables : All IsTable o.tables
  pub few_strings : length o.strings ≤ STRINGS
  pub few_specs : length o.specs ≤ SPECS
  pub few_faces : length o.faces ≤ FACES
  pub few_tables : length o.tables ≤ TABLES

-- the string that a spec names is one of so many
abbrev pub NamesMade : ℕ → Spec → Type 0
NamesMade strings (Text number) = number < strings
NamesMade strings spec = Unit {0}

-- each string and each spec that an object names was made
pub record IsClosed (o : ObjectLists) : Type 0 where
  pub strings : All (λ text. All (λ run. run.value < length o.specs) text.specs) o.strings
  pub specs : All (NamesMade (length o.strings)) o.specs

-- what all objects always keep: each is sound, and what it names was made
pub record AreRight (o : ObjectLists) : Type 0 where
  pub sound : AreObjects o
  pub closed : IsClosed o

-- a list that goes on where another ends
abbrev pub GoesOn : {X : Type 0} → List X → List X → Type 0
GoesOn {X} old new = (more : List X) × (new ≡ old ++ more)

-- more objects were made: in each sort the old ones are the first of the new ones
pub record Extends (old new : ObjectLists) : Type 0 where
  pub strings : GoesOn old.strings new.strings
  pub specs : GoesOn old.specs new.specs
  pub faces : GoesOn old.faces new.faces
  pub tables : GoesOn old.tables new.tables

-- where nothing is made all objects are sound, and they stay sound where one more is made
pub record SoundLaws : Type 0 where
  pub nothing : AreObjects nothing_made
  pub string : (o : ObjectLists) (chars : List ℕ) (runs : List Run) → AreCodes chars → string_fault o chars runs ≡ None → AreObjects o → AreObjects (string_added o chars runs)
  pub spec : (o : ObjectLists) (spec : Spec) → IsSmallSpec spec → spec_fault o spec ≡ None → AreObjects o → AreObjects (spec_added o spec)
  pub face : (o : ObjectLists) (face : Attributes) → HasColours face → full_fault FACES (length o.faces) ≡ None → AreObjects o → AreObjects (face_added o face)
  pub table : (o : ObjectLists) (table : TableValue) → IsTable table → full_fault TABLES (length o.tables) ≡ None → AreObjects o → AreObjects (table_added o table)

-- where nothing is made each object that is named was made, and so it stays where one more is made
pub record ClosedLaws : Type 0 where
  pub nothing : IsClosed nothing_made
  pub string : (o : ObjectLists) (chars : List ℕ) (runs : List Run) → string_fault o chars runs ≡ None → IsClosed o → IsClosed (string_added o chars runs)
  pub spec : (o : ObjectLists) (spec : Spec) → spec_fault o spec ≡ None → IsClosed o → IsClosed (spec_added o spec)
  pub face : (o : ObjectLists) (face : Attributes) → IsClosed o → IsClosed (face_added o face)
  pub table : (o : ObjectLists) (table : TableValue) → IsClosed o → IsClosed (table_added o table)

-- objects extend themselves, and one more object extends them
pub record GrowLaws : Type 0 where
  pub itself : (o : ObjectLists) → Extends o o
  pub string : (o : ObjectLists) (chars : List ℕ) (runs : List Run) → Extends o (string_added o chars runs)
  pub spec : (o : ObjectLists) (spec : Spec) → Extends o (spec_added o spec)
  pub face : (o : ObjectLists) (face : Attributes) → Extends o (face_added o face)
  pub table : (o : ObjectLists) (table : TableValue) → Extends o (table_added o table)

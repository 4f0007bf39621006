-- All numbered objects.
use Rattle.std.specs.Prelude.{◌≡◌, ℕ, nat_lt, nat_le, Bool, true, not, ◌≤◌, ◌&&◌, if◌then◌else◌, List, [], ◌∷◌, ◌++◌, length, Option, None, Some, Result, Ok, Err}
use Rattle.std.specs.List.{list_all}
use Rattle.rd_base.specs.declared.limits.TheConstants.{SPACE_COLUMNS, SPECS, STRING_CHARACTERS, STRINGS}
use Rattle.rd_base.specs.Faces.{Attributes}
use Rattle.rd_objects.specs.declared.fault.ObjectFault.{ObjectFault}
use Rattle.rd_objects.specs.declared.fault.ObjectFault.TheVariants.{TooMany, TooLong, NoObject, OutOfRange, Memory}
use Rattle.rd_objects.specs.declared.run.Run.{Run}
use Rattle.rd_objects.specs.declared.run.RunKind.{RunKind}
use Rattle.rd_objects.specs.declared.run.RunKind.TheVariants.{Face, Display}
use Rattle.rd_objects.specs.declared.run.Spec.{Spec}
use Rattle.rd_objects.specs.declared.run.Spec.TheVariants.{Text, Width, Align}
use Rattle.rd_objects.specs.Texts.{TextValue, text_of}
use Rattle.rd_objects.specs.Tables.{TableValue}

-- the objects of each sort, in order of their numbers
pub record ObjectLists : Type 0 where
  pub strings : List TextValue
  pub specs : List Spec
  pub faces : List Attributes
  pub tables : List TableValue

abbrev pub nothing_made : ObjectLists
nothing_made = record { strings = []; specs = []; faces = []; tables = [] }

-- whether a number of this kind is among so many faces or specs
abbrev pub is_numbered : RunKind → ℕ → ℕ → ℕ → Bool
is_numbered Face faces specs value = nat_lt value faces
is_numbered Display faces specs value = nat_lt value specs

-- whether the object that a run names was made
abbrev pub is_made : ObjectLists → Run → Bool
is_made made run = is_numbered run.kind (length made.faces) (length made.specs) run.value

-- whether a run lies in a string of this length
abbrev pub is_inside : ℕ → Run → Bool
is_inside size run = nat_le run.from run.to && nat_le run.to size

-- why a string is not made, the first of these in this order
abbrev pub string_fault : ObjectLists → List ℕ → List Run → Option ObjectFault
string_fault made chars runs =
    if not (list_all (is_made made) runs) then Some NoObject
    else (if not (list_all (is_inside (length chars)) runs) then Some OutOfRange
    else (if nat_lt STRING_CHARACTERS (length chars) then Some TooLong
    else (if nat_le STRINGS (length made.strings) then Some TooMany else None)))

-- whether the string that a spec names was made
abbrev pub is_spec_made : ObjectLists → Spec → Bool
is_spec_made made (Text n) = nat_lt n (length made.strings)
is_spec_made made spec = true

abbrev pub spec_fault : ObjectLists → Spec → Option ObjectFault
spec_fault made spec =
    if not (is_spec_made made spec) then Some NoObject else (if nat_le SPECS (length made.specs) then Some TooMany else None)

-- why one more object is not made where there may be so many
abbrev pub full_fault : ℕ → ℕ → Option ObjectFault
full_fault most made = if nat_le most made then Some TooMany else None

-- the objects with one more
abbrev pub string_added : ObjectLists → List ℕ → List Run → ObjectLists
string_added made chars runs = record made { strings = made.strings ++ text_of chars runs made.faces ∷ [] }

abbrev pub spec_added : ObjectLists → Spec → ObjectLists
spec_added made spec = record made { specs = made.specs ++ spec ∷ [] }

abbrev pub face_added : ObjectLists → Attributes → ObjectLists
face_added made face = record made { faces = made.faces ++ face ∷ [] }

abbrev pub table_added : ObjectLists → TableValue → ObjectLists
table_added made table = record made { tables = made.tables ++ table ∷ [] }

-- the widths and columns that specs may have
abbrev pub IsSmallSpec : Spec → Type 0
IsSmallSpec (Text n) = Unit {0}
IsSmallSpec (Width n) = n ≤ SPACE_COLUMNS
IsSmallSpec (Align n) = n ≤ SPACE_COLUMNS

-- an object is added with the next number, unless there is a fault, and where it is not nothing changes
abbrev pub Adds : Result ℕ ObjectFault → Option ObjectFault → ℕ → ObjectLists → ObjectLists → ObjectLists → Type 0
Adds (Ok number) fault next old new added = (fault ≡ None) × (number ≡ next) × (new ≡ added)
Adds (Err Memory) fault next old new added = new ≡ old
Adds (Err cause) fault next old new added = (fault ≡ Some cause) × (new ≡ old)

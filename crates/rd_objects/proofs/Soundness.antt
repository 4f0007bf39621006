-- What holds of all objects where one more is made.
use Rattle.std.proofs.Common.{◌≡◌, ℕ, ◌<◌, ◌≤◌, true, false, not, List, [], ◌∷◌, ◌++◌, length, length-append, append_assoc, append-nil, Some, None, refl, sym, ap, arith}
use Rattle.std.specs.Prelude.{nat_le, nat_lt, slice_get, IfSome, ⊤}
use Rattle.std.specs.List.{All, AllByRecursion, list_all}
use Rattle.std.proofs.lemmas.Bool.{not-false}
use Rattle.std.proofs.lemmas.Bool.Decides.{nat_tests}
use Rattle.std.proofs.lemmas.List.Elements.{recursion_from_All, All-from_recursion, All-nil, All-push, All-weaker}
use Rattle.std.proofs.lemmas.List.Sums.{AllPass-from_list_all}
use Rattle.std.proofs.lemmas.Option.{MatchOption-at_some}
use Rattle.rd_base.proofs.Choices.{if-else, none-chosen}
use Rattle.rd_base.specs.Faces.{Attributes, plain}
use Rattle.rd_base.specs.Lists.{is_between}
use Rattle.rd_base.specs.Cells.{HasColours}
use Rattle.rd_base.proofs.Colours.{plain-coloured}
use Rattle.rd_base.proofs.Lists.{all-at, all-read, get-first}
use Rattle.rd_objects.specs.declared.run.Run.{Run}
use Rattle.rd_objects.specs.declared.run.RunKind.{RunKind}
use Rattle.rd_objects.specs.declared.run.RunKind.TheVariants.{Face, Display}
use Rattle.rd_objects.specs.declared.run.RunOf.{RunOf}
use Rattle.rd_objects.specs.declared.run.Spec.{Spec}
use Rattle.rd_objects.specs.declared.run.Spec.TheVariants.{Text, Width, Align}
use Rattle.rd_objects.specs.Texts.{TextValue, with_run, face_by, spec_by, face_runs, spec_runs, text_of, given_at, face_of, spec_of}
use Rattle.rd_objects.specs.Tables.{TableValue, IsTable}
use Rattle.rd_objects.specs.Things.{ObjectLists, nothing_made, is_numbered, is_made, is_inside, string_fault, is_spec_made, spec_fault, full_fault, string_added, spec_added, face_added, table_added, IsSmallSpec}
use Rattle.rd_objects.specs.Sound.{AreCodes, IsString, AreObjects, NamesMade, IsClosed, AreRight, GoesOn, Extends}
use Rattle.rd_objects.proofs.Entries.{last-gives}

-- what an answer without a fault tells
record NoStringFault (o : ObjectLists) (chars : List ℕ) (runs : List Run) : Type 0 where
  made : list_all (is_made o) runs ≡ true
  short : length chars ≤ 4096
  few : length o.strings < 4096

no_string_fault : (o : ObjectLists) (chars : List ℕ) (runs : List Run) → string_fault o chars runs ≡ None → NoStringFault o chars runs
no_string_fault o chars runs e =
    let a = none-chosen (not (list_all (is_made o) runs)) _ _ e in
    let b = none-chosen (not (list_all (is_inside (length chars)) runs)) _ _ a.1 in
    let c = none-chosen (nat_lt 4096 (length chars)) _ _ b.1 in
    let d = none-chosen (nat_le 4096 (length o.strings)) _ _ c.1 in
    record {
      made = not-false (list_all (is_made o) runs) a.0;
      short = let p = c.0 in grind (arith, nat_tests);
      few = let p = d.0 in grind (arith, nat_tests);
    }

not_full : (most made : ℕ) → full_fault most made ≡ None → made < most
not_full most made e = let p = (none-chosen (nat_le most made) _ _ e).0 in grind (arith, nat_tests)

no_spec_fault : (o : ObjectLists) (spec : Spec) → spec_fault o spec ≡ None → (is_spec_made o spec ≡ true) × (length o.specs < 4096)
no_spec_fault o spec e =
    let a = none-chosen (not (is_spec_made o spec)) _ _ e in
    let b = none-chosen (nat_le 4096 (length o.specs)) _ _ a.1 in
    (not-false (is_spec_made o spec) a.0, let p = b.0 in grind (arith, nat_tests))

-- one more of a kind of objects of which there can be so many
pushed : {X : Type 0} (P : X → Type 0) (most : ℕ) (xs : List X) (x : X) → All P xs → P x → length xs < most → All P (xs ++ x ∷ []) × (length (xs ++ x ∷ []) ≤ most)
pushed P most xs x right new few = (All-push P xs x right new, omega (arith, length-append xs (x ∷ [])))

pushed_one : {X : Type 0} (xs : List X) (x : X) → length xs ≤ length (xs ++ x ∷ [])
pushed_one xs x = omega (arith, length-append xs (x ∷ []))

-- the faces that runs name have colours in their range
run_coloured : (kind : RunKind) (faces : List Attributes) (run : Run) (runs : List (RunOf Attributes)) → All HasColours faces → AllByRecursion (λ run. HasColours run.value) runs → AllByRecursion (λ run. HasColours run.value) (with_run run (face_by kind faces run.value) runs)
run_coloured Face faces run runs h r = (all-read HasColours faces run.value plain h plain-coloured, r)
run_coloured Display faces run runs h r = r

runs_coloured : (faces : List Attributes) (runs : List Run) → All HasColours faces → AllByRecursion (λ run. HasColours run.value) (face_runs faces runs)
runs_coloured faces [] h = tt
runs_coloured faces (run ∷ runs) h = run_coloured run.kind faces run (face_runs faces runs) h (runs_coloured faces runs h)

string_sound : (o : ObjectLists) (chars : List ℕ) (runs : List Run) → AreCodes chars → length chars ≤ 4096 → AreObjects o → IsString (text_of chars runs o.faces)
string_sound o chars runs codes short sound = record {
  chars = codes;
  few = short;
  faces = All-from_recursion (λ run. HasColours run.value) (face_runs o.faces runs) (runs_coloured o.faces runs sound.faces);
}

-- all objects, kind by kind
objects : (o : ObjectLists) → All IsString o.strings × (length o.strings ≤ 4096) → All IsSmallSpec o.specs × (length o.specs ≤ 4096)
    → All HasColours o.faces × (length o.faces ≤ 1024) → All IsTable o.tables × (length o.tables ≤ 64) → AreObjects o
objects o strings specs faces tables = record {
  strings = strings.0;
  specs = specs.0;
  faces = faces.0;
  tables = tables.0;
  few_strings = strings.1;
  few_specs = specs.1;
  few_faces = faces.1;
  few_tables = tables.1;
}

pub nothing_sound : AreObjects nothing_made
nothing_sound =
    objects nothing_made (All-nil IsString, omega arith) (All-nil IsSmallSpec, omega arith) (All-nil HasColours, omega arith) (All-nil IsTable, omega arith)

pub string_keeps : (o : ObjectLists) (chars : List ℕ) (runs : List Run) → AreCodes chars → string_fault o chars runs ≡ None → AreObjects o → AreObjects (string_added o chars runs)
string_keeps o chars runs codes e sound =
    let f = no_string_fault o chars runs e in
    let strings = pushed IsString 4096 o.strings (text_of chars runs o.faces) sound.strings (string_sound o chars runs codes f.short sound) f.few in
    objects (string_added o chars runs) strings (sound.specs, sound.few_specs) (sound.faces, sound.few_faces) (sound.tables, sound.few_tables)

pub spec_keeps : (o : ObjectLists) (spec : Spec) → IsSmallSpec spec → spec_fault o spec ≡ None → AreObjects o → AreObjects (spec_added o spec)
spec_keeps o spec small e sound =
    let specs = pushed IsSmallSpec 4096 o.specs spec sound.specs small (no_spec_fault o spec e).1 in
    objects (spec_added o spec) (sound.strings, sound.few_strings) specs (sound.faces, sound.few_faces) (sound.tables, sound.few_tables)

pub face_keeps : (o : ObjectLists) (face : Attributes) → HasColours face → full_fault 1024 (length o.faces) ≡ None → AreObjects o → AreObjects (face_added o face)
face_keeps o face colours e sound =
    let faces = pushed HasColours 1024 o.faces face sound.faces colours (not_full 1024 (length o.faces) e) in
    objects (face_added o face) (sound.strings, sound.few_strings) (sound.specs, sound.few_specs) faces (sound.tables, sound.few_tables)

pub table_keeps : (o : ObjectLists) (table : TableValue) → IsTable table → full_fault 64 (length o.tables) ≡ None → AreObjects o → AreObjects (table_added o table)
table_keeps o table right e sound =
    let tables = pushed IsTable 64 o.tables table sound.tables right (not_full 64 (length o.tables) e) in
    objects (table_added o table) (sound.strings, sound.few_strings) (sound.specs, sound.few_specs) (sound.faces, sound.few_faces) tables

-- the specs that runs name were made
run_closed : (kind : RunKind) (o : ObjectLists) (run : Run) (runs : List (RunOf ℕ)) → is_numbered kind (length o.faces) (length o.specs) run.value ≡ true → AllByRecursion (λ run. run.value < length o.specs) runs → AllByRecursion (λ run. run.value < length o.specs) (with_run run (spec_by kind run.value) runs)
run_closed Face o run runs e r = r
run_closed Display o run runs e r = (grind (arith, nat_tests), r)

runs_closed : (o : ObjectLists) (runs : List Run) → AllByRecursion (λ run. is_made o run ≡ true) runs → AllByRecursion (λ run. run.value < length o.specs) (spec_runs runs)
runs_closed o [] h = tt
runs_closed o (run ∷ runs) h = run_closed run.kind o run (spec_runs runs) h.0 (runs_closed o runs h.1)

names_more : (a b : ℕ) → a ≤ b → (spec : Spec) → NamesMade a spec → NamesMade b spec
names_more a b p (Text number) h = omega arith
names_more a b p (Width n) h = tt
names_more a b p (Align n) h = tt

spec_named : (o : ObjectLists) (spec : Spec) → is_spec_made o spec ≡ true → NamesMade (length o.strings) spec
spec_named o (Text number) e = grind (arith, nat_tests)
spec_named o (Width n) e = tt
spec_named o (Align n) e = tt

specs_more : (a b : ℕ) → a ≤ b → (text : TextValue) → All (λ run. run.value < a) text.specs → All (λ run. run.value < b) text.specs
specs_more a b p text h = All-weaker (λ run. run.value < a) (λ run. run.value < b) (λ run q. omega arith) text.specs h

pub nothing_closed : IsClosed nothing_made
nothing_closed = record { strings = All-nil (λ text. All (λ run. run.value < 0) text.specs); specs = All-nil (NamesMade 0) }

pub string_closed : (o : ObjectLists) (chars : List ℕ) (runs : List Run) → string_fault o chars runs ≡ None → IsClosed o → IsClosed (string_added o chars runs)
string_closed o chars runs e closed =
    let f = no_string_fault o chars runs e in
    let made = recursion_from_All (λ run. is_made o run ≡ true) runs (AllPass-from_list_all (is_made o) runs f.made) in
    record {
      strings = All-push (λ text. All (λ run. run.value < length o.specs) text.specs) o.strings (text_of chars runs o.faces) closed.strings
          (All-from_recursion (λ run. run.value < length o.specs) (spec_runs runs) (runs_closed o runs made));
      specs = All-weaker (NamesMade (length o.strings)) (NamesMade (length (o.strings ++ text_of chars runs o.faces ∷ [])))
          (names_more (length o.strings) (length (o.strings ++ text_of chars runs o.faces ∷ [])) (pushed_one o.strings (text_of chars runs o.faces))) o.specs closed.specs;
    }

pub spec_closed : (o : ObjectLists) (spec : Spec) → spec_fault o spec ≡ None → IsClosed o → IsClosed (spec_added o spec)
spec_closed o spec e closed = record {
  strings = All-weaker (λ text. All (λ run. run.value < length o.specs) text.specs) (λ text. All (λ run. run.value < length (o.specs ++ spec ∷ [])) text.specs)
      (specs_more (length o.specs) (length (o.specs ++ spec ∷ [])) (pushed_one o.specs spec)) o.strings closed.strings;
  specs = All-push (NamesMade (length o.strings)) o.specs spec closed.specs (spec_named o spec (no_spec_fault o spec e).0);
}

pub face_closed : (o : ObjectLists) (face : Attributes) → IsClosed o → IsClosed (face_added o face)
face_closed o face closed = record { strings = closed.strings; specs = closed.specs }

pub table_closed : (o : ObjectLists) (table : TableValue) → IsClosed o → IsClosed (table_added o table)
table_closed o table closed = record { strings = closed.strings; specs = closed.specs }

-- lists that go on
goes_nowhere : {X : Type 0} (xs : List X) → GoesOn xs xs
goes_nowhere xs = ([], sym (append-nil xs))

goes_one : {X : Type 0} (xs : List X) (x : X) → GoesOn xs (xs ++ x ∷ [])
goes_one xs x = (x ∷ [], refl)

goes_further : {X : Type 0} (xs ys zs : List X) → GoesOn xs ys → GoesOn ys zs → GoesOn xs zs
goes_further xs ys zs a b = (a.0 ++ b.0, rw (b.1, a.1, append_assoc) refl)

pub goes_longer : {X : Type 0} (old new : List X) → GoesOn old new → length old ≤ length new
goes_longer old new (more, is) = omega (arith, ap length is, length-append old more)

pub goes_kept : {X : Type 0} (xs ys : List X) (i : ℕ) → GoesOn xs ys → i < length xs → slice_get ys i ≡ slice_get xs i
goes_kept xs ys i a p = rw a.1 (get-first xs a.0 i p)

pub extends_itself : (o : ObjectLists) → Extends o o
extends_itself o = record { strings = goes_nowhere o.strings; specs = goes_nowhere o.specs; faces = goes_nowhere o.faces; tables = goes_nowhere o.tables }

pub extends_further : (old more new : ObjectLists) → Extends old more → Extends more new → Extends old new
extends_further old more new a b = record {
  strings = goes_further old.strings more.strings new.strings a.strings b.strings;
  specs = goes_further old.specs more.specs new.specs a.specs b.specs;
  faces = goes_further old.faces more.faces new.faces a.faces b.faces;
  tables = goes_further old.tables more.tables new.tables a.tables b.tables;
}

pub string_extends : (o : ObjectLists) (chars : List ℕ) (runs : List Run) → Extends o (string_added o chars runs)
string_extends o chars runs = record { strings = goes_one o.strings (text_of chars runs o.faces); specs = goes_nowhere o.specs; faces = goes_nowhere o.faces; tables = goes_nowhere o.tables }

pub spec_extends : (o : ObjectLists) (spec : Spec) → Extends o (spec_added o spec)
spec_extends o spec = record { strings = goes_nowhere o.strings; specs = goes_one o.specs spec; faces = goes_nowhere o.faces; tables = goes_nowhere o.tables }

pub face_extends : (o : ObjectLists) (face : Attributes) → Extends o (face_added o face)
face_extends o face = record { strings = goes_nowhere o.strings; specs = goes_nowhere o.specs; faces = goes_one o.faces face; tables = goes_nowhere o.tables }

pub table_extends : (o : ObjectLists) (table : TableValue) → Extends o (table_added o table)
table_extends o table = record { strings = goes_nowhere o.strings; specs = goes_nowhere o.specs; faces = goes_nowhere o.faces; tables = goes_one o.tables table }

-- what holds of all that runs give holds of what the last one over a place gives
given_at-each : {T : Type 0} (P : T → Type 0) (runs : List (RunOf T)) (i : ℕ) → All (λ run. P run.value) runs → IfSome (given_at runs i) P
given_at-each P runs i = last-gives P (λ run. run.value) (λ run. is_between run.from run.to i) runs

pub named_specs : (o : ObjectLists) (string i number : ℕ) (text : TextValue) → IsClosed o → slice_get o.strings string ≡ Some text → spec_of text i ≡ Some number → number < length o.specs
named_specs o string i number text closed e f =
    let all = all-at (λ text. All (λ run. run.value < length o.specs) text.specs) o.strings string text closed.strings e in
    MatchOption-at_some ⊤ (λ n. n < length o.specs) number f (given_at-each (λ n. n < length o.specs) text.specs i all)

pub named_strings : (o : ObjectLists) (spec number : ℕ) → IsClosed o → slice_get o.specs spec ≡ Some (Text number) → number < length o.strings
named_strings o spec number closed e = all-at (NamesMade (length o.strings)) o.specs spec (Text number) closed.specs e

-- the face at each place of a sound string
pub string_coloured : (text : TextValue) (i : ℕ) → IsString text → HasColours (face_of text i)
string_coloured text i sound = if-else HasColours (given_at text.faces i) plain (given_at-each HasColours text.faces i sound.faces) plain-coloured

-- where fewer objects were made than may be, there is no fault
pub has_room : (most made : ℕ) → made < most → full_fault most made ≡ None
has_room most made p = let q : nat_le most made ≡ false = grind (arith, nat_tests) in rw q refl

pub string_made : (o : ObjectLists) (chars : List ℕ) (runs : List Run) → list_all (is_made o) runs ≡ true → list_all (is_inside (length chars)) runs ≡ true → length chars ≤ 4096 → length o.strings < 4096 → string_fault o chars runs ≡ None
string_made o chars runs made inside short few =
    let p : nat_lt 4096 (length chars) ≡ false = grind (arith, nat_tests) in
    let q : nat_le 4096 (length o.strings) ≡ false = grind (arith, nat_tests) in
    rw (made, inside, p, q) refl

pub spec_made : (o : ObjectLists) (spec : Spec) → is_spec_made o spec ≡ true → length o.specs < 4096 → spec_fault o spec ≡ None
spec_made o spec made few = let q : nat_le 4096 (length o.specs) ≡ false = grind (arith, nat_tests) in rw (made, q) refl

pub string_right : (o : ObjectLists) (chars : List ℕ) (runs : List Run) → AreCodes chars → string_fault o chars runs ≡ None → AreRight o → AreRight (string_added o chars runs)
string_right o chars runs codes e right = record { sound = string_keeps o chars runs codes e right.sound; closed = string_closed o chars runs e right.closed }

pub spec_right : (o : ObjectLists) (spec : Spec) → IsSmallSpec spec → spec_fault o spec ≡ None → AreRight o → AreRight (spec_added o spec)
spec_right o spec small e right = record { sound = spec_keeps o spec small e right.sound; closed = spec_closed o spec e right.closed }

pub face_right : (o : ObjectLists) (face : Attributes) → HasColours face → full_fault 1024 (length o.faces) ≡ None → AreRight o → AreRight (face_added o face)
face_right o face colours e right = record { sound = face_keeps o face colours e right.sound; closed = face_closed o face right.closed }

pub table_right : (o : ObjectLists) (table : TableValue) → IsTable table → full_fault 64 (length o.tables) ≡ None → AreRight o → AreRight (table_added o table)
table_right o table is e right = record { sound = table_keeps o table is e right.sound; closed = table_closed o table right.closed }

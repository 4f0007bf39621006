-- What one use of a setting does, and what the end of the words finds.
use Rattle.std.proofs.Common.{◌≡◌, ◌∙◌, ◌&&◌, ◌||◌, Bool, true, false, not, List, [], ◌∷◌, ◌++◌, map, Option, None, Some, is_some, option_map, refl, sym, ap}
use Rattle.std.specs.Prelude.{if◌then◌else◌, find, fold, slice_get, option_and_then, codes}
use Rattle.std.specs.List.{list_any}
use Rattle.std.specs.Option.{option_map_or}
use Rattle.std.specs.Str.{bytes_eq}
use Rattle.std.proofs.Math.Bool.{or-false}
use Rattle.std.proofs.lemmas.Bool.{or_parts}
use Rattle.std.proofs.lemmas.List.{map-append, append-nil}
use Rattle.std.proofs.lemmas.List.Folds.{find-append}
use Rattle.clap.proofs.WalkLemmas.{find-map, list_any-map}
use Rattle.clap.specs.Kinds.{or_else}
use Rattle.clap.specs.Facts.{explicit_source}
use Rattle.clap.specs.Walk.{Row, arg_by_long, at_row, default_rows, finished, first_of, has_long, has_row, is_empty, more_values, reading_by, used, with_default}
use Rattle.clap.specs.Takes.{is_given}
use Rattle.clap.specs.Faults.{check_fault, default_fault, defaults_fault, given_default_fault, use_fault}
use Rattle.clap.specs.declared.error.kind.ErrorKind.{ErrorKind}
use Rattle.clap.specs.declared.error.kind.ErrorKind.TheVariants as kind
use Rattle.clap.specs.declared.parser.matches.ValueSource.TheVariants.{CommandLine, DefaultValue}
use Rattle.rd_base.proofs.Lists.{none-found}
use Rattle.rd_words.specs.Words.{Text, Setting, class_file, mirror_file, bracket_file, generate, dump, settings, name_of, named, has_value, Use, is_of, is_true, is_used, is_in_form, is_number, value_of, fits, WordValues, values_by, values_in}
use Rattle.rd_words.specs.Command.{AreWhole, unless, values_of_rows}
use Rattle.rd_words.proofs.OwnWords.{is_number-is}
use Rattle.rd_words.proofs.WordByWord.{ended, held, rule, shape}

-- the row of a use
abbrev pub row : Use → Row
row u = record {
  id = name_of u.0;
  values = u.1 ∷ [];
  count = None;
  source = Some CommandLine;
  reading = reading_by (rule u.0);
}

abbrev pub rows : List Use → List Row
rows us = map row us

pub rows-more : (us : List Use) (u : Use) → rows us ++ row u ∷ [] ≡ rows (us ++ u ∷ [])
rows-more us u = sym (map-append row us (u ∷ []))

has_row-is : (us : List Use) (s : Setting) → has_row (name_of s) (rows us) ≡ is_used s us
has_row-is us s = sym (list_any-map (λ r. bytes_eq r.id (name_of s)) row us)

-- ---- names

pub named-is : (name : Text) → arg_by_long shape.rules name ≡ option_map rule (named name)
named-is name =
    sym (find-map (λ a. not (is_some a.index) && has_long a name) rule settings) ∙ (λ i. option_map rule (find (λ s. or-false (bytes_eq (name_of s) name) i) settings))

-- ---- one use

kinds-fit : (again good : Bool) (p q : ErrorKind) → is_empty (or_else (if again && true then p ∷ [] else []) (or_else (if good then [] else q ∷ []) [])) ≡ (not again && good)
kinds-fit true good p q = refl
kinds-fit false true p q = refl
kinds-fit false false p q = refl

pub value-fits : (us : List Use) (s : Setting) (v : Text) → has_value s ≡ true → is_empty (use_fault false (rule s) (v ∷ []) (rows us)) ≡ fits us (s, v)
value-fits us dump v e = cc
value-fits us generate v e = rw (has_row-is us generate, is_number-is v) (kinds-fit (is_used generate us) (is_number v) kind.ArgumentConflict kind.ValueValidation)
value-fits us s v e = rw (has_row-is us s) (kinds-fit (is_used s us) true kind.ArgumentConflict kind.ValueValidation)

pub flag-fits : (us : List Use) → is_empty (use_fault false (rule dump) [] (rows us)) ≡ fits us (dump, codes "true")
flag-fits us = rw (has_row-is us dump) (kinds-fit (is_used dump us) true kind.ArgumentConflict kind.InvalidValue)

at_row-absent : (id : Text) (change : Row → List Row) (missing rs : List Row) → has_row id rs ≡ false → at_row id change missing rs ≡ rs ++ missing
at_row-absent id change missing [] e = refl
at_row-absent id change missing (r ∷ rs) e =
    let both = or_parts (bytes_eq r.id id) (has_row id rs) e in rw both.0 (ap (λ (l : List Row). r ∷ l) (at_row-absent id change missing rs both.1))

-- a first use of an id adds its row
added : (id : Text) (change : Row → List Row) (new : Row) (rs : List Row) → has_row id rs ≡ false
    → at_row id change (new ∷ []) (at_row id (λ r. []) [] rs) ≡ rs ++ new ∷ []
added id change new rs e =
    ap (λ (l : List Row). at_row id change (new ∷ []) l) (at_row-absent id (λ r. []) [] rs e ∙ append-nil rs)
    ∙ at_row-absent id change (new ∷ []) rs e

is_new : (us : List Use) (s : Setting) (v : Text) → fits us (s, v) ≡ true → has_row (name_of s) (rows us) ≡ false
is_new us s v e = has_row-is us s ∙ go (is_used s us) e
  where
    go : (b : Bool) → (not b && is_in_form (s, v)) ≡ true → b ≡ false
    go true e = cc
    go false e = refl

pub value-used : (us : List Use) (s : Setting) (v : Text) → has_value s ≡ true → fits us (s, v) ≡ true
    → used (rule s) (v ∷ []) (rows us) ≡ rows (us ++ (s, v) ∷ [])
value-used us dump v e f = cc
value-used us s v e f = added (name_of s) (more_values CommandLine (v ∷ [])) (row (s, v)) (rows us) (is_new us s v f) ∙ rows-more us (s, v)

pub flag-used : (us : List Use) → fits us (dump, codes "true") ≡ true → used (rule dump) [] (rows us) ≡ rows (us ++ (dump, codes "true") ∷ [])
flag-used us f = added (name_of dump) (more_values CommandLine (codes "true" ∷ [])) (row (dump, codes "true")) (rows us) (is_new us dump (codes "true") f) ∙ rows-more us (dump, codes "true")

-- ---- the end of the words

-- the row of a flag that was not used
abbrev unused : Row
unused = record { id = name_of dump; values = codes "false" ∷ []; count = None; source = Some DefaultValue; reading = reading_by (rule dump) }

no_default : (rs : List Row) (s : Setting) → has_value s ≡ true → with_default rs (rule s) ≡ rs
no_default rs s e = go s (has_row (name_of s) rs) e
  where
    go : (s : Setting) (b : Bool) → has_value s ≡ true → (if b then rs else default_rows (name_of s) (reading_by (rule s)) (rule s).defaults rs) ≡ rs
    go s true e = refl
    go dump false e = cc
    go s false e = refl

finish-is : (rs : List Row) → fold with_default rs shape.rules ≡ with_default rs (rule dump)
finish-is rs =
    ap (λ (l : List Row). with_default (with_default (with_default (with_default l (rule mirror_file)) (rule bracket_file)) (rule generate)) (rule dump)) (no_default rs class_file refl)
    ∙ (ap (λ (l : List Row). with_default (with_default (with_default l (rule bracket_file)) (rule generate)) (rule dump)) (no_default rs mirror_file refl)
    ∙ (ap (λ (l : List Row). with_default (with_default l (rule generate)) (rule dump)) (no_default rs bracket_file refl)
    ∙ ap (λ (l : List Row). with_default l (rule dump)) (no_default rs generate refl)))

-- the rows at the end, by whether the flag was used
abbrev rows_by : Bool → List Use → List Row
rows_by b us = if b then rows us else rows us ++ unused ∷ []

finished-is : (us : List Use) → fold with_default (rows us) shape.rules ≡ rows_by (is_used dump us) us
finished-is us = finish-is (rows us) ∙ go (has_row (name_of dump) (rows us)) refl
  where
    go : (b : Bool) → has_row (name_of dump) (rows us) ≡ b
        → (if b then rows us else default_rows (name_of dump) (reading_by (rule dump)) (codes "false" ∷ []) (rows us)) ≡ rows_by (is_used dump us) us
    go true e = rw (sym (has_row-is us dump) ∙ e) refl
    go false e = rw (sym (has_row-is us dump) ∙ e) (at_row-absent (name_of dump) (more_values DefaultValue (codes "false" ∷ [])) (unused ∷ []) (rows us) e)

find-more : (p : Row → Bool) (rs : List Row) (r : Row) → p r ≡ false → find p (rs ++ r ∷ []) ≡ find p rs
find-more p [] r e = rw e refl
find-more p (x ∷ xs) r e = ap (λ (o : Option Row). if p x then Some x else o) (find-more p xs r e)

find-last : (p : Row → Bool) (rs : List Row) (r : Row) → p r ≡ true → list_any p rs ≡ false → find p (rs ++ r ∷ []) ≡ Some r
find-last p rs r e none = find-append p rs (r ∷ []) ∙ rw (none-found p rs none, e) refl

-- the row of a setting with a value
row-is : (us : List Use) (b : Bool) (s : Setting) → has_value s ≡ true → find (λ r. bytes_eq r.id (name_of s)) (rows_by b us) ≡ option_map row (find (is_of s) us)
row-is us true s e = sym (find-map (λ r. bytes_eq r.id (name_of s)) row us)
row-is us false s e = find-more (λ r. bytes_eq r.id (name_of s)) (rows us) unused (other s e) ∙ sym (find-map (λ r. bytes_eq r.id (name_of s)) row us)
  where
    other : (s : Setting) → has_value s ≡ true → bytes_eq (name_of dump) (name_of s) ≡ false
    other dump e = cc
    other s e = refl

text-is : (o : Option Use) → option_and_then (λ r. slice_get r.values 0) (option_map row o) ≡ option_map (λ u. u.1) o
text-is None = refl
text-is (Some u) = refl

given-by : (o : Option Use) → option_map_or (λ r. explicit_source r.source) (option_map row o) false ≡ is_some (option_map (λ u. u.1) o)
given-by None = refl
given-by (Some u) = refl

first-is : (us : List Use) (b : Bool) (s : Setting) → has_value s ≡ true → first_of (name_of s) (rows_by b us) ≡ value_of s us
first-is us b s e = ap (λ (o : Option Row). option_and_then (λ r. slice_get r.values 0) o) (row-is us b s e) ∙ text-is (find (is_of s) us)

given-is : (us : List Use) (b : Bool) (s : Setting) → has_value s ≡ true → is_given (name_of s) (rows_by b us) ≡ is_some (value_of s us)
given-is us b s e = ap (λ (o : Option Row). option_map_or (λ r. explicit_source r.source) o false) (row-is us b s e) ∙ given-by (find (is_of s) us)

flag-is : (us : List Use) (b : Bool) → is_used dump us ≡ b → is_true (first_of (name_of dump) (rows_by b us)) ≡ is_true (value_of dump us)
flag-is us true e =
    ap is_true (ap (λ (o : Option Row). option_and_then (λ r. slice_get r.values 0) o) (sym (find-map (λ r. bytes_eq r.id (name_of dump)) row us)) ∙ text-is (find (is_of dump) us))
flag-is us false e =
    ap (λ (o : Option Row). is_true (option_and_then (λ r. slice_get r.values 0) o)) (find-last (λ r. bytes_eq r.id (name_of dump)) (rows us) unused refl (has_row-is us dump ∙ e))
    ∙ sym (ap (λ (o : Option Use). is_true (option_map (λ u. u.1) o)) (none-found (is_of dump) us e))

values-is : (us : List Use) → values_of_rows (rows_by (is_used dump us) us) ≡ values_in us
values-is us =
    rw (
      first-is us (is_used dump us) class_file refl,
      first-is us (is_used dump us) mirror_file refl,
      first-is us (is_used dump us) bracket_file refl,
      first-is us (is_used dump us) generate refl,
      flag-is us (is_used dump us) refl,
    ) refl

-- what no default faults
default-passes : (rs : List Row) (s : Setting) → default_fault rs (rule s) ≡ []
default-passes rs s = go s (has_row (name_of s) rs)
  where
    go : (s : Setting) (b : Bool) → (if b || is_empty (rule s).defaults then [] else given_default_fault (rule s) (rule s).defaults) ≡ []
    go s true = refl
    go dump false = refl
    go s false = refl

defaults-pass : (ss : List Setting) (rs : List Row) → defaults_fault rs (map rule ss) ≡ []
unfolding defaults_fault
defaults-pass [] rs = refl
defaults-pass (s ∷ ss) rs = rw (default-passes rs s) (defaults-pass ss (with_default rs (rule s)))

-- the rows at the end of uses that name both data files
abbrev pub ended_rows : List Use → Option (List Row)
ended_rows us = if is_some (value_of class_file us) && is_some (value_of mirror_file us) then Some (rows_by (is_used dump us) us) else None

-- the class file and the mirror file are there, or there are no rows
checked : (classes mirrors : Option Text) (rs : List Row)
    → unless (if (true && not (is_some classes)) || ((true && not (is_some mirrors)) || (false || (false || (false || false)))) then kind.MissingRequiredArgument ∷ [] else [])
    (Some rs)
    ≡ (if is_some classes && is_some mirrors then Some rs else None)
checked None mirrors rs = refl
checked (Some c) None rs = refl
checked (Some c) (Some m) rs = refl

check-is : (us : List Use) (rs : List Row) → rs ≡ rows_by (is_used dump us) us → unless (check_fault shape rs false) (Some rs) ≡ ended_rows us
check-is us rs e =
    rw (e, given-is us (is_used dump us) class_file refl, given-is us (is_used dump us) mirror_file refl)
    (checked (value_of class_file us) (value_of mirror_file us) (rows_by (is_used dump us) us))

pub ended-is : (us : List Use) → ended (held (rows us) None) ≡ ended_rows us
ended-is us =
    rw (defaults-pass settings (rows us)) (check-is us (finished shape.rules (held (rows us) None)) (finished-is us))

-- rows are whole and say this, or there are none and this is nothing
abbrev pub Say : Option (List Row) → Option WordValues → Type 0
Say (Some rs) said = (values_of_rows rs ≡ said) × AreWhole rs
Say None said = said ≡ None

-- the script that uses name, where they do, has a number that a script may have
abbrev pub HaveNumber : List Use → Type 0
HaveNumber us = option_map_or is_number (value_of generate us) true ≡ true

pub ended-say : (us : List Use) → HaveNumber us → Say (ended_rows us) (values_in us)
ended-say us number =
    let last = is_used dump us in
    go (rows_by last us) (value_of class_file us) (value_of mirror_file us) (values-is us) (first-is us last class_file refl) (first-is us last mirror_file refl)
    (ap (λ (o : Option Text). option_map_or is_number o true) (first-is us last generate refl) ∙ number)
  where
    go : (rs : List Row) (classes mirrors : Option Text)
        → values_of_rows rs ≡ values_by classes mirrors (value_of bracket_file us) (value_of generate us) (is_true (value_of dump us))
        → first_of (name_of class_file) rs ≡ classes → first_of (name_of mirror_file) rs ≡ mirrors → option_map_or is_number (first_of (name_of generate) rs) true ≡ true
        → Say (if is_some classes && is_some mirrors then Some rs else None)
        (values_by classes mirrors (value_of bracket_file us) (value_of generate us) (is_true (value_of dump us)))
    go rs None mirrors said c m n = refl
    go rs (Some x) None said c m n = refl
    go rs (Some x) (Some y) said c m n = (said, (ap is_some c, ap is_some m, n))

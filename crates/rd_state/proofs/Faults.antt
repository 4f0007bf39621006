-- A string is made, or not, of runs in 32 bits as it is of the runs of its op.
use Rattle.std.proofs.Common.{◌≡◌, ℕ, ◌<◌, ◌≤◌, ◌&&◌, Bool, true, false, not, if◌then◌else◌, nat_lt, nat_le, min, Option, None, Some, Ok, List, [], ◌∷◌, length, map, sym, ap, refl, ◌∙◌, arith}
use Rattle.std.proofs.lemmas.Bool.{and_parts, cond-true, leb-true, ltb-true, ltb-false}
use Rattle.std.proofs.lemmas.Bool.Decides.{nat_tests}
use Rattle.std.proofs.lemmas.List.Folds.{list_all-map}
use Rattle.std.specs.List.{list_all}
use Rattle.rd_base.specs.declared.limits.TheConstants.{STRINGS, STRING_CHARACTERS}
use Rattle.rd_objects.specs.Sound.{AreObjects}
use Rattle.rd_objects.specs.Things.{ObjectLists, is_made, is_inside, is_numbered, string_fault, string_added}
use Rattle.rd_objects.specs.declared.fault.ObjectFault.{ObjectFault}
use Rattle.rd_objects.specs.declared.fault.ObjectFault.TheVariants.{TooMany, TooLong, NoObject, OutOfRange}
use Rattle.rd_objects.specs.declared.run.Run.{Run}
use Rattle.rd_objects.specs.declared.run.RunKind.{RunKind}
use Rattle.rd_objects.specs.declared.run.RunKind.TheVariants.{Face, Display}
use Rattle.rd_script.specs.declared.object.OpRun.{OpRun}
use Rattle.rd_state.specs.Held.{capped_run}
use Rattle.rd_state.specs.Making.{unless_fault, object_run, string_making}

no-fault : (a b c d : Bool) → ◌≡◌ {A = Option ObjectFault} (if not a then Some NoObject else (if not b then Some OutOfRange else (if c then Some TooLong else (if d then Some TooMany else None)))) None
    → (a ≡ true) × (b ≡ true) × (c ≡ false)
no-fault false b c d h = absurd (cc)
no-fault true false c d h = absurd (cc)
no-fault true true true d h = absurd (cc)
no-fault true true false d h = (refl, refl, refl)

below : (n value : ℕ) → n ≤ STRINGS → nat_lt (min value STRINGS) n ≡ nat_lt value n
below n value few = grind (arith, nat_tests)

module _ (o : ObjectLists) (sound : AreObjects o) where
  few-faces : length o.faces ≤ STRINGS
  few-faces = let few = sound.few_faces in omega arith

  few-specs : length o.specs ≤ STRINGS
  few-specs = let few = sound.few_specs in omega arith

  made-same : (size : ℕ) (run : OpRun) → is_made o (capped_run size run) ≡ is_made o (object_run run)
  made-same size run = by run.kind where
    by : (kind : RunKind) → is_numbered kind (length o.faces) (length o.specs) (min run.value STRINGS) ≡ is_numbered kind (length o.faces) (length o.specs) run.value
    by Face = below (length o.faces) run.value few-faces
    by Display = below (length o.specs) run.value few-specs

  inside-same : (size : ℕ) (run : OpRun) → is_inside size (capped_run size run) ≡ is_inside size (object_run run)
  inside-same size run = by (is_inside size (object_run run)) refl where
    by : (t : Bool) → is_inside size (object_run run) ≡ t → (nat_le (if t then min run.from 4294967295 else 1) (if t then min run.to 4294967295 else 0) && nat_le (if t then min run.to 4294967295 else 0) size) ≡ t
    by true h =
        let parts = and_parts (nat_le run.from run.to) (nat_le run.to size) h in
        let ordered = leb-true run.from run.to parts.0 in
        let last = leb-true run.to size parts.1 in
        grind (arith, nat_tests)
    by false h = refl

  -- a run that is as it must be has its own numbers
  run-same : (size : ℕ) (run : OpRun) → size ≤ STRING_CHARACTERS → is_made o (object_run run) ≡ true → is_inside size (object_run run) ≡ true → capped_run size run ≡ object_run run
  run-same size run short made inside =
      let parts = and_parts (nat_le run.from run.to) (nat_le run.to size) inside in
      let ordered = leb-true run.from run.to parts.0 in
      let last = leb-true run.to size parts.1 in
      let low : min run.from 4294967295 ≡ run.from = omega arith in
      let high : min run.to 4294967295 ≡ run.to = omega arith in
      let numbered = by run.kind made in
      let value : min run.value STRINGS ≡ run.value = omega (arith, numbered) in
      let from = cond-true (is_inside size (object_run run)) (min run.from 4294967295) 1 inside ∙ low in
      let to = cond-true (is_inside size (object_run run)) (min run.to 4294967295) 0 inside ∙ high in
      λ i. record { from = from i; to = to i; kind = run.kind; value = value i }
    where
      by : (kind : RunKind) → is_numbered kind (length o.faces) (length o.specs) run.value ≡ true → run.value < STRINGS
      by Face h = let less = ltb-true run.value (length o.faces) h in let few = few-faces in omega arith
      by Display h = let less = ltb-true run.value (length o.specs) h in let few = few-specs in omega arith

  runs-same : (size : ℕ) (runs : List OpRun) → size ≤ STRING_CHARACTERS → list_all (λ run. is_made o (object_run run)) runs ≡ true → list_all (λ run. is_inside size (object_run run)) runs ≡ true
      → map (capped_run size) runs ≡ map object_run runs
  runs-same size [] short made inside = refl
  runs-same size (run ∷ runs) short made inside =
      let m = and_parts (is_made o (object_run run)) (list_all (λ r. is_made o (object_run r)) runs) made in
      let n = and_parts (is_inside size (object_run run)) (list_all (λ r. is_inside size (object_run r)) runs) inside in
      let one = run-same size run short m.0 n.0 in
      let rest = runs-same size runs short m.1 n.1 in
      λ i. one i ∷ rest i

  pub string-capped : (text : List ℕ) (runs : List OpRun)
      → string_making o text runs ≡ unless_fault (string_fault o text (map (capped_run (length text)) runs)) (string_added o text (map (capped_run (length text)) runs))
  string-capped text runs =
      by (string_fault o text (map object_run runs)) refl
      ∙ ap (λ (f : Option ObjectFault). unless_fault f (string_added o text (map (capped_run (length text)) runs)))
      (λ i. if not (made i) then Some NoObject else (if not (inside i) then Some OutOfRange else (if nat_lt STRING_CHARACTERS (length text) then Some TooLong else (if nat_le STRINGS (length o.strings) then Some TooMany else None))))
    where
      made-of : list_all (is_made o) (map object_run runs) ≡ list_all (λ run. is_made o (object_run run)) runs
      made-of = list_all-map (is_made o) object_run runs

      inside-of : list_all (is_inside (length text)) (map object_run runs) ≡ list_all (λ run. is_inside (length text) (object_run run)) runs
      inside-of = list_all-map (is_inside (length text)) object_run runs

      made : list_all (is_made o) (map object_run runs) ≡ list_all (is_made o) (map (capped_run (length text)) runs)
      made = made-of ∙ ((λ i. list_all (λ run. sym (made-same (length text) run) i) runs) ∙ sym (list_all-map (is_made o) (capped_run (length text)) runs))

      inside : list_all (is_inside (length text)) (map object_run runs) ≡ list_all (is_inside (length text)) (map (capped_run (length text)) runs)
      inside = inside-of ∙ ((λ i. list_all (λ run. sym (inside-same (length text) run) i) runs) ∙ sym (list_all-map (is_inside (length text)) (capped_run (length text)) runs))

      by : (fault : Option ObjectFault) → string_fault o text (map object_run runs) ≡ fault
          → unless_fault fault (string_added o text (map object_run runs)) ≡ unless_fault fault (string_added o text (map (capped_run (length text)) runs))
      by (Some fault) h = refl
      by None h =
          let none = no-fault (list_all (is_made o) (map object_run runs)) (list_all (is_inside (length text)) (map object_run runs)) (nat_lt STRING_CHARACTERS (length text)) (nat_le STRINGS (length o.strings)) h in
          let short = ltb-false STRING_CHARACTERS (length text) none.2 in
          ap (λ (rs : List Run). Ok (string_added o text rs)) (sym (runs-same (length text) runs short (sym made-of ∙ none.0) (sym inside-of ∙ none.1)))

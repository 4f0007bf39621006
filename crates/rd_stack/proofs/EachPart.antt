-- What holds of each part of a string, by what holds of each of its places.
use Rattle.std.proofs.Common.{◌≡◌, ℕ, ◌-◌, ◌<◌, Bool, true, List, [], ◌∷◌, ◌++◌, length, Option, None, Some, IfSome, arith}
use Rattle.std.specs.Prelude.{if◌then◌else◌, slice_get}
use Rattle.std.specs.List.{flat_map, range_with_len, AllByRecursion}
use Rattle.std.proofs.lemmas.Bool.{cond_both}
use Rattle.std.proofs.lemmas.List.Elements.{All-map, recursion_from_All}
use Rattle.std.proofs.lemmas.List.FromFn.{get_or-range_with_len, length-range_with_len}
use Rattle.rd_base.proofs.Lists.{each-append}
use Rattle.rd_base.specs.Faces.{Attributes}
use Rattle.rd_objects.specs.Texts.{TextValue}
use Rattle.rd_glyphs.specs.Marks.{marks_joined}
use Rattle.rd_glyphs.proofs.Joined.{Grows, marks_joined-all}
use Rattle.rd_items.specs.Pieces.{Scene, same_spec}
use Rattle.rd_levels.specs.declared.turn.Turn.{Turn}
use Rattle.rd_stack.specs.Strings.{place_of, places_from, run_heads, ends_row, part_of, part_joins, shown_by, shown_at, row, row_end, rows_from, string_parts}
use Rattle.rd_stack.specs.declared.part.Place.{Place}
use Rattle.rd_stack.specs.declared.part.Part.{Part}
use Rattle.rd_stack.specs.declared.part.Shown.{Shown}
use Rattle.rd_stack.proofs.Good.{found-by}
use Rattle.rd_stack.proofs.Lists.{each-any, each-flat}

heads-each : (L : Place → Type 0) (before : Option ℕ) (ps : List Place) → AllByRecursion L ps → AllByRecursion L (run_heads before ps)
heads-each L before [] all = tt
heads-each L before (p ∷ ps) all =
    each-append L (if same_spec before p.spec then [] else p ∷ []) (run_heads p.spec ps)
    (cond_both (same_spec before p.spec) [] (p ∷ []) (AllByRecursion L) (λ goes. tt) (λ heads. (all.0, tt))) (heads-each L p.spec ps all.1)

-- the places of a string of which its parts are made
pub places-each : (L : Place → Type 0) (replaced : Bool) (text : TextValue) (under : Attributes)
    → ((i : ℕ) → i < length text.chars → L (place_of replaced text under i)) → AllByRecursion L (run_heads None (places_from replaced text under 0))
places-each L replaced text under place =
    let size : ℕ = length text.chars - 0 in
    let is = range_with_len 0 size in
    let ps = places_from replaced text under 0 in
    heads-each L None ps (recursion_from_All L ps (All-map L (place_of replaced text under) is
    (λ k d inside.
    let many = length-range_with_len 0 size in
    let less : k < size = omega (arith, many, inside) in
    let at = get_or-range_with_len 0 size k d less in
    place _ (omega (arith, at, less)))))

-- P holds of each part, and S of each as it is shown, where L holds of each place
module _ (s : Scene) (base : ℕ) (L : Place → Type 0) (P : Part → Type 0) (S : Shown → Type 0)
    (part : (p : Place) → L p → P (part_of s p))
    (grows : Grows part_joins P)
    (shown : (odd : Bool) (x : Part) → P x → S (record { kind = x.kind; face = x.face; odd = odd }))
    (end : (p : Place) → L p → ends_row p ≡ true → S (row_end p.face)) where
  shown-each : (odd : Bool) (x : Option Part) → IfSome x P → AllByRecursion S (shown_by odd x)
  shown-each odd None holds = tt
  shown-each odd (Some x) holds = (shown odd x holds, tt)

  turned-each : (xs : List Part) (turns : List Turn) → AllByRecursion P xs → AllByRecursion S (flat_map (shown_at xs) turns)
  turned-each xs turns all =
      each-flat (shown_at xs) (λ (t : Turn). Unit {0}) S (λ t any. shown-each t.odd (slice_get xs t.index) (found-by P xs t.index all)) turns (each-any turns)

  row-each : (xs : List Part) → AllByRecursion P xs → AllByRecursion S (row s base xs)
  row-each xs all = turned-each (marks_joined part_joins xs) _ (marks_joined-all part_joins P grows xs all)

  rows-each : (xs : List Part) (ps : List Place) → AllByRecursion P xs → AllByRecursion L ps → AllByRecursion S (rows_from s base xs ps)
  rows-each xs [] all places = row-each xs all
  rows-each xs (p ∷ ps) all places =
      let next : List Shown = row_end p.face ∷ rows_from s base [] ps in
      let longer = xs ++ part_of s p ∷ [] in
      cond_both (ends_row p) (row s base xs ++ next) (rows_from s base longer ps) (AllByRecursion S)
      (λ ends. each-append S (row s base xs) next (row-each xs all) (end p places.0 ends, rows-each [] ps tt places.1))
      (λ goes. rows-each longer ps (each-append P xs (part_of s p ∷ []) all (part p places.0, tt)) places.1)

  pub string-each : (replaced : Bool) (text : TextValue) (under : Attributes)
      → ((i : ℕ) → i < length text.chars → L (place_of replaced text under i)) → AllByRecursion S (string_parts s base replaced text under)
  string-each replaced text under place = rows-each [] (run_heads None (places_from replaced text under 0)) tt (places-each L replaced text under place)

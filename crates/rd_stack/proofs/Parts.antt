-- The parts of sound strings.
use Rattle.std.proofs.Common.{◌≡◌, ℕ, suc, ◌+◌, ◌-◌, ◌≤◌, Bool, true, false, IsTrue, List, [], ◌∷◌, ◌++◌, length, map, Option, None, Some, IfSome, refl, subst, ◌∙◌, length-append, arith}
use Rattle.std.specs.Prelude.{if◌then◌else◌, slice_get, option_map}
use Rattle.std.specs.List.{flat_map, range_with_len, AllByRecursion}
use Rattle.std.proofs.lemmas.List.{length-map}
use Rattle.std.proofs.lemmas.List.FromFn.{length-range_with_len}
use Rattle.std.proofs.lemmas.Bool.{cond_both}
use Rattle.rd_base.proofs.Choices.{if-else}
use Rattle.rd_base.proofs.Lists.{all-read}
use Rattle.rd_base.specs.Chars.{is_code}
use Rattle.rd_base.specs.Faces.{Attributes}
use Rattle.rd_base.specs.Glyphs.{IsMeasured}
use Rattle.rd_base.specs.declared.cell.Glyph.{Glyph}
use Rattle.rd_base.specs.declared.limits.TheConstants.{STRING_CHARACTERS}
use Rattle.rd_objects.specs.Sound.{AreObjects, IsString}
use Rattle.rd_objects.specs.Texts.{TextValue}
use Rattle.rd_objects.specs.Things.{ObjectLists, IsSmallSpec}
use Rattle.rd_objects.specs.declared.run.Spec.{Spec}
use Rattle.rd_objects.specs.declared.run.Spec.TheVariants.{Text, Width, Align}
use Rattle.rd_glyphs.specs.MarkRoles.{base_of, mark_of, IsMeasuredRole, MarkLaws}
use Rattle.rd_glyphs.specs.Marks.{marks_joined}
use Rattle.rd_glyphs.proofs.Joined.{Grows}
use Rattle.rd_items.specs.Pieces.{Scene, spec_in, same_spec, IsMeasuredKind}
use Rattle.rd_items.specs.declared.item.ItemKind.{ItemKind}
use Rattle.rd_levels.specs.Turns.{turns_of}
use Rattle.rd_levels.specs.declared.turn.Turn.{Turn}
use Rattle.rd_levels.proofs.Turns.{turns-count}
use Rattle.rd_stack.specs.Lines.{IsKind, IsCodedKind}
use Rattle.rd_stack.specs.Strings.{place_of, places_from, run_heads, ends_row, spec_kind, part_by, part_of, part_joins, shown_by, shown_at, part_class, part_code, row, row_end, rows_from, string_parts}
use Rattle.rd_stack.specs.declared.part.Place.{Place}
use Rattle.rd_stack.specs.declared.part.Part.{Part}
use Rattle.rd_stack.specs.declared.part.Shown.{Shown}
use Rattle.rd_stack.proofs.EachPart.{string-each}
use Rattle.rd_stack.proofs.Good.{found}
use Rattle.rd_stack.proofs.Joined.{marks_joined-few}

-- what an item of a line of sound objects shows, or a part of a sound string
abbrev pub IsFitKind : ItemKind → Type 0
IsFitKind k = IsMeasuredKind k × IsCodedKind k × IsKind (λ c. Unit {0}) IsSmallSpec k

abbrev pub IsFitShown : Shown → Type 0
IsFitShown x = IsFitKind x.kind

abbrev IsFitPart : Part → Type 0
IsFitPart x = IsFitKind x.kind × IsMeasuredRole x.role

abbrev IsFitPlace : Place → Type 0
IsFitPlace p = IsTrue (is_code p.ch)

-- ---- what is found of sound objects

pub spec-small : (o : ObjectLists) → AreObjects o → (number : ℕ) → IsSmallSpec (spec_in o number)
spec-small o sound number = if-else IsSmallSpec (slice_get o.specs number) (Width 0) (found IsSmallSpec o.specs number sound.specs) (omega arith)

pub string-at : (o : ObjectLists) → AreObjects o → (number : ℕ) → IfSome (slice_get o.strings number) (λ t. IsString t)
string-at o sound number = found (λ (t : TextValue). IsString t) o.strings number sound.strings

-- ---- what the parts are

spec-fit : (spec : Spec) → IsSmallSpec spec → IsFitKind (spec_kind spec)
spec-fit (Text n) small = (tt, tt, tt)
spec-fit (Width n) small = (tt, tt, small)
spec-fit (Align n) small = (tt, tt, small)

module _ (laws : MarkLaws) (s : Scene) (base : ℕ) (sound : AreObjects s.objects) where
  part-by-fit : (spec : Option Spec) (p : Place) → IfSome spec IsSmallSpec → IsFitPlace p → IsFitPart (part_by s spec p)
  part-by-fit (Some spec) p small code = (spec-fit spec small, tt)
  part-by-fit None p small code = ((tt, code, tt), laws.role s.parts p.ch code)

  named-small : (number : Option ℕ) → IfSome (option_map (spec_in s.objects) number) IsSmallSpec
  named-small None = tt
  named-small (Some n) = spec-small s.objects sound n

  grows : Grows part_joins IsFitPart
  grows held next glyph these those e =
      let joins = laws.joined (base_of held.role) (mark_of next.role) (laws.base held.role these.1) (laws.mark next.role those.1) in
      let measured : IsMeasured glyph = subst (λ (m : Option Glyph). IfSome m (λ (g : Glyph). IsMeasured g)) e joins in
      ((measured, tt, tt), measured)

  -- the parts of a sound string are fit
  pub string-fit : (replaced : Bool) (text : TextValue) (under : Attributes) → IsString text → AllByRecursion IsFitShown (string_parts s base replaced text under)
  string-fit replaced text under is =
      string-each s base IsFitPlace IsFitPart IsFitShown (λ p code. part-by-fit (option_map (spec_in s.objects) p.spec) p (named-small p.spec) code) grows (λ odd x fit. fit.0) (λ p code ends. (tt, tt, tt))
      replaced text under (λ i less. all-read (λ c. IsTrue (is_code c)) text.chars i 0 is.chars refl)

-- ---- how many there are

heads-few : (before : Option ℕ) (ps : List Place) → length (run_heads before ps) ≤ length ps
heads-few before [] = omega arith
heads-few before (p ∷ ps) = by-spec (same_spec before p.spec) (heads-few p.spec ps) where
  by-spec : (same : Bool) → length (run_heads p.spec ps) ≤ length ps → length ((if same then [] else p ∷ []) ++ run_heads p.spec ps) ≤ suc (length ps)
  by-spec true less = omega (arith, less)
  by-spec false less = omega (arith, less)

shown-few : (odd : Bool) (x : Option Part) → length (shown_by odd x) ≤ 1
shown-few odd None = omega arith
shown-few odd (Some x) = omega arith

turned-few : (xs : List Part) (turns : List Turn) → length (flat_map (shown_at xs) turns) ≤ length turns
turned-few xs [] = omega arith
turned-few xs (t ∷ ts) =
    let sum = length-append (shown_at xs t) (flat_map (shown_at xs) ts) in
    let one = shown-few t.odd (slice_get xs t.index) in
    let rest = turned-few xs ts in
    omega (arith, sum, one, rest)

module _ (s : Scene) (base : ℕ) where
  row-few : (xs : List Part) → length (row s base xs) ≤ length xs
  row-few xs =
      let ys = marks_joined part_joins xs in
      let turns = turns_of s.brackets s.parts.settings.reorder base (map part_class ys) (map part_code ys) in
      let count : length turns ≡ length ys = turns-count s.brackets s.parts.settings.reorder base (map part_class ys) (map part_code ys) ∙ length-map ys part_class in
      let less = marks_joined-few part_joins xs in
      let shown = turned-few ys turns in
      omega (arith, count, less, shown)

  rows-few : (xs : List Part) (ps : List Place) → length (rows_from s base xs ps) ≤ length xs + length ps
  rows-few xs [] = let own = row-few xs in omega (arith, own)
  rows-few xs (p ∷ ps) =
      let next : List Shown = row_end p.face ∷ rows_from s base [] ps in
      let longer = xs ++ part_of s p ∷ [] in
      let sum = length-append (row s base xs) next in
      let size = length-append xs (part_of s p ∷ []) in
      let own = row-few xs in
      let behind = rows-few [] ps in
      let rest = rows-few longer ps in
      cond_both (ends_row p) (row s base xs ++ next) (rows_from s base longer ps) (λ ys. length ys ≤ length xs + suc (length ps))
      (λ ends. omega (arith, sum, own, behind)) (λ goes. omega (arith, size, rest))

  -- the parts of a sound string are no more than its characters
  pub string-few : (replaced : Bool) (text : TextValue) (under : Attributes) → IsString text → length (string_parts s base replaced text under) ≤ STRING_CHARACTERS
  string-few replaced text under is =
      let size = length text.chars - 0 in
      let ps = places_from replaced text under 0 in
      let count : length ps ≡ size = length-map (range_with_len 0 size) (place_of replaced text under) ∙ length-range_with_len 0 size in
      let heads = heads-few None ps in
      let parts = rows-few [] (run_heads None ps) in
      let few = is.few in
      omega (arith, count, heads, parts, few)

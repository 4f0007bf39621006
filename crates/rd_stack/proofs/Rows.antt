-- The rows of a string, place by place.
use Rattle.std.proofs.Common.{◌≡◌, ℕ, ◌+◌, ◌<◌, Bool, true, List, [], ◌∷◌, ◌++◌, length, Option, None, Some, ap, sym, refl, ◌∙◌, arith}
use Rattle.std.specs.Prelude.{not, is_some, ◌&&◌, if◌then◌else◌, nat_lt, map}
use Rattle.std.proofs.lemmas.Bool.Decides.{nat_tests}
use Rattle.rd_base.specs.Faces.{Attributes}
use Rattle.rd_text.specs.Texts.{is_newline}
use Rattle.rd_objects.specs.Texts.{TextValue}
use Rattle.rd_items.specs.Pieces.{Scene, same_spec}
use Rattle.rd_stack.specs.Strings.{place_of, places_from, run_heads, ends_row, part_of, row, row_end, rows_from, shown_from, behind_row}
use Rattle.rd_stack.specs.declared.part.Place.{Place}
use Rattle.rd_stack.specs.declared.part.Part.{Part}
use Rattle.rd_stack.specs.declared.part.Shown.{Shown}
use Rattle.rd_stack.proofs.Lists.{range-next}

-- nothing goes on a place without a spec
bare-heads : (before : Option ℕ) (p : Place) (ps : List Place) → p.spec ≡ None → run_heads before (p ∷ ps) ≡ p ∷ run_heads None ps
bare-heads before p ps bare = ap (λ spec. (if same_spec before spec then [] else p ∷ []) ++ run_heads spec ps) bare ∙ by before where
  by : (before : Option ℕ) → (if same_spec before None then [] else p ∷ []) ++ run_heads None ps ≡ p ∷ run_heads None ps
  by None = refl
  by (Some n) = refl

bare-end : (spec : Option ℕ) (newline : Bool) → (not (is_some spec) && newline) ≡ true → spec ≡ None
bare-end None newline ends = refl
bare-end (Some n) newline ends = absurd (grind arith)

-- a newline ends the row
row-ends : (s : Scene) (base : ℕ) (parts : List Part) (before : Option ℕ) (p : Place) (ps : List Place) → ends_row p ≡ true
    → rows_from s base parts (run_heads before (p ∷ ps)) ≡ row s base parts ++ row_end p.face ∷ rows_from s base [] (run_heads None ps)
row-ends s base parts before p ps ends =
    let rest = run_heads None ps in
    ap (rows_from s base parts) (bare-heads before p ps (bare-end p.spec (is_newline p.ch) ends))
    ∙ ap (λ t. if t then row s base parts ++ row_end p.face ∷ rows_from s base [] rest else rows_from s base (parts ++ part_of s p ∷ []) rest) ends

pub places-next : (replaced : Bool) (text : TextValue) (under : Attributes) (i n : ℕ) → n ≡ length text.chars → i < n → places_from replaced text under i ≡ place_of replaced text under i ∷ places_from replaced text under (i + 1)
places-next replaced text under i n size inside = ap (map (place_of replaced text under)) (range-next i (length text.chars) n size inside)

-- where a string is read on from its place p: the rows from there are `whole`
module _ (s : Scene) (base : ℕ) (replaced : Bool) (text : TextValue) (under : Attributes) (i n : ℕ) (parts : List Part) (before : Option ℕ)
    (p : Place) (whole : List Shown) (size : n ≡ length text.chars) (inside : i < n) (here : p ≡ place_of replaced text under i)
    (all : rows_from s base parts (run_heads before (places_from replaced text under i)) ≡ whole) where
  abbrev rest : List Place
  rest = places_from replaced text under (i + 1)

  read : rows_from s base parts (run_heads before (place_of replaced text under i ∷ rest)) ≡ whole
  read = sym (ap (λ ps. rows_from s base parts (run_heads before ps)) (places-next replaced text under i n size inside)) ∙ all

  -- the row that was read up to a newline, and what is behind it
  pub row-ended : ends_row p ≡ true → row s base parts ++ behind_row s base replaced text under i ≡ whole
  row-ended ends =
      let q = place_of replaced text under i in
      let before_end : nat_lt i (length text.chars) ≡ true = grind (arith, nat_tests) in
      ap (λ t. row s base parts ++ (if t then row_end q.face ∷ shown_from s base replaced text under (i + 1) else [])) before_end
      ∙ sym (row-ends s base parts before q rest (ap ends_row (sym here) ∙ ends))
      ∙ read

  -- one more place of the row
  pub row-goes : (more : List Part) (after : Option ℕ) → after ≡ p.spec
      → ((ps : List Place) → rows_from s base more (run_heads p.spec ps) ≡ rows_from s base parts (run_heads before (p ∷ ps)))
      → rows_from s base more (run_heads after rest) ≡ whole
  row-goes more after same step =
      ap (λ spec. rows_from s base more (run_heads spec rest)) same
      ∙ step rest
      ∙ ap (λ q. rows_from s base parts (run_heads before (q ∷ rest))) here
      ∙ read

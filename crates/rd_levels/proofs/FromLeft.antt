-- A line at base 0 without anything that is read from the right has all levels 0.
use Rattle.std.proofs.Common.{◌≡◌, ℕ, zero, suc, ◌+◌, ◌<◌, ◌≤◌, ◌==◌, ◌⊎◌, inl, inr, Bool, true, false, ◌&&◌, List, [], ◌∷◌, length, get_or, drop, set, replicate, map, refl, sym, ap, ap₂, subst, ◌∙◌, append-nil, arith}
use Rattle.std.specs.List.{AllByRecursion as Each}
use Rattle.std.specs.Prelude.{if◌then◌else◌, max, is_none, slice_index}
use Rattle.std.proofs.lemmas.Bool.{and_parts, cases_lt, cond_both}
use Rattle.std.proofs.lemmas.List.{length-map, length-replicate, get_or-set_same, length-set, get_or_past}
use Rattle.std.proofs.lemmas.List.Elements.{All-replicate}
use Rattle.std.proofs.lemmas.Option.{get_or_from_slice_get}
use Rattle.rd_base.proofs.Choices.{either}
use Rattle.rd_base.proofs.Lists.{all-read, drop-cons, each-weaker, read-or}
use Rattle.rd_base.specs.Classes.{x9_is_removed, is_initiator, direction_of}
use Rattle.rd_base.specs.declared.class.Class.{Class}
use Rattle.rd_base.specs.declared.class.Class.TheVariants.{L, BN, LRE, LRO, RLE, RLO, PDF, LRI, RLI, FSI, PDI}
use Rattle.rd_base.specs.declared.line.Seq.{Seq}
use Rattle.rd_ucd.specs.declared.spans.BracketEntry.{BracketEntry}
use Rattle.rd_explicit.specs.Explicit.{x1_start, after, given, explicit_from, levels_of, types_of}
use Rattle.rd_explicit.specs.Sequences.{Item, bd9_partner, first_level, item_at, x9_items, has_level, with_item, bd7_level_runs, bd13_joined_runs, x10_sos, x10_eos, sequence, sequences_of}
use Rattle.rd_explicit.specs.declared.state.State.{State}
use Rattle.rd_explicit.specs.declared.state.Given.{Given}
use Rattle.rd_resolve.specs.Places.{types_at, levels_at, put_at}
use Rattle.rd_resolve.specs.Weak.{weak_types}
use Rattle.rd_resolve.specs.Neutral.{neutral_types}
use Rattle.rd_resolve.specs.Implicit.{i1_even_levels, i1_i2, kept, l1_resets, l1, implicit_levels}
use Rattle.rd_brackets.specs.Sides.{n0_bracket_types, codes_at, embedding_of}
use Rattle.rd_levels.specs.Levels.{resolved_in, x10_resolved, line_levels, is_leveled, are_leveled}
use Rattle.rd_levels.proofs.Calm.{IsItem, IsCalm, Stay, weak-calm, n0_bracket_types-calm, neutral-left}

abbrev IsLeveled : Class → Type 0
IsLeveled c = is_leveled c ≡ true

-- the explicit levels are 0, and the types the classes
after-leveled : (c : Class) (cs : List Class) → IsLeveled c → after (x1_start 0) c cs ≡ x1_start 0
after-leveled RLE cs h = absurd (cc)
after-leveled LRE cs h = absurd (cc)
after-leveled RLO cs h = absurd (cc)
after-leveled LRO cs h = absurd (cc)
after-leveled RLI cs h = absurd (cc)
after-leveled LRI cs h = absurd (cc)
after-leveled FSI cs h = absurd (cc)
after-leveled PDI cs h = absurd (cc)
after-leveled PDF cs h = absurd (cc)
after-leveled c cs h = refl

given-leveled : (c : Class) (cs : List Class) → IsLeveled c → let g : Given = record { level = 0; class = c } in given 0 (x1_start 0) c cs ≡ g
given-leveled PDI cs h = absurd (cc)
given-leveled c cs h = refl

abbrev zero_givens : List Class → List Given
zero_givens cs = map (λ c. record { level = 0; class = c }) cs

explicit-leveled : (s : State) (cs : List Class) → s ≡ x1_start 0 → are_leveled cs ≡ true → explicit_from 0 s cs ≡ zero_givens cs
explicit-leveled s [] is h = refl
explicit-leveled s (c ∷ cs) is h =
    let parts = and_parts (is_leveled c) (are_leveled cs) h in
    ap₂ (λ (g : Given) (gs : List Given). g ∷ gs) (ap (λ t. given 0 t c cs) is ∙ given-leveled c cs parts.0)
    (explicit-leveled (after s c cs) cs (ap (λ t. after t c cs) is ∙ after-leveled c cs parts.0) parts.1)

givens-levels : (cs : List Class) → levels_of (zero_givens cs) ≡ replicate (length cs) 0
givens-levels [] = refl
givens-levels (c ∷ cs) = ap (λ l. 0 ∷ l) (givens-levels cs)

givens-types : (cs : List Class) → types_of (zero_givens cs) ≡ cs
givens-types [] = refl
givens-types (c ∷ cs) = ap (λ l. c ∷ l) (givens-types cs)

-- all items have level 0, and so has what stands beside them
record IsZero (x : Item) : Type 0 where
  level : x.level ≡ 0
  before : x.before ≡ 0
  after : x.after ≡ 0

first-zero : (xs : List Item) → Each IsZero xs → first_level 0 xs ≡ 0
first-zero [] zs = refl
first-zero (x ∷ xs) zs = zs.0.level

item-zero : (i : ℕ) (c : Class) (cs : List Class) (xs : List Item) → Each IsZero xs → IsZero (item_at 0 0 i c cs 0 xs)
item-zero i c cs xs zs = record {
  level = refl;
  before = refl;
  after = either (λ n. n ≡ 0) (is_initiator c && is_none (bd9_partner i c cs)) 0 (first_level 0 xs) refl (first-zero xs zs);
}

abbrev all_items : ℕ → List Class → List Item
all_items i cs = x9_items 0 0 i cs (replicate (length cs) 0)

x9_items-zero : (i : ℕ) (cs : List Class) → Each IsZero (all_items i cs)
x9_items-zero i [] = tt
x9_items-zero i (c ∷ cs) =
    let rest = x9_items-zero (i + 1) cs in
    cond_both (x9_is_removed c) (all_items (i + 1) cs) (item_at 0 0 i c cs 0 (all_items (i + 1) cs) ∷ all_items (i + 1) cs) (Each IsZero)
    (λ _. rest) (λ _. (item-zero i c cs (all_items (i + 1) cs) rest, rest))

-- items of level zero are one level run and one sequence
has-zero : (x y : Item) (ys : List Item) → IsZero x → IsZero y → has_level x.level (y ∷ ys) ≡ true
has-zero x y ys p q = ap₂ (λ (m n : ℕ). m == n) p.level q.level

one-run : (x : Item) (xs : List Item) → Each IsZero (x ∷ xs) → bd7_level_runs (x ∷ xs) ≡ (x ∷ xs) ∷ []
one-run x [] zs = refl
one-run x (y ∷ ys) zs =
    ap (with_item x) (one-run y ys zs.1)
    ∙ ap (λ b. if b then (x ∷ y ∷ ys) ∷ [] else (x ∷ []) ∷ (y ∷ ys) ∷ []) (has-zero x y ys zs.0 zs.1.0)

one-sequence : (x : Item) (xs : List Item) → Each IsZero (x ∷ xs) → map sequence (bd13_joined_runs (bd7_level_runs (x ∷ xs))) ≡ sequence (x ∷ xs) ∷ []
one-sequence x xs zs =
    ap (λ rs. map sequence (bd13_joined_runs rs)) (one-run x xs zs) ∙ ap (λ s. sequence s ∷ []) (append-nil (x ∷ xs))

x10_sos-left : (x : Item) (xs : List Item) → IsZero x → x10_sos (x ∷ xs) ≡ L
x10_sos-left x xs z = ap₂ (λ (m n : ℕ). direction_of (max m n)) z.level z.before

x10_eos-left : (xs : List Item) → Each IsZero xs → x10_eos xs ≡ L
x10_eos-left [] zs = refl
x10_eos-left (x ∷ []) zs = ap₂ (λ (m n : ℕ). direction_of (max m n)) zs.0.level zs.0.after
x10_eos-left (x ∷ y ∷ ys) zs = x10_eos-left (y ∷ ys) zs.1

-- the index of each class that X9 leaves is one of an item, and the others are BN
abbrev In : ℕ → List ℕ → Type 0
In i [] = ⊥
In i (j ∷ js) = (i ≡ j) ⊎ In i js

abbrev indexes : List Item → List ℕ
indexes xs = map (λ (x : Item). x.index) xs

abbrev IsFlat : Class → Type 0
IsFlat t = i1_even_levels 0 t ≡ 0

abbrev Covered : List ℕ → ℕ → Class → Type 0
Covered is i t = IsFlat t ⊎ In i is

further : (is : List ℕ) (j i k : ℕ) (t : Class) → i ≡ k → Covered is i t → Covered (j ∷ is) k t
further is j i k t e (inl flat) = inl flat
further is j i k t e (inr member) = inr (inr (subst (λ m. In m is) e member))

same-place : (is : List ℕ) (i k : ℕ) (t : Class) → i ≡ k → Covered is i t → Covered is k t
same-place is i k t e h = subst (λ m. Covered is m t) e h

covered : (i : ℕ) (cs : List Class) → are_leveled cs ≡ true → (j : ℕ) → j < length cs → Covered (indexes (all_items i cs)) (i + j) (get_or cs j L)
covered i [] h j inside = absurd (omega arith)
covered i (BN ∷ cs) h zero inside = inl refl
covered i (BN ∷ cs) h (suc j) inside =
    let e : i + 1 + j ≡ i + suc j = omega arith in
    same-place (indexes (all_items (i + 1) cs)) (i + 1 + j) (i + suc j) (get_or cs j L) e (covered (i + 1) cs h j (omega arith))
covered i (LRE ∷ cs) h j inside = absurd (cc)
covered i (RLE ∷ cs) h j inside = absurd (cc)
covered i (LRO ∷ cs) h j inside = absurd (cc)
covered i (RLO ∷ cs) h j inside = absurd (cc)
covered i (PDF ∷ cs) h j inside = absurd (cc)
covered i (c ∷ cs) h zero inside = let e : i + 0 ≡ i = omega arith in inr (inl e)
covered i (c ∷ cs) h (suc j) inside =
    let e : i + 1 + j ≡ i + suc j = omega arith in
    let parts = and_parts (is_leveled c) (are_leveled cs) h in
    further (indexes (all_items (i + 1) cs)) i (i + 1 + j) (i + suc j) (get_or cs j L) e (covered (i + 1) cs parts.1 j (omega arith))

leveled-item : (c : Class) → IsLeveled c → x9_is_removed c ≡ false → IsItem c
leveled-item BN h other = absurd (cc)
leveled-item c h other = h

-- the classes of the items
module _ (whole : List Class) where
  abbrev IsItemAt : Item → Type 0
  IsItemAt x = IsItem (get_or whole x.index L)

  items-at : (i : ℕ) (cs : List Class) → drop i whole ≡ cs → are_leveled cs ≡ true → Each IsItemAt (all_items i cs)
  items-at i [] at h = tt
  items-at i (c ∷ cs) at h =
      let parts = and_parts (is_leveled c) (are_leveled cs) h in
      let step = drop-cons whole i c cs at in
      let rest = items-at (i + 1) cs step.1 parts.1 in
      cond_both (x9_is_removed c) (all_items (i + 1) cs) (item_at 0 0 i c cs 0 (all_items (i + 1) cs) ∷ all_items (i + 1) cs) (Each IsItemAt)
      (λ _. rest) (λ other. (subst IsItem (sym (get_or_from_slice_get whole i c L step.0)) (leveled-item c parts.0 other), rest))

  types-item : (xs : List Item) → Each IsItemAt xs → Each IsItem (types_at (indexes xs) whole)
  types-item [] qs = tt
  types-item (x ∷ xs) qs = (qs.0, types-item xs qs.1)

-- what is put at indexes stands there
module _ (P : Class → Type 0) (default : P L) where
  set-gives : (ts : List Class) (i : ℕ) (v : Class) (j : ℕ) → P v → j ≡ i → P (get_or (set ts i v) j L)
  set-gives ts i v j p same = elim (cases_lt i (length ts)) [
    | inl inside ↦ subst P (sym (ap (λ k. get_or (set ts i v) k L) same ∙ get_or-set_same ts i v L inside)) p
    | inr past ↦ let size = length-set ts i v in subst P (sym (get_or_past (set ts i v) j L (omega arith))) default
  ]

  put-covers : (is : List ℕ) (vs ts : List Class) → length is ≤ length vs → Each P vs → (j : ℕ) → P (get_or ts j L) ⊎ In j is → P (get_or (put_at is vs ts) j L)
  put-covers [] vs ts few ps j (inl here) = here
  put-covers [] vs ts few ps j (inr none) = absurd none
  put-covers (i ∷ is) [] ts few ps j known = absurd (omega arith)
  put-covers (i ∷ is) (v ∷ vs) ts few ps j (inl here) = put-covers is vs (set ts i v) (omega arith) ps.1 j (inl (read-or P ts i j v L (λ _. ps.0) here))
  put-covers (i ∷ is) (v ∷ vs) ts few ps j (inr (inl same)) = put-covers is vs (set ts i v) (omega arith) ps.1 j (inl (set-gives ts i v j ps.0 same))
  put-covers (i ∷ is) (v ∷ vs) ts few ps j (inr (inr member)) = put-covers is vs (set ts i v) (omega arith) ps.1 j (inr member)

  -- a write at indexes of a list leaves what is known of the types at all places but those of the list
  put-stays : (js is : List ℕ) (vs ts : List Class) → Each (λ i. In i js) is → (j : ℕ) → P (get_or ts j L) ⊎ In j js → P (get_or (put_at is vs ts) j L) ⊎ In j js
  put-stays js [] vs ts members j known = known
  put-stays js (i ∷ is) [] ts members j known = known
  put-stays js (i ∷ is) (v ∷ vs) ts members j known = put-stays js is vs (set ts i v) members.1 j
      (read-or (λ c. P c ⊎ In j js) ts i j v L (λ same. inr (subst (λ m. In m js) (sym same) members.0)) known)

  types-each : (is : List ℕ) (ts : List Class) → ((j : ℕ) → In j is → P (get_or ts j L)) → Each P (types_at is ts)
  types-each [] ts known = tt
  types-each (i ∷ is) ts known = (known i (inl refl), types-each is ts (λ j member. known j (inr member)))

  each-place : (ts : List Class) → ((j : ℕ) → P (get_or ts j L)) → Each P ts
  each-place [] known = tt
  each-place (t ∷ ts) known = (known 0, each-place ts (λ j. known (suc j)))

members : (is : List ℕ) → Each (λ i. In i is) is
members [] = tt
members (i ∷ is) = (inl refl, each-weaker (λ j. In j is) (λ j. In j (i ∷ is)) (λ j. inr) is (members is))

pub zero-at : (n i : ℕ) → slice_index (replicate n 0) i ≡ 0
zero-at n i = all-read (λ l. l ≡ 0) (replicate n 0) i 0 (All-replicate (λ l. l ≡ 0) n 0 refl) refl

flat-left : (n : ℕ) → Each IsFlat (replicate n L)
flat-left zero = tt
flat-left (suc n) = (refl, flat-left n)

-- the types of the line once its one sequence is resolved
module _ (entries : List BracketEntry) (cs : List Class) (codes : List ℕ) (leveled : are_leveled cs ≡ true) where
  abbrev zeros : List ℕ
  zeros = replicate (length cs) 0

  module _ (x : Item) (xs : List Item) (whole : all_items 0 cs ≡ x ∷ xs) where
    abbrev is : List ℕ
    is = indexes (x ∷ xs)

    abbrev s : Seq
    s = sequence (x ∷ xs)

    are-zero : Each IsZero (x ∷ xs)
    are-zero = subst (Each IsZero) whole (x9_items-zero 0 cs)

    sos-left : s.sos ≡ L
    sos-left = x10_sos-left x xs are-zero.0

    eos-left : s.eos ≡ L
    eos-left = x10_eos-left (x ∷ xs) are-zero

    abbrev after_weak : List Class
    after_weak = weak_types s.sos (types_at is cs)

    weak-is-calm : Stay IsCalm (types_at is cs) after_weak
    weak-is-calm =
        subst (λ t. Stay IsCalm (types_at is cs) (weak_types t (types_at is cs))) (sym sos-left)
        (weak-calm (types_at is cs) (types-item cs (x ∷ xs) (subst (Each (IsItemAt cs)) whole (items-at cs 0 cs refl leveled))))

    abbrev weak_line : List Class
    weak_line = put_at is after_weak cs

    types-size : (ts : List Class) → length (types_at is ts) ≡ length is
    types-size ts = length-map is (λ i. get_or ts i L)

    put-calm : (ts new : List Class) → Stay IsCalm (types_at is ts) new → Each IsCalm (types_at is (put_at is new ts))
    put-calm ts new calm =
        let size = calm.0 in
        let count = types-size ts in
        types-each IsCalm refl is (put_at is new ts) (λ j member. put-covers IsCalm refl is new ts (omega arith) calm.1 j (inr member))

    embedding-left : embedding_of is zeros ≡ L
    embedding-left = ap direction_of (zero-at (length cs) x.index)

    abbrev after_brackets : List Class
    after_brackets = n0_bracket_types entries (embedding_of is zeros) s.sos (types_at is cs) (codes_at is codes) (types_at is weak_line)

    brackets-are-calm : Stay IsCalm (types_at is weak_line) after_brackets
    brackets-are-calm =
        subst (λ e. Stay IsCalm (types_at is weak_line) (n0_bracket_types entries e s.sos (types_at is cs) (codes_at is codes) (types_at is weak_line))) (sym embedding-left)
        (n0_bracket_types-calm entries s.sos (types_at is cs) (codes_at is codes) (types_at is weak_line) (put-calm cs after_weak weak-is-calm))

    abbrev bracket_line : List Class
    bracket_line = put_at is after_brackets weak_line

    abbrev after_neutral : List Class
    after_neutral = neutral_types s.sos s.eos (types_at is bracket_line) (levels_at is zeros)

    neutral-is-left : after_neutral ≡ replicate (length (types_at is bracket_line)) L
    neutral-is-left =
        ap₂ (λ a b. neutral_types a b (types_at is bracket_line) (levels_at is zeros)) sos-left eos-left
        ∙ neutral-left (types_at is bracket_line) (levels_at is zeros) (put-calm weak_line after_brackets brackets-are-calm)

    start-covered : (j : ℕ) → IsFlat (get_or cs j L) ⊎ In j is
    start-covered j = elim (cases_lt j (length cs)) [
      | inl inside ↦
          let e : 0 + j ≡ j = omega arith in
          subst (λ l. Covered (indexes l) j (get_or cs j L)) whole (same-place (indexes (all_items 0 cs)) (0 + j) j (get_or cs j L) e (covered 0 cs leveled j inside))
      | inr past ↦ inl (subst IsFlat (sym (get_or_past cs j L past)) refl)
    ]

    one-flat : Each IsFlat (resolved_in entries cs codes zeros s cs)
    one-flat =
        let size = ap length neutral-is-left ∙ length-replicate (length (types_at is bracket_line)) L in
        let count = types-size bracket_line in
        let flat : Each IsFlat after_neutral = subst (Each IsFlat) (sym neutral-is-left) (flat-left (length (types_at is bracket_line))) in
        each-place IsFlat refl (put_at is after_neutral bracket_line)
        (λ j. put-covers IsFlat refl is after_neutral bracket_line (omega arith) flat j
        (put-stays IsFlat refl is is after_brackets weak_line (members is) j
        (put-stays IsFlat refl is is after_weak cs (members is) j (start-covered j))))

    flat-sequence : Each IsFlat (x10_resolved entries cs codes zeros (sequences_of 0 cs zeros) cs)
    flat-sequence =
        subst (λ ss. Each IsFlat (x10_resolved entries cs codes zeros ss cs)) (sym (ap (λ l. map sequence (bd13_joined_runs (bd7_level_runs l))) whole ∙ one-sequence x xs are-zero)) one-flat

  flat-nothing : all_items 0 cs ≡ [] → Each IsFlat (x10_resolved entries cs codes zeros (sequences_of 0 cs zeros) cs)
  flat-nothing none =
      subst (λ ss. Each IsFlat (x10_resolved entries cs codes zeros ss cs)) (sym (ap (λ l. map sequence (bd13_joined_runs (bd7_level_runs l))) none))
      (each-place IsFlat refl cs (λ j. elim (cases_lt j (length cs)) [
        | inl inside ↦
            elim (subst (λ l. Covered (indexes l) (0 + j) (get_or cs j L)) none (covered 0 cs leveled j inside)) [ inl flat ↦ flat | inr member ↦ absurd member ]
        | inr past ↦ subst IsFlat (sym (get_or_past cs j L past)) refl
      ]))

  flat-by : (xs : List Item) → all_items 0 cs ≡ xs → Each IsFlat (x10_resolved entries cs codes zeros (sequences_of 0 cs zeros) cs)
  flat-by [] is_whole = flat-nothing is_whole
  flat-by (x ∷ xs) is_whole = flat-sequence x xs is_whole

same-either : {X : Type 0} (b : Bool) (x : X) → (if b then x else x) ≡ x
same-either b x = either (λ y. y ≡ x) b x x refl refl

raised-zero : (n : ℕ) (ts : List Class) → Each IsFlat ts → i1_i2 ts (replicate n 0) ≡ replicate n 0
raised-zero n [] flat = refl
raised-zero zero (t ∷ ts) flat = refl
raised-zero (suc n) (t ∷ ts) flat = ap₂ (λ (l : ℕ) (ls : List ℕ). l ∷ ls) flat.0 (raised-zero n ts flat.1)

kept-zero : (n : ℕ) (cs : List Class) → kept 0 cs (replicate n 0) ≡ replicate n 0
kept-zero n [] = refl
kept-zero zero (c ∷ cs) = refl
kept-zero (suc n) (c ∷ cs) = same-either (x9_is_removed c) (0 ∷ kept 0 cs (replicate n 0)) ∙ ap (λ ls. 0 ∷ ls) (kept-zero n cs)

l1-zero : (n : ℕ) (cs : List Class) → l1 0 cs (replicate n 0) ≡ replicate n 0
l1-zero n [] = refl
l1-zero zero (c ∷ cs) = refl
l1-zero (suc n) (c ∷ cs) = ap₂ (λ (l : ℕ) (ls : List ℕ). l ∷ ls) (same-either (l1_resets (c ∷ cs)) 0) (l1-zero n cs)

implicit-zero : (n : ℕ) (cs ts : List Class) → Each IsFlat ts → implicit_levels 0 cs ts (replicate n 0) ≡ replicate n 0
implicit-zero n cs ts flat = ap (λ ls. l1 0 cs (kept 0 cs ls)) (raised-zero n ts flat) ∙ ap (l1 0 cs) (kept-zero n cs) ∙ l1-zero n cs

pub from-left : (entries : List BracketEntry) (cs : List Class) (codes : List ℕ) → are_leveled cs ≡ true → line_levels entries 0 cs codes ≡ replicate (length cs) 0
from-left entries cs codes leveled =
    let n = length cs in
    let gs = explicit-leveled (x1_start 0) cs refl leveled in
    let ls = ap levels_of gs ∙ givens-levels cs in
    let ts = ap types_of gs ∙ givens-types cs in
    ap₂ (λ ms us. implicit_levels 0 cs (x10_resolved entries cs codes ms (sequences_of 0 cs ms) us) ms) ls ts
    ∙ implicit-zero n cs (x10_resolved entries cs codes (replicate n 0) (sequences_of 0 cs (replicate n 0)) cs) (flat-by entries cs codes leveled (all_items 0 cs) refl)

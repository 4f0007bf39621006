-- One step of a walk over a sequence of a line.
use Rattle.std.proofs.Common.{◌≡◌, ◌≢◌, ℕ, suc, ◌+◌, ◌<◌, List, [], ◌∷◌, length, drop, set, get_or, slice_get, Some, AllPairs, refl, ap, ap₂, sym, ◌∙◌, arith}
use Rattle.std.proofs.lemmas.List.{get_or-drop, get_or-set_other, length-drop}
use Rattle.std.proofs.lemmas.Option.{get_or_from_slice_get}
use Rattle.rd_base.proofs.Lists.{drop-at}
use Rattle.rd_base.specs.Lines.{KeepsClasses}
use Rattle.rd_base.specs.declared.class.Class.{Class}
use Rattle.rd_base.specs.declared.class.Class.TheVariants.{L}
use Rattle.rd_base.specs.declared.line.Line.{Line}
use Rattle.rd_resolve.specs.Places.{types_at, levels_at, put_at}

types_apart : (js : List ℕ) (ts : List Class) (i : ℕ) (v : Class) → ((m : ℕ) → m < length js → get_or js m 0 ≢ i) → types_at js (set ts i v) ≡ types_at js ts
types_apart [] ts i v apart = refl
types_apart (j ∷ js) ts i v apart =
    ap₂ ◌∷◌ (get_or-set_other ts i j v L (apart 0 (omega arith))) (types_apart js ts i v (λ m h. apart (suc m) (omega arith)))

module _ (is : List ℕ) (k i : ℕ) (read : slice_get is k ≡ Some i) where
  -- what is left begins with the type, and the level, that was read
  pub types-read : (ts : List Class) (c : Class) → slice_get ts i ≡ Some c → types_at (drop k is) ts ≡ c ∷ types_at (drop (k + 1) is) ts
  types-read ts c here = rw (drop-at is k i read) (ap (λ t. t ∷ types_at (drop (k + 1) is) ts) (get_or_from_slice_get ts i c L here))

  pub levels-read : (ls : List ℕ) (l : ℕ) → slice_get ls i ≡ Some l → levels_at (drop k is) ls ≡ l ∷ levels_at (drop (k + 1) is) ls
  levels-read ls l here = rw (drop-at is k i read) (ap (λ t. t ∷ levels_at (drop (k + 1) is) ls) (get_or_from_slice_get ls i l 0 here))

  -- a write leaves the types behind it
  types-kept : AllPairs (λ a b. a < b) is → (ts : List Class) (v : Class) → types_at (drop (k + 1) is) (set ts i v) ≡ types_at (drop (k + 1) is) ts
  types-kept ascend ts v = types_apart (drop (k + 1) is) ts i v (λ m h e.
      let here : get_or is k 0 ≡ i = get_or_from_slice_get is k i 0 read in
      let there : get_or (drop (k + 1) is) m 0 ≡ get_or is (k + 1 + m) 0 = get_or-drop (k + 1) is m 0 in
      let inside : k + 1 + m < length is = omega (arith, length-drop (k + 1) is) in
      let below : get_or is k 0 < get_or is (k + 1 + m) 0 = ascend k (k + 1 + m) 0 (omega arith) inside in
      omega arith)

  put-step : (v : Class) (vs ts : List Class) → put_at (drop k is) (v ∷ vs) ts ≡ put_at (drop (k + 1) is) vs (set ts i v)
  put-step v vs ts = rw (drop-at is k i read) refl

  -- The types that are left, as the code reads them: the type here, and those at the indexes that it passes on.
  pub types-left : (ts : List Class) (c : Class) (js all : List ℕ) (us : List Class) → slice_get ts i ≡ Some c → js ≡ drop (k + 1) all → all ≡ is → us ≡ ts
      → (types_at (drop k is) ts ≡ c ∷ types_at js us) × (types_at js us ≡ types_at (drop (k + 1) is) ts)
  types-left ts c js all us here back whole same =
      let behind : types_at js us ≡ types_at (drop (k + 1) is) ts = ap₂ types_at (back ∙ ap (drop (k + 1)) whole) same in
      (types-read ts c here ∙ ap (λ vs. c ∷ vs) (sym behind), behind)

  -- What is left, done from here, is what is left behind, done from there, once the type that is given here is written.
  pub walk-step : AllPairs (λ a b. a < b) is → (here behind : List Class → List Class) (ts new : List Class) (given c : Class) (vs : List Class)
      → (types_at (drop k is) ts ≡ c ∷ vs) × (vs ≡ types_at (drop (k + 1) is) ts) → here (c ∷ vs) ≡ given ∷ behind vs → new ≡ set ts i given
      → (put_at (drop (k + 1) is) (behind (types_at (drop (k + 1) is) new)) new ≡ put_at (drop k is) (here (types_at (drop k is) ts)) ts)
      × (vs ≡ types_at (drop (k + 1) is) new)
  walk-step ascend here behind ts new given c vs left step written =
      let stays : vs ≡ types_at (drop (k + 1) is) new = left.1 ∙ sym (ap (types_at (drop (k + 1) is)) written ∙ types-kept ascend ts given) in (
        ap₂ (λ us rest. put_at (drop (k + 1) is) (behind us) rest) (sym stays) written
            ∙ sym (put-step given (behind vs) ts)
            ∙ ap (λ us. put_at (drop k is) us ts) (sym step ∙ ap here (sym left.0)),
        stays,
      )

-- what keeps the classes twice keeps them
pub keeps-on : (a b c : Line) → KeepsClasses a b → KeepsClasses b c → KeepsClasses a c
keeps-on a b c first second = record { classes = second.classes ∙ first.classes; base = second.base ∙ first.base }

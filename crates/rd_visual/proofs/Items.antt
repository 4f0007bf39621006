-- The item of a reading column.
use Rattle.std.proofs.Common.{◌≡◌, ℕ, zero, suc, ◌≤◌, ◌&&◌, ◌⊎◌, inl, inr, nat_le, nat_eq, Bool, true, false, not, cond, List, [], ◌∷◌, Option, None, Some, refl, sym, ap, ◌∙◌, subst, arith}
use Rattle.std.specs.Prelude.{count_by, find, slice_get}
use Rattle.std.proofs.lemmas.Bool.{and_parts, eq-eqb}
use Rattle.std.proofs.lemmas.Bool.Decides.{nat_tests}
use Rattle.rd_base.proofs.Choices.{opposite}
use Rattle.rd_base.proofs.Lists.{none-found, none_counted}
use Rattle.rd_matrix.proofs.Passing.{fewer, not-counted, place-counted}
use Rattle.rd_rows.specs.declared.begin.Begin.{Begin}
use Rattle.rd_visual.specs.Hits.{covers_some, reaches, nearer, item_at, begins_at}

abbrev pub column_of : Begin → ℕ
column_of b = b.column

-- an item of a list at some place, of which a test holds
pub record IsOneOf (p : Begin → Bool) (bs : List Begin) (b : Begin) : Type 0 where
  pub place : ℕ
  pub there : slice_get bs place ≡ Some b
  pub passes : p b ≡ true

-- of an item that is reached or not and of what is found behind it, the nearer one: the other where the item is not reached or stands
-- before it
nearer-one : (x : Begin) (r : Bool) (o : Option Begin) (b : Begin) → nearer (cond r (Some x) None) o ≡ Some b
    → ((r ≡ true) × (x ≡ b)) ⊎ ((o ≡ Some b) × (r ≡ true → nat_le b.column x.column ≡ false))
nearer-one x false o b e = inr (e, λ reached. absurd cc)
nearer-one x true None b e = inl (refl, cc)
nearer-one x true (Some o) b e = by (nat_le o.column x.column) refl e where
  by : (q : Bool) → nat_le o.column x.column ≡ q → cond q (Some x) (Some o) ≡ Some b
      → ((true ≡ true) × (x ≡ b)) ⊎ ((Some o ≡ Some b) × (true ≡ true → nat_le b.column x.column ≡ false))
  by true le f = inl (refl, cc)
  by false le f = inr (f, λ reached. let same : o ≡ b = cc in subst (λ (y : Begin). nat_le y.column x.column ≡ false) same le)

-- an item that is not reached, or stands before what is found, takes nothing from it
passed : (x b : Begin) (q : Bool) → (q ≡ true → nat_le b.column x.column ≡ false) → nearer (cond q (Some x) None) (Some b) ≡ Some b
passed x b false before = refl
passed x b true before = rw (before refl) refl

-- the item at a column is one of the list that covers a position and begins there or before
pub item-member : (column : ℕ) (bs : List Begin) (b : Begin) → item_at column bs ≡ Some b → IsOneOf (reaches column) bs b
item-member column [] b found = absurd cc
item-member column (x ∷ xs) b found = elim (nearer-one x (reaches column x) (item_at column xs) b found) [
  | inl here ↦ record { place = zero; there = ap Some here.1; passes = ap (reaches column) (sym here.1) ∙ here.0 }
  | inr rest ↦ let one = item-member column xs b rest.0 in record { place = suc one.place; there = one.there; passes = one.passes }
]

reaches-parts : (column : ℕ) (b : Begin) → reaches column b ≡ true → (covers_some b ≡ true) × (b.column ≤ column)
reaches-parts column b h =
    let both = and_parts (covers_some b) (nat_le b.column column) h in
    (both.0, let le = both.1 in grind (arith, nat_tests))

pub item-column : (column : ℕ) (bs : List Begin) (b : Begin) → item_at column bs ≡ Some b → (covers_some b ≡ true) × (b.column ≤ column)
item-column column bs b found = reaches-parts column b (item-member column bs b found).passes

pub reaches-from : (column : ℕ) (b : Begin) → covers_some b ≡ true → b.column ≤ column → reaches column b ≡ true
reaches-from column b some low = let le : nat_le b.column column ≡ true = grind (arith, nat_tests) in rw (some, le) refl

nearer-first : (x : Begin) (o : Option Begin) → ((c : Begin) → o ≡ Some c → c.column ≤ x.column) → nearer (Some x) o ≡ Some x
nearer-first x None low = refl
nearer-first x (Some o) low = let less = low o refl in let le : nat_le o.column x.column ≡ true = grind (arith, nat_tests) in rw le refl

here-first : (column : ℕ) (x : Begin) (xs : List Begin) → covers_some x ≡ true → x.column ≡ column → item_at column (x ∷ xs) ≡ Some x
here-first column x xs some same =
    let here = reaches-from column x some (omega (arith, same)) in
    rw here (nearer-first x (item_at column xs) (λ c e. let low = (item-column column xs c e).1 in omega (arith, low, same)))

-- the item of a reading column is that of its own column
pub item-again : (column : ℕ) (bs : List Begin) (b : Begin) → item_at column bs ≡ Some b → item_at b.column bs ≡ Some b
item-again column [] b found = absurd cc
item-again column (x ∷ xs) b found = elim (nearer-one x (reaches column x) (item_at column xs) b found) [
  | inl here ↦ subst (λ (y : Begin). item_at y.column (x ∷ xs) ≡ Some y) here.1 (here-first x.column x xs (reaches-parts column x here.0).0 refl)
  | inr rest ↦
      let low = (item-column column xs b rest.0).1 in
      ap (nearer (cond (reaches b.column x) (Some x) None)) (item-again column xs b rest.0)
      ∙ passed x b (reaches b.column x) (λ reached. let parts = reaches-parts b.column x reached in rest.1 (reaches-from column x parts.0 (let less = parts.1 in omega (arith, less, low))))
]

-- ---- what is found is what is counted

pub found-none : (p : Begin → Bool) (bs : List Begin) → count_by p bs ≡ 0 → find p bs ≡ None
found-none p bs none = none-found p bs (opposite _ _ (none_counted p bs) ∙ ap not (eq-eqb (count_by p bs) 0 none))

pass-behind : (column : ℕ) (x b : Begin) → begins_at column x ≡ false → b.column ≡ column → nearer (cond (reaches column x) (Some x) None) (Some b) ≡ Some b
pass-behind column x b out same = passed x b (reaches column x) λ here.
    let parts = reaches-parts column x here in
    let other : nat_eq x.column column ≡ false = subst (λ (t : Bool). (t && nat_eq x.column column) ≡ false) parts.0 out in
    let low = parts.1 in
    grind (arith, nat_tests)

-- the one item that begins in a reading column is that column's
pub item-alone : (column : ℕ) (bs : List Begin) (k : ℕ) (b : Begin) → slice_get bs k ≡ Some b → covers_some b ≡ true → b.column ≡ column → count_by (begins_at column) bs ≤ 1 → item_at column bs ≡ Some b
item-alone column [] k b there some same few = absurd cc
item-alone column (x ∷ xs) zero b there some same few =
    let e : x ≡ b = cc in
    here-first column x xs (ap covers_some e ∙ some) (ap column_of e ∙ same) ∙ there
item-alone column (x ∷ xs) (suc k) b there some same few =
    let equal : nat_eq b.column column ≡ true = grind (arith, nat_tests) in
    let passes : begins_at column b ≡ true = rw (some, equal) refl in
    let out = not-counted (begins_at column) x xs 1 few (place-counted (begins_at column) xs k b there passes) in
    ap (nearer (cond (reaches column x) (Some x) None)) (item-alone column xs k b there some same (fewer (begins_at column) x xs 1 few)) ∙ pass-behind column x b out same

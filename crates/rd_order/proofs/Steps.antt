-- One step of the walk.
use Rattle.std.proofs.Common.{◌≡◌, ℕ, zero, suc, ◌+◌, ◌-◌, ◌%◌, ◌==◌, ◌<◌, ◌≤◌, if◌then◌else◌, inl, inr, List, length, get_or, Some, None, refl, sym, ap, subst, subst₂, ◌∙◌, arith}
use Rattle.std.specs.Prelude.{slice_get}
use Rattle.std.proofs.lemmas.Bool.{cases_lt, cases_eq}
use Rattle.std.proofs.lemmas.Bool.Decides.{nat_tests}
use Rattle.std.proofs.lemmas.Option.{slice_get_within, slice_get-get_or, slice_get_past}
use Rattle.rd_order.specs.Order.{highest, l2_visual_order}
use Rattle.rd_order.specs.Places.{AreHigh, BeginsLow, IsLevelRun, Comes, IsNextTo, IsBeside}
use Rattle.rd_order.proofs.Places.{edges, same_run, comes_of, Comes-within}
use Rattle.rd_order.proofs.Reversals.{l2_visual_order-length, l2_visual_order-comes, highest-bounds}

-- what `Comes` says holds of equal numbers too
Comes-equal : (f : ℕ → ℕ) (n base p : ℕ) {m k q r : ℕ} → m ≡ k → q ≡ r → Comes f n base m p q → Comes f n base k p r
Comes-equal f n base p same at c = subst₂ (λ (i x : ℕ). Comes f n base i p x) same at c

-- levels above a place's own leave it
climb : (f : ℕ → ℕ) (n base m j p q : ℕ) → f q ≤ base + m → Comes f n base m p q → Comes f n base (j + m) p q
climb f n base m zero p q low c = Comes-equal f n base p (omega arith) refl c
climb f n base m (suc j) p q low c =
    let all : suc (j + m) ≡ suc j + m = omega arith in
    Comes-equal f n base p all refl (q, climb f n base m j p q low c, inl (omega arith, refl))

unmoved : (f : ℕ → ℕ) (n base m p q : ℕ) → f q < base + suc m → Comes f n base (suc m) p q → Comes f n base m p q
unmoved f n base m p q low (r, c, inl still) = Comes-equal f n base p refl (sym still.1) c
unmoved f n base m p q low (r, c, inr t) =
    let from = t.from in let to = t.to in let image = t.image in
    let high = t.run.high q (omega arith) (omega arith) in
    absurd (omega arith)

descend : (f : ℕ → ℕ) (n base m j p q : ℕ) → f q ≤ base + m → Comes f n base (j + m) p q → Comes f n base m p q
descend f n base m zero p q low c = Comes-equal f n base p (omega arith) refl c
descend f n base m (suc j) p q low c =
    let all : suc j + m ≡ suc (j + m) = omega arith in
    descend f n base m j p q low (unmoved f n base (j + m) p q (omega arith) (Comes-equal f n base p all refl c))

-- the reversals above a level at q and those from it on are all of them
all-reversals : (base m q : ℕ) (levels : List ℕ) → (0 < m → base + m ≤ get_or levels q 0) → q < length levels → (highest levels - base - m) + m ≡ highest levels - base
all-reversals base m q levels high within =
    let most = highest-bounds levels q within in
    elim (cases_eq m 0) [
      | inl none ↦ omega arith
      | inr some ↦ let h = high (omega arith) in omega arith
    ]

-- the order at a place that what stands at q comes to
pub shows : (base m p q : ℕ) (levels : List ℕ) → (0 < m → base + m ≤ get_or levels q 0) → get_or levels q 0 ≤ base + m → q < length levels
    → Comes (λ i. get_or levels i 0) (length levels) base m p q → slice_get (l2_visual_order base levels) p ≡ Some q
shows base m p q levels high low within c =
    let f : ℕ → ℕ = λ i. get_or levels i 0 in
    let total = highest levels - base in
    let whole = Comes-equal f (length levels) base p (all-reversals base m q levels high within) refl (climb f (length levels) base m (total - m) p q low c) in
    let p_within = (Comes-within f (length levels) base m p q c).1 within in
    let size = l2_visual_order-length base levels in
    slice_get-get_or (l2_visual_order base levels) p 0 (omega arith) ∙ ap Some (l2_visual_order-comes base levels p q p_within whole)

-- what the order gives at a place comes there by all the reversals
placed : (base p q : ℕ) (levels : List ℕ) → slice_get (l2_visual_order base levels) p ≡ Some q
    → (p < length levels) × Comes (λ i. get_or levels i 0) (length levels) base (highest levels - base) p q
placed base p q levels at =
    let f : ℕ → ℕ = λ i. get_or levels i 0 in
    let n = length levels in
    let total = highest levels - base in
    let size = l2_visual_order-length base levels in
    let inside = slice_get_within (l2_visual_order base levels) p q at in
    let p_within : p < n = omega arith in
    let found = comes_of f n base total p p_within in
    let there = l2_visual_order-comes base levels p found.0 p_within found.1 in
    let said = slice_get-get_or (l2_visual_order base levels) p 0 inside in
    let whole_at : Some q ≡ Some found.0 = sym at ∙ said ∙ ap Some there in
    (p_within, Comes-equal f n base p refl (cc) found.1)

-- what the order gives is an index of the line
pub gives-within : (base p q : ℕ) (levels : List ℕ) → slice_get (l2_visual_order base levels) p ≡ Some q → (p < length levels) × (q < length levels)
gives-within base p q levels at =
    let whole = placed base p q levels at in
    (whole.0, (Comes-within (λ i. get_or levels i 0) (length levels) base (highest levels - base) p q whole.1).0 whole.0)

-- where an index stands in the order, what stands there after the reversals above its own level
pub known : (base p q : ℕ) (levels : List ℕ) (m : ℕ) → get_or levels q 0 ≤ base + m → (0 < m → base + m ≤ get_or levels q 0)
    → slice_get (l2_visual_order base levels) p ≡ Some q → Comes (λ i. get_or levels i 0) (length levels) base m p q
known base p q levels m low high at =
    let f : ℕ → ℕ = λ i. get_or levels i 0 in
    let total = highest levels - base in
    let all = sym (all-reversals base m q levels high (gives-within base p q levels at).1) in
    descend f (length levels) base m (total - m) p q low (Comes-equal f (length levels) base p all refl (placed base p q levels at).1)

-- the neighbour in the same run stands at the next place
pub beside : (f : ℕ → ℕ) (n base m p q r : ℕ) → IsNextTo m q r → q < n → r < n → (0 < m → base + m ≤ f q) → (0 < m → base + m ≤ f r)
    → Comes f n base m p q → Comes f n base m (p + 1) r
beside f n base zero p q r next q_in r_in q_high r_high c = let e : r ≡ suc q = next.forwards refl in omega arith
beside f n base (suc m) p q r next q_in r_in q_high r_high (s, c, inl still) = let h = q_high (omega arith) in let l = still.0 in let e = ap f still.1 in absurd (omega arith)
beside f n base (suc m) p q r next q_in r_in q_high r_high (s, c, inr t) =
    let from = t.from in let to = t.to in let image = t.image in let within = t.run.within in
    let forwards = next.forwards in let backwards = next.backwards in
    let k = base + suc m in
    let high_r : k ≤ f r = r_high (omega arith) in
    let near : (q ≤ suc r) × (r ≤ suc q) = elim (cases_eq (suc m % 2) 0) [
      | inl even ↦ let e = forwards even in (omega arith, omega arith)
      | inr other ↦ let e = backwards (omega arith) in (omega arith, omega arith)
    ] in
    let near_low = near.0 in let near_high = near.1 in
    let off = edges f n k t.a t.b r t.run r_in high_r in
    let r_from : t.a ≤ r = elim (cases_lt r t.a) [ inl less ↦ absurd (off.0 (omega arith)) | inr more ↦ more ] in
    let r_to : r < t.b = elim (cases_lt r t.b) [ inl less ↦ less | inr more ↦ absurd (off.1 (omega arith)) ] in
    let s' = t.a + t.b - suc r in
    let reversed_next : IsNextTo m s s' = record { forwards = λ even. omega arith; backwards = λ odd. omega arith } in
    let s_high = t.run.high s from to in
    let s'_high = t.run.high s' (omega arith) (omega arith) in
    let before = beside f n base m p s s' reversed_next (omega arith) (omega arith) (λ _. omega arith) (λ _. omega arith) c in
    (s', before, inr (record { a = t.a; b = t.b; run = t.run; from = omega arith; to = omega arith; image = omega arith }))

-- a place q of a run from a to b, and where it stands (r) once the run is reversed j times
pub record IsReversedBy (j a b q r : ℕ) : Type 0 where
  pub even : j % 2 ≡ 0 → r ≡ q
  pub odd : j % 2 ≡ 1 → suc (q + r) ≡ a + b

-- from a to b is a run at each level above base + m up to base + m + j
abbrev pub AreRuns : (ℕ → ℕ) → ℕ → ℕ → ℕ → ℕ → ℕ → ℕ → Type 0
AreRuns f n base m j a b = (i : ℕ) → m < i → i ≤ m + j → IsLevelRun f n (base + i) a b

-- one turn back
came : (f : ℕ → ℕ) (n k a b q : ℕ) → IsLevelRun f n k a b → a ≤ q → q < b → (base m p : ℕ) → base + suc m ≡ k → Comes f n base (suc m) p q
    → Comes f n base m p (a + b - suc q)
came f n k a b q run from to base m p e (r, c, inl still) =
    let high = run.high q from to in let low = still.0 in let e' = ap f still.1 in absurd (omega arith)
came f n k a b q run from to base m p e (r, c, inr t) =
    let t_from = t.from in let t_to = t.to in let image = t.image in
    let t_run : IsLevelRun f n k t.a t.b = subst (λ (l : ℕ). IsLevelRun f n l t.a t.b) e t.run in
    let one = same_run f n k a b t.a t.b q run t_run from to (omega arith) (omega arith) in
    let e1 = one.0 in let e2 = one.1 in
    Comes-equal f n base p refl (omega arith) c

-- into the runs or out of them
across : (f : ℕ → ℕ) (n base m j p q r a b : ℕ) → AreRuns f n base m j a b → a ≤ q → q < b → IsReversedBy j a b q r
    → (Comes f n base m p q → Comes f n base (j + m) p r) × (Comes f n base (j + m) p r → Comes f n base m p q)
across f n base m zero p q r a b runs from to turn =
    let same = turn.even refl in
    (λ c. Comes-equal f n base p (omega arith) (sym same) c, λ c. Comes-equal f n base p (omega arith) same c)
across f n base m (suc j) p q r a b runs from to turn =
    let even = turn.even in let odd = turn.odd in
    let s = a + b - suc r in
    let r_in : (a ≤ r) × (r < b) = elim (cases_eq (j % 2) 0) [ inl e ↦ (omega arith, omega arith) | inr o ↦ (omega arith, omega arith) ] in
    let r_from = r_in.0 in let r_to = r_in.1 in
    let before : IsReversedBy j a b q s = record { even = λ e. omega arith; odd = λ e. omega arith } in
    let below = across f n base m j p q s a b (λ i more less. runs i more (omega arith)) from to before in
    let all : suc (j + m) ≡ suc j + m = omega arith in
    let run : IsLevelRun f n (base + suc (j + m)) a b = runs (suc (j + m)) (omega arith) (omega arith) in (
      λ c. Comes-equal f n base p all refl (s, below.0 c, inr (record { a = a; b = b; run = run; from = omega arith; to = omega arith; image = omega arith })),
      λ c. below.1 (came f n (base + suc (j + m)) a b r run r_from r_to base (j + m) p refl (Comes-equal f n base p (sym all) refl c)),
    )

pub reversed_by : (times a b q r : ℕ) → a ≤ q → q < b → r ≡ (if times % 2 == 0 then q else a + (b - 1 - q)) → IsReversedBy times a b q r × (a ≤ r) × (r < b)
reversed_by times a b q r from to e = elim (cases_eq (times % 2) 0) [
  | inl even ↦
      let at : r ≡ q = e ∙ grind (arith, nat_tests) in
      (record { even = λ _. at; odd = λ odd. absurd (omega arith) }, omega arith, omega arith)
  | inr other ↦
      let at : r ≡ a + (b - 1 - q) = e ∙ grind (arith, nat_tests) in
      (record { even = λ even. absurd (other even); odd = λ _. omega arith }, omega arith, omega arith)
]

-- where no level beside is above the lower one, the runs of all levels up to the higher one are the same
runs-between : (f : ℕ → ℕ) (n base low high a b : ℕ) → base ≤ low → low < high → a < b → b ≤ n → AreHigh f high a b → BeginsLow f (low + 1) a → (b < n → f b < low + 1)
    → AreRuns f n base (low - base) (high - low) a b
runs-between f n base low high a b up rise order within tall low_before low_after = λ i more less.
    let all : AreHigh f (base + i) a b = λ x x_from x_to. let h = tall x x_from x_to in omega arith in
    let before : BeginsLow f (base + i) a = λ x e. let l = low_before x e in omega arith in
    record { order = order; within = within; high = all; before = before; after = λ less. let l = low_after less in omega arith }

-- the runs that are entered or left at once: those from a lower level up to a higher one, where no level in them is below the higher
-- one and none beside them above the lower one
pub between : (f : ℕ → ℕ) (n base low high a b p q r : ℕ) → base ≤ low → low < high → a < b → b ≤ n → AreHigh f high a b → BeginsLow f (low + 1) a → (b < n → f b < low + 1)
    → a ≤ q → q < b → IsReversedBy (high - low) a b q r
    → (Comes f n base (low - base) p q → Comes f n base (high - base) p r) × (Comes f n base (high - base) p r → Comes f n base (low - base) p q)
between f n base low high a b p q r up rise order within tall low_before low_after from to turn =
    let runs = runs-between f n base low high a b up rise order within tall low_before low_after in
    let all : (high - low) + (low - base) ≡ high - base = omega arith in
    let both = across f n base (low - base) (high - low) p q r a b runs from to turn in
    (λ c. Comes-equal f n base p all refl (both.0 c), λ c. both.1 (Comes-equal f n base p (sym all) refl c))

-- at the end of the line in the direction of the base nothing is left
pub last : (base m p q : ℕ) (levels : List ℕ) → m ≡ 0 → Comes (λ i. get_or levels i 0) (length levels) base m p q
    → IsBeside (λ i. get_or levels i 0) (length levels) base m q None → slice_get (l2_visual_order base levels) (p + 1) ≡ None
last base m p q levels e c none =
    let size = l2_visual_order-length base levels in
    let at : q ≡ p = Comes-equal (λ i. get_or levels i 0) (length levels) base p e refl c in
    let past : length levels ≤ suc q = elim (cases_lt (suc q) (length levels)) [
      | inl less ↦
          let even : m % 2 ≡ 0 = omega arith in
          let next : IsNextTo m q (suc q) = record { forwards = λ _. refl; backwards = λ odd. absurd (omega arith) } in
          let no = (none (suc q) next less).0 in absurd (omega arith)
      | inr more ↦ more
    ] in
    slice_get_past (l2_visual_order base levels) (p + 1) (omega arith)

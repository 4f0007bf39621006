-- Maximal runs, and which index comes to which place.
use Rattle.std.proofs.Common.{◌≡◌, ◌≢◌, ℕ, zero, suc, ◌+◌, ◌-◌, ◌<◌, ◌≤◌, inl, inr, refl, ap, subst, arith}
use Rattle.std.proofs.lemmas.Bool.{cases_lt, cases_eq}
use Rattle.rd_order.specs.Places.{AreHigh, BeginsLow, IsLevelRun, Reverses, Moves, Comes}

-- each place of level k or above lies in a maximal run: where that ends, and, looking back, where it starts
end_of : (f : ℕ → ℕ) (n k q left : ℕ) → suc q + left ≡ n → k ≤ f q
    → (b : ℕ) × (q < b) × (b ≤ n) × AreHigh f k q b × (b < n → f b < k)
end_of f n k q zero e h =
    let high : AreHigh f k q (suc q) = λ p from to. let e' : q ≡ p = omega arith in subst (λ (x : ℕ). k ≤ f x) e' h in
    (suc q, omega arith, omega arith, high, λ less. absurd (omega arith))
end_of f n k q (suc left) e h =
    elim (cases_lt (f (suc q)) k) [
      | inl low ↦
          let high : AreHigh f k q (suc q) = λ p from to. let e' : q ≡ p = omega arith in subst (λ (x : ℕ). k ≤ f x) e' h in
          (suc q, omega arith, omega arith, high, λ less. low)
      | inr more ↦
          let rest = end_of f n k (suc q) left (omega arith) more in
          let over : suc q < rest.0 = rest.1 in
          let high : AreHigh f k q rest.0 = λ p from to. elim (cases_eq q p) [
            | inl same ↦ subst (λ (x : ℕ). k ≤ f x) same h
            | inr other ↦ rest.3 p (omega arith) to
          ] in
          (rest.0, omega arith, rest.2, high, rest.4)
    ]

start_of : (f : ℕ → ℕ) (k q : ℕ) → k ≤ f q → (a : ℕ) × (a ≤ q) × AreHigh f k a (suc q) × BeginsLow f k a
start_of f k q h =
    let here : q ≡ q - 0 = omega arith in
    let back = end_of (λ p. f (q - p)) (suc q) k 0 q (omega arith) (subst (λ (x : ℕ). k ≤ f x) here h) in
    let some : 0 < back.0 = back.1 in
    let high : AreHigh f k (suc q - back.0) (suc q) = λ p from to.
    let turned : q - (q - p) ≡ p = omega arith in subst (λ (x : ℕ). k ≤ f x) turned (back.3 (q - p) (omega arith) (omega arith)) in
    let before : BeginsLow f k (suc q - back.0) = λ p at.
    let turned : q - back.0 ≡ p = omega arith in subst (λ (x : ℕ). f x < k) turned (back.4 (omega arith)) in
    (suc q - back.0, omega arith, high, before)

pub run_of : (f : ℕ → ℕ) (n k q : ℕ) → q < n → k ≤ f q → (a : ℕ) × (b : ℕ) × IsLevelRun f n k a b × (a ≤ q) × (q < b)
run_of f n k q within h =
    let s = start_of f k q h in
    let e = end_of f n k q (n - suc q) (omega arith) h in
    let from : s.0 ≤ q = s.1 in
    let to : q < e.0 = e.1 in
    let high : AreHigh f k s.0 e.0 = λ p a b. elim (cases_lt p q) [
      | inl less ↦ s.2 p a (omega arith)
      | inr more ↦ e.3 p more b
    ] in
    let run : IsLevelRun f n k s.0 e.0 = record { order = omega arith; within = e.2; high = high; before = s.3; after = e.4 } in
    (s.0, e.0, run, from, to)

-- a high place stands neither just before a maximal run nor just behind it
pub edges : (f : ℕ → ℕ) (n k a b q : ℕ) → IsLevelRun f n k a b → q < n → k ≤ f q → (suc q ≢ a) × (q ≢ b)
edges f n k a b q run within high = (
  λ e. let low = run.before q e in absurd (omega arith),
  λ e. let low = run.after (omega arith) in let same = ap f e in absurd (omega arith),
)

-- a maximal run around a place goes no further than another
run_within : (f : ℕ → ℕ) (n k a b c d q : ℕ) → IsLevelRun f n k a b → IsLevelRun f n k c d → a ≤ q → q < b → c ≤ q → q < d → (c ≤ a) × (b ≤ d)
run_within f n k a b c d q r s aq qb cq qd =
    let within = r.within in
    let ends_within = s.within in
    let starts : c ≤ a = elim (cases_lt a c) [
      | inl less ↦ absurd ((edges f n k c d (c - 1) s (omega arith) (r.high (c - 1) (omega arith) (omega arith))).0 (omega arith))
      | inr fine ↦ fine
    ] in
    let ends : b ≤ d = elim (cases_lt d b) [
      | inl less ↦ absurd ((edges f n k c d d s (omega arith) (r.high d (omega arith) less)).1 refl)
      | inr fine ↦ fine
    ] in
    (starts, ends)

-- two maximal runs around a place are one
pub same_run : (f : ℕ → ℕ) (n k a b c d q : ℕ) → IsLevelRun f n k a b → IsLevelRun f n k c d → a ≤ q → q < b → c ≤ q → q < d → (a ≡ c) × (b ≡ d)
same_run f n k a b c d q r s aq qb cq qd =
    let (c_low, b_low) = run_within f n k a b c d q r s aq qb cq qd in
    let (a_low, d_low) = run_within f n k c d a b q s r cq qd aq qb in
    (omega arith, omega arith)

-- each place is moved somewhere
pub moves_of : (f : ℕ → ℕ) (n k q : ℕ) → q < n → (r : ℕ) × Moves f n k q r
moves_of f n k q within = elim (cases_lt (f q) k) [
  | inl low ↦ (q, inl (low, refl))
  | inr high ↦
      let found = run_of f n k q within high in
      let to : q < found.1 = found.4 in
      let t : Reverses f n k q (found.0 + found.1 - suc q) = record { a = found.0; b = found.1; run = found.2; from = found.3; to = to; image = omega arith } in
      (found.0 + found.1 - suc q, inr t)
]

-- what stands in the line comes to a place of the line, and from one
Moves-within : (f : ℕ → ℕ) (n k q r : ℕ) → Moves f n k q r → (q < n → r < n) × (r < n → q < n)
Moves-within f n k q r (inl low) = (λ h. omega arith, λ h. omega arith)
Moves-within f n k q r (inr t) =
    let w = t.run.within in let i = t.image in let g = t.from in let h = t.to in (λ less. omega arith, λ less. omega arith)

pub Comes-within : (f : ℕ → ℕ) (n base m p q : ℕ) → Comes f n base m p q → (p < n → q < n) × (q < n → p < n)
Comes-within f n base zero p q c = (λ h. omega arith, λ h. omega arith)
Comes-within f n base (suc m) p q (r, c, moves) =
    let first = Comes-within f n base m p r c in
    let last = Moves-within f n (base + suc m) r q moves in
    (λ h. last.0 (first.0 h), λ h. first.1 (last.1 h))

pub comes_of : (f : ℕ → ℕ) (n base m p : ℕ) → p < n → (q : ℕ) × Comes f n base m p q
comes_of f n base zero p within = (p, refl)
comes_of f n base (suc m) p within =
    let c = comes_of f n base m p within in
    let moved = moves_of f n (base + suc m) c.0 ((Comes-within f n base m p c.0 c.1).0 within) in
    (moved.0, (c.0, c.1, moved.1))

-- two ways to give levels that agree on what is high, up to a level
abbrev pub Agree : (ℕ → ℕ) → (ℕ → ℕ) → ℕ → ℕ → Type 0
Agree f g n most = (k p : ℕ) → k ≤ most → p < n → (k ≤ f p → k ≤ g p) × (f p < k → g p < k)

pub IsLevelRun-agree : (f g : ℕ → ℕ) (n most k a b : ℕ) → Agree f g n most → k ≤ most → IsLevelRun f n k a b → IsLevelRun g n k a b
IsLevelRun-agree f g n most k a b agree below run =
    let order = run.order in
    let within = run.within in
    let high : AreHigh g k a b = λ q from to. (agree k q below (omega arith)).0 (run.high q from to) in
    let before : BeginsLow g k a = λ q e. (agree k q below (omega arith)).1 (run.before q e) in
    record { order = order; within = within; high = high; before = before; after = λ less. (agree k b below less).1 (run.after less) }

pub Moves-agree : (f g : ℕ → ℕ) (n most k q r : ℕ) → Agree f g n most → k ≤ most → q < n → Moves f n k q r → Moves g n k q r
Moves-agree f g n most k q r agree below within (inl low) = inl ((agree k q below within).1 low.0, low.1)
Moves-agree f g n most k q r agree below within (inr t) =
    inr (record { a = t.a; b = t.b; run = IsLevelRun-agree f g n most k t.a t.b agree below t.run; from = t.from; to = t.to; image = t.image })

pub Comes-agree : (f g : ℕ → ℕ) (n most base m p q : ℕ) → Agree f g n most → base + m ≤ most → p < n → Comes f n base m p q → Comes g n base m p q
Comes-agree f g n most base zero p q agree below within c = c
Comes-agree f g n most base (suc m) p q agree below within (r, c, moves) = (
  r,
  Comes-agree f g n most base m p r agree (omega arith) within c,
  Moves-agree f g n most (base + suc m) r q agree below ((Comes-within f n base m p r c).0 within) moves,
)

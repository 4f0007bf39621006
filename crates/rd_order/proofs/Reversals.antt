-- What one reversal does to a list, and all of them one after the other (L2).
use Rattle.std.proofs.Common.{◌≡◌, ℕ, zero, suc, ◌+◌, ◌-◌, ◌<◌, ◌≤◌, inl, inr, Bool, if◌then◌else◌, List, [], ◌∷◌, ◌++◌, length, get_or, refl, sym, ap, subst, ◌∙◌, arith, length-append, append_assoc}
use Rattle.std.proofs.lemmas.Bool.{cases_lt, cases_eq, le-leb, lt-leb}
use lib.Dec.{leb}
use Rattle.std.proofs.lemmas.List.{get_or_append_left, get_or-append-add, get_or-reverse, length-reverse, reverse-append}
use Rattle.std.proofs.Math.Seq.{get_or-append_seam}
use Rattle.std.proofs.lemmas.List.FromFn.{length-range_with_len, get_or-range_with_len}
use Rattle.std.specs.List.{range_with_len}
use mathlib.Core.List.{reverse}
use Rattle.rd_base.proofs.Lists.{total-ones}
use Rattle.rd_order.specs.Order.{l2_reversed, l2_reversed_down, highest, l2_visual_order}
use Rattle.rd_order.proofs.Once.{total-l2_reversed, total-order}
use Rattle.rd_order.specs.Places.{AreHigh, BeginsLow, IsLevelRun, Moves, Comes}
use Rattle.rd_order.proofs.Places.{Agree, Comes-agree, Comes-within, moves_of, same_run}

-- the level of what stands at a place of a list of indexes
abbrev pub level_in : List ℕ → List ℕ → ℕ → ℕ
level_in levels xs p = get_or levels (get_or xs p 0) 0

-- an element behind the one at a seam
behind : (front : List ℕ) (x : ℕ) (back : List ℕ) (i p : ℕ) → i ≡ length front + suc p → get_or (front ++ (x ∷ back)) i 0 ≡ get_or back p 0
behind front x back i p e = ap (λ (j : ℕ). get_or (front ++ (x ∷ back)) j 0) e ∙ get_or-append-add front (x ∷ back) (suc p) 0

-- an element of a run that is held turned round
held : (run back : List ℕ) (q r : ℕ) → suc (q + r) ≡ length run → get_or run q 0 ≡ get_or (reverse run ++ back) r 0
held run back q r e =
    let within : r < length (reverse run) = let l = length-reverse run in omega arith in
    let left = get_or_append_left (reverse run) back 0 r within in
    let turn = get_or-reverse run r 0 (omega arith) in
    let place : length run - 1 - r ≡ q = omega arith in
    sym (left ∙ turn ∙ ap (λ (j : ℕ). get_or run j 0) place)

-- a run that reaches from the list's beginning up to a low place, or the end, is turned round whole
first_run : (f : ℕ → ℕ) (n k l q r : ℕ) → AreHigh f k 0 l → l ≤ n → (l < n → f l < k) → q < l → Moves f n k q r → suc (q + r) ≡ l
first_run f n k l q r high within low q_in (inl still) = let h = high q (omega arith) q_in in let s = still.0 in absurd (omega arith)
first_run f n k l q r high within low q_in (inr t) =
    let run : IsLevelRun f n k 0 l = record { order = omega arith; within = within; high = high; before = λ p e. absurd (omega arith); after = low } in
    let (begins, ends) = same_run f n k 0 l t.a t.b q run t.run (omega arith) q_in t.from t.to in
    let image = t.image in
    omega arith

-- a move behind a low place, seen from there
shifted : (f g : ℕ → ℕ) (n m k l q r : ℕ) → ((p : ℕ) → f (l + suc p) ≡ g p) → f l < k → n ≡ suc (l + m) → Moves f n k (l + suc q) r
    → (s : ℕ) × (r ≡ l + suc s) × Moves g m k q s
shifted f g n m k l q r same low size (inl still) = (q, still.1, inl (subst (λ (x : ℕ). x < k) (same q) still.0, refl))
shifted f g n m k l q r same low size (inr t) =
    let from = t.from in let to = t.to in let image = t.image in let within = t.run.within in
    let behind_low : l < t.a = elim (cases_lt l t.a) [
      | inl less ↦ less
      | inr more ↦ let h = t.run.high l more (omega arith) in absurd (omega arith)
    ] in
    let a = t.a - suc l in
    let b = t.b - suc l in
    let at_a : l + suc a ≡ t.a = omega arith in
    let at_b : l + suc b ≡ t.b = omega arith in
    let high : AreHigh g k a b = λ p pa pb. subst (λ (x : ℕ). k ≤ x) (same p) (t.run.high (l + suc p) (omega arith) (omega arith)) in
    let before : BeginsLow g k a = λ p e. subst (λ (x : ℕ). x < k) (same p) (t.run.before (l + suc p) (omega arith)) in
    let after : b < m → g b < k = λ less. subst (λ (x : ℕ). x < k) (same b) (subst (λ (x : ℕ). f x < k) (sym at_b) (t.run.after (omega arith))) in
    let run : IsLevelRun g m k a b = record { order = omega arith; within = omega arith; high = high; before = before; after = after } in
    let s = r - suc l in
    let is : r ≡ l + suc s = omega arith in
    (s, is, inr (record { a = a; b = b; run = run; from = omega arith; to = omega arith; image = omega arith }))

-- a low place stays
at_low : (levels : List ℕ) (k : ℕ) (back run : List ℕ) (x : ℕ) (ys : List ℕ) (q r : ℕ) → length run ≡ q → get_or ys (length run) 0 ≡ x
    → level_in levels ys (length run) < k → Moves (level_in levels ys) (length ys) k q r → get_or (run ++ (x ∷ back)) q 0 ≡ get_or ys r 0
at_low levels k back run x ys q r same here low (inl still) =
    let e : length run ≡ r = omega (arith, still.1) in
    ap (λ (j : ℕ). get_or (run ++ (x ∷ back)) j 0) (sym same) ∙ get_or-append_seam run x back 0 ∙ sym here ∙ ap (λ (j : ℕ). get_or ys j 0) e
at_low levels k back run x ys q r same here low (inr t) =
    let high = t.run.high q t.from t.to in
    let low_q = subst (λ (j : ℕ). level_in levels ys j < k) same low in
    absurd (omega arith)

-- one reversal brings what stands at r to q
pub l2_reversed-moves : (levels : List ℕ) (k : ℕ) (run xs ys : List ℕ) → ys ≡ reverse run ++ xs → AreHigh (level_in levels ys) k 0 (length run)
    → (q r : ℕ) → q < length ys → Moves (level_in levels ys) (length ys) k q r → get_or (l2_reversed levels k run xs) q 0 ≡ get_or ys r 0
l2_reversed-moves levels k run [] ys e high q r within moves =
    let size : length ys ≡ length run = ap length e ∙ length-append (reverse run) [] ∙ (let l = length-reverse run in omega arith) in
    let at : suc (q + r) ≡ length run = first_run (level_in levels ys) (length ys) k (length run) q r high (omega arith) (λ less. absurd (omega arith)) (omega arith) moves in
    held run [] q r at ∙ ap (λ (zs : List ℕ). get_or zs r 0) (sym e)
l2_reversed-moves levels k run (x ∷ xs) ys e high q r within moves =
    let size : length ys ≡ suc (length run + length xs) = ap length e ∙ length-append (reverse run) (x ∷ xs) ∙ (let l = length-reverse run in omega arith) in
    let turn = length-reverse run in
    let here : get_or ys (length run) 0 ≡ x =
    ap (λ (zs : List ℕ). get_or zs (length run) 0) e ∙ ap (λ (j : ℕ). get_or (reverse run ++ (x ∷ xs)) j 0) (sym turn) ∙ get_or-append_seam (reverse run) x xs 0 in
    let after : (p : ℕ) → get_or ys (length run + suc p) 0 ≡ get_or xs p 0 = λ p. ap (λ (zs : List ℕ). get_or zs (length run + suc p) 0) e ∙ behind (reverse run) x xs (length run + suc p) p (omega arith) in
    let same_here : level_in levels ys (length run) ≡ get_or levels x 0 = ap (λ (i : ℕ). get_or levels i 0) here in
    let W : Bool → Type 0 = λ v. get_or (if v then l2_reversed levels k (x ∷ run) xs else run ++ (x ∷ l2_reversed levels k [] xs)) q 0 ≡ get_or ys r 0 in
    elim (cases_lt (get_or levels x 0) k) as (λ _. W (leb k (get_or levels x 0))) [
      | inr more ↦
          let more_high : AreHigh (level_in levels ys) k 0 (suc (length run)) = λ p from to. elim (cases_eq (length run) p) [
            | inl same ↦ subst (λ (j : ℕ). k ≤ level_in levels ys j) same (subst (λ (v : ℕ). k ≤ v) (sym same_here) more)
            | inr other ↦ high p from (omega arith)
          ] in
          let whole : ys ≡ reverse (x ∷ run) ++ xs = e ∙ sym (append_assoc (reverse run) (x ∷ []) xs) ∙ ap (λ (zs : List ℕ). zs ++ xs) (sym (reverse-append (x ∷ []) run)) in
          subst W (sym (le-leb k (get_or levels x 0) more)) (l2_reversed-moves levels k (x ∷ run) xs ys whole more_high q r within moves)
      | inl less ↦
          let low : level_in levels ys (length run) < k = subst (λ (v : ℕ). v < k) (sym same_here) less in
          let goal : get_or (run ++ (x ∷ l2_reversed levels k [] xs)) q 0 ≡ get_or ys r 0 = elim (cases_lt q (length run)) [
            | inl front ↦
                let at = first_run (level_in levels ys) (length ys) k (length run) q r high (omega arith) (λ _. low) front moves in
                get_or_append_left run (x ∷ l2_reversed levels k [] xs) 0 q front ∙ held run (x ∷ xs) q r at ∙ ap (λ (zs : List ℕ). get_or zs r 0) (sym e)
            | inr rest ↦ elim (cases_eq (length run) q) [
              | inl same ↦ at_low levels k (l2_reversed levels k [] xs) run x ys q r same here low moves
              | inr other ↦
                  let p = q - suc (length run) in
                  let place : q ≡ length run + suc p = omega arith in
                  let M : ℕ → Type 0 = λ j. Moves (level_in levels ys) (length ys) k j r in
                  let found = shifted (level_in levels ys) (level_in levels xs) (length ys) (length xs) k (length run) p r
                  (λ j. ap (λ (i : ℕ). get_or levels i 0) (after j)) low size (subst M place moves) in
                  let s = found.0 in
                  let moved = l2_reversed-moves levels k [] xs xs refl (λ j from to. absurd (omega arith)) p s (omega arith) found.2 in
                  behind run x (l2_reversed levels k [] xs) q p place ∙ moved ∙ sym (after s) ∙ ap (λ (j : ℕ). get_or ys j 0) (sym found.1)
            ]
          ] in
          subst W (sym (lt-leb k (get_or levels x 0) less)) goal
    ]

agree_by : (f g : ℕ → ℕ) (n k j p r : ℕ) → j ≤ k → g p ≡ f r → Moves f n k p r → (j ≤ f p → j ≤ g p) × (f p < j → g p < j)
agree_by f g n k j p r below same (inl still) =
    let e : g p ≡ f p = same ∙ ap f still.1 in
    ((λ h. omega arith), (λ h. omega arith))
agree_by f g n k j p r below same (inr t) =
    let from = t.from in let to = t.to in let image = t.image in
    let high = t.run.high p t.from t.to in
    let there = t.run.high r (omega arith) (omega arith) in
    ((λ h. omega arith), (λ h. absurd (omega arith)))

-- a reversal changes no place's height below its own level
l2_reversed-agree : (levels : List ℕ) (k : ℕ) (xs : List ℕ) → Agree (level_in levels xs) (level_in levels (l2_reversed levels k [] xs)) (length xs) k
l2_reversed-agree levels k xs j p below within =
    let m = moves_of (level_in levels xs) (length xs) k p within in
    let at = l2_reversed-moves levels k [] xs xs refl (λ i from to. absurd (omega arith)) p m.0 within m.1 in
    let same : level_in levels (l2_reversed levels k [] xs) p ≡ level_in levels xs m.0 = ap (λ (i : ℕ). get_or levels i 0) at in
    agree_by (level_in levels xs) (level_in levels (l2_reversed levels k [] xs)) (length xs) k j p m.0 below same m.1

-- all reversals bring what stands at q to p
pub l2_reversed_down-comes : (levels : List ℕ) (base n : ℕ) (xs : List ℕ) (p q : ℕ) → p < length xs → Comes (level_in levels xs) (length xs) base n p q
    → get_or (l2_reversed_down levels base n xs) p 0 ≡ get_or xs q 0
l2_reversed_down-comes levels base zero xs p q within c = ap (λ (j : ℕ). get_or xs j 0) (sym c)
l2_reversed_down-comes levels base (suc n) xs p q within (r, c, moves) =
    let k = base + suc n in
    let ys = l2_reversed levels k [] xs in
    let size : length xs ≡ length ys = omega (arith, total-l2_reversed (λ _. 1) levels k [] xs, total-ones xs, total-ones ys) in
    let on_ys : Comes (level_in levels ys) (length xs) base n p r = Comes-agree (level_in levels xs) (level_in levels ys) (length xs) k base n p r (l2_reversed-agree levels k xs) (omega arith) within c in
    let C : ℕ → Type 0 = λ len. Comes (level_in levels ys) len base n p r in
    let low = l2_reversed_down-comes levels base n ys p r (omega arith) (subst C size on_ys) in
    let r_within = (Comes-within (level_in levels xs) (length xs) base n p r c).0 within in
    low ∙ l2_reversed-moves levels k [] xs xs refl (λ i from to. absurd (omega arith)) r q r_within moves

pub l2_visual_order-length : (base : ℕ) (levels : List ℕ) → length (l2_visual_order base levels) ≡ length levels
l2_visual_order-length base levels =
    sym (total-ones (l2_visual_order base levels)) ∙ total-order (λ _. 1) base levels
    ∙ total-ones (range_with_len 0 (length levels)) ∙ length-range_with_len 0 (length levels)

-- the whole order at a place
pub l2_visual_order-comes : (base : ℕ) (levels : List ℕ) (p q : ℕ) → p < length levels
    → Comes (λ i. get_or levels i 0) (length levels) base (highest levels - base) p q → get_or (l2_visual_order base levels) p 0 ≡ q
l2_visual_order-comes base levels p q within c =
    let n = length levels in
    let m = highest levels - base in
    let xs = range_with_len 0 n in
    let size = length-range_with_len 0 n in
    let at : (i : ℕ) → i < n → get_or xs i 0 ≡ i = λ i less. get_or-range_with_len 0 n i 0 less ∙ omega arith in
    let same : (i : ℕ) → i < n → level_in levels xs i ≡ get_or levels i 0 = λ i less. ap (λ (j : ℕ). get_or levels j 0) (at i less) in
    let agree : Agree (λ i. get_or levels i 0) (level_in levels xs) n (base + m) = λ k i below less. let e = same i less in ((λ h. omega arith), (λ h. omega arith)) in
    let on_xs = Comes-agree (λ i. get_or levels i 0) (level_in levels xs) n (base + m) base m p q agree (omega arith) within c in
    let C : ℕ → Type 0 = λ len. Comes (level_in levels xs) len base m p q in
    l2_reversed_down-comes levels base m xs p q (omega arith) (subst C (sym size) on_xs) ∙ at q ((Comes-within (λ i. get_or levels i 0) n base m p q c).0 within)

pub highest-bounds : (levels : List ℕ) (i : ℕ) → i < length levels → get_or levels i 0 ≤ highest levels
highest-bounds (level ∷ levels) zero within = omega arith
highest-bounds (level ∷ levels) (suc i) within = let h = highest-bounds levels i (omega arith) in omega arith
highest-bounds [] i within = absurd (omega arith)

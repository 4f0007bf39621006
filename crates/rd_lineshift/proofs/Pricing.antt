-- The cheapest of shifts, found one after another.
use Rattle.std.proofs.Common.{◌≡◌, ℕ, suc, ◌+◌, ◌-◌, ◌<◌, ◌≤◌, nat_le, Bool, true, false, if◌then◌else◌, List, [], ◌∷◌, ◌++◌, length, get_or, drop, Option, None, Some, IfSome, refl, sym, ap, ◌∙◌, arith}
use Rattle.std.specs.List.{flat_map}
use Rattle.std.proofs.lemmas.Bool.Decides.{nat_tests}
use Rattle.std.proofs.lemmas.List.{drop_more}
use Rattle.std.specs.Prelude.{pos, neg_ℤ}
use Rattle.rd_base.proofs.Choices.{either, of-choice}
use Rattle.rd_lineshift.specs.Choices.{cheaper, cheapest, if_gains, shift_by, shifts_from, shifts_of}
use Rattle.rd_lineshift.specs.Numbers.{gained, lesser, priced}
use Rattle.rd_lineshift.specs.declared.band.Band.{Band}
use Rattle.rd_lineshift.specs.declared.band.Shift.{Shift}
use Rattle.rd_lineshift.specs.declared.choice.Priced.{Priced}

pub lesser-priced : (f : Shift → ℕ) (s t : Option Shift) → lesser (priced f s) (priced f t) ≡ priced f (cheaper f s t)
lesser-priced f None t = refl
lesser-priced f (Some s) None = refl
lesser-priced f (Some s) (Some t) = sym (of-choice (priced f) (nat_le (f s) (f t)) (Some s) (Some t))

pub lesser-none : (p : Option Priced) → lesser p None ≡ p
lesser-none None = refl
lesser-none (Some p) = refl

lesser-by : (a b c : Bool) (p q r : Priced) → nat_le p.cost q.cost ≡ a → nat_le q.cost r.cost ≡ b → nat_le p.cost r.cost ≡ c
    → lesser (if a then Some p else Some q) (Some r) ≡ lesser (Some p) (if b then Some q else Some r)
lesser-by true true true p q r e f g = rw (g, e) refl
lesser-by true true false p q r e f g = absurd (let h : nat_le p.cost r.cost ≡ true = grind (arith, nat_tests) in cc)
lesser-by true false c p q r e f g = refl
lesser-by false true c p q r e f g = rw (f, e) refl
lesser-by false false true p q r e f g = absurd (let h : nat_le p.cost r.cost ≡ false = grind (arith, nat_tests) in cc)
lesser-by false false false p q r e f g = rw (f, g) refl

pub lesser-assoc : (p q r : Option Priced) → lesser (lesser p q) r ≡ lesser p (lesser q r)
lesser-assoc None q r = refl
lesser-assoc (Some p) None r = refl
lesser-assoc (Some p) (Some q) None = lesser-none (lesser (Some p) (Some q))
lesser-assoc (Some p) (Some q) (Some r) = lesser-by (nat_le p.cost q.cost) (nat_le q.cost r.cost) (nat_le p.cost r.cost) p q r refl refl refl

pub lesser-bound : (p q : Option Priced) → IfSome p (λ r. r.cost ≤ 200) → IfSome q (λ r. r.cost ≤ 200) → IfSome (lesser p q) (λ r. r.cost ≤ 200)
lesser-bound None q h k = k
lesser-bound (Some p) None h k = h
lesser-bound (Some p) (Some q) h k = either (λ o. IfSome o (λ r. r.cost ≤ 200)) (nat_le p.cost q.cost) (Some p) (Some q) h k

pub priced-is : (f : Shift → ℕ) (p : Priced) (s : Shift) → p.shift ≡ s → p.cost ≡ f s → Some p ≡ priced f (Some s)
priced-is f p s e g = λ i. Some (record { shift = e i; cost = g i })

-- two more shifts of a band
two-more : (f : Shift → ℕ) (band : Band) (by more : ℕ) (rest : List Shift) (best u d : Option Priced) → u ≡ priced f (Some (shift_by band (pos by))) → d ≡ priced f (Some (shift_by band (neg_ℤ (pos by))))
    → lesser (lesser (lesser best u) d) (priced f (cheapest f (shifts_from band (suc by) more ++ rest))) ≡ lesser best (priced f (cheapest f (shifts_from band by (suc more) ++ rest)))
two-more f band by more rest best u d e g =
    let s = Some (shift_by band (pos by)) in
    let t = Some (shift_by band (neg_ℤ (pos by))) in
    let others = cheapest f (shifts_from band (suc by) more ++ rest) in
    lesser-assoc (lesser best u) d (priced f others)
    ∙ lesser-assoc best u (lesser d (priced f others))
    ∙ ap (λ x. lesser best (lesser u (lesser x (priced f others)))) g
    ∙ ap (λ x. lesser best (lesser u x)) (lesser-priced f t others)
    ∙ ap (λ x. lesser best (lesser x (priced f (cheaper f t others)))) e
    ∙ ap (lesser best) (lesser-priced f s (cheaper f t others))

pub band-step : (f : Shift → ℕ) (band : Band) (by : ℕ) (rest : List Shift) (best u d whole : Option Priced) → by < band.height
    → u ≡ priced f (Some (shift_by band (pos by))) → d ≡ priced f (Some (shift_by band (neg_ℤ (pos by))))
    → lesser best (priced f (cheapest f (shifts_from band by (band.height - by) ++ rest))) ≡ whole
    → lesser (lesser (lesser best u) d) (priced f (cheapest f (shifts_from band (by + 1) (band.height - (by + 1)) ++ rest))) ≡ whole
band-step f band by rest best u d whole lt e g h =
    let next : by + 1 ≡ suc by = omega arith in
    let more : band.height - by ≡ suc (band.height - (by + 1)) = omega arith in
    ap (λ n. lesser (lesser (lesser best u) d) (priced f (cheapest f (shifts_from band n (band.height - (by + 1)) ++ rest)))) next
    ∙ two-more f band by (band.height - (by + 1)) rest best u d e g
    ∙ ap (λ n. lesser best (priced f (cheapest f (shifts_from band by n ++ rest)))) (sym more)
    ∙ h

-- the shifts of one more band, and none of them left
pub band-begins : (f : Shift → ℕ) (bands : List Band) (i : ℕ) (d : Band) (best whole : Option Priced) → i < length bands
    → lesser best (priced f (cheapest f (flat_map shifts_of (drop i bands)))) ≡ whole
    → lesser best (priced f (cheapest f (shifts_of (get_or bands i d) ++ flat_map shifts_of (drop (i + 1) bands)))) ≡ whole
band-begins f bands i d best whole lt h = ap (λ xs. lesser best (priced f (cheapest f (flat_map shifts_of xs)))) (sym (drop_more bands i d lt)) ∙ h

pub band-ends : (f : Shift → ℕ) (band : Band) (by : ℕ) (rest : List Shift) (best whole : Option Priced) → band.height ≤ by
    → lesser best (priced f (cheapest f (shifts_from band by (band.height - by) ++ rest))) ≡ whole → lesser best (priced f (cheapest f rest)) ≡ whole
band-ends f band by rest best whole le h =
    let none : band.height - by ≡ 0 = omega arith in
    ap (λ n. lesser best (priced f (cheapest f (shifts_from band by n ++ rest)))) (sym none) ∙ h

-- ---- what is taken

gained-same : (f g : Shift → ℕ) (rows : ℕ) → ((s : Shift) → f s ≡ g s) → (s : Option Shift) → gained rows (priced f s) ≡ if_gains g rows s
gained-same f g rows same None = refl
gained-same f g rows same (Some s) = ap (λ n. if nat_le (n + 3) rows then Some s else None) (same s)

pub taken-is : (f g : Shift → ℕ) (rows : ℕ) (xs : List Shift) → ((s : Shift) → f s ≡ g s) → gained rows (priced f (cheapest f xs)) ≡ if_gains g rows (cheapest g xs)
taken-is f g rows xs same =
    let found : cheapest f xs ≡ cheapest g xs = λ i. cheapest (λ (s : Shift). same s i) xs in
    gained-same f g rows same (cheapest f xs) ∙ ap (if_gains g rows) found

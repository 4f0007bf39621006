-- Rows that are near.
use Rattle.std.proofs.Common.{◌≡◌, ℕ, ◌+◌, ◌<◌, ◌≤◌, inl, inr, Bool, true, false, cond, ◌&&◌, ◌||◌, leb, ltb, min, max, ap, ◌∙◌, arith}
use Rattle.std.proofs.Math.Bool.{or-true}
use Rattle.std.proofs.lemmas.Bool.{and_from, cases_Bool, le-leb}
use Rattle.rd_start.specs.Near.{is_near, is_within}
use Rattle.rd_start.specs.Starts.{Places, scrolled, suits}
use Rattle.rd_start.specs.declared.wanted.Wanted.{Wanted}
use Rattle.rd_start.proofs.Tests.{in-range}

abbrev near_forced : Wanted → Places → ℕ → Bool
near_forced w at k = leb (min at.old (scrolled w at)) k && ltb k (max at.old (scrolled w at) + w.height)

abbrev near_view : Wanted → Places → ℕ → Bool
near_view w at k = leb at.old k && ltb k (at.old + w.height)

abbrev near_both : Wanted → Places → ℕ → Bool
near_both w at k = is_within w.conservatively (w.conservatively + w.height) at.old k || is_within w.height w.height at.point k

is-forced : (w : Wanted) (at : Places) (k : ℕ) → w.forced ≡ true → is_near w at k ≡ near_forced w at k
is-forced w at k e = ap (λ b. cond b (near_forced w at k) (cond (suits w at at.old) (near_view w at k) (near_both w at k))) e

is-free : (w : Wanted) (at : Places) (k : ℕ) → w.forced ≡ false → is_near w at k ≡ cond (suits w at at.old) (near_view w at k) (near_both w at k)
is-free w at k e = ap (λ b. cond b (near_forced w at k) (cond (suits w at at.old) (near_view w at k) (near_both w at k))) e

is-moving : (w : Wanted) (at : Places) (k : ℕ) → w.forced ≡ false → suits w at at.old ≡ false → is_near w at k ≡ near_both w at k
is-moving w at k e f = is-free w at k e ∙ ap (λ b. cond b (near_view w at k) (near_both w at k)) f

within : (c d old k : ℕ) → old ≤ k + c → k ≤ old + d → is_within c d old k ≡ true
within c d old k low high = and_from (leb old (k + c)) (leb k (old + d)) (le-leb old (k + c) low) (le-leb k (old + d) high)

within-old : (c d old k : ℕ) (other : Bool) → old ≤ k + c → k ≤ old + d → (is_within c d old k || other) ≡ true
within-old c d old k other low high =
    let t = within c d old k low high in
    ap (λ b. b || other) t

pub forced-near : (w : Wanted) (at : Places) (k : ℕ) → w.forced ≡ true → min at.old (scrolled w at) ≤ k → k < max at.old (scrolled w at) + w.height → is_near w at k ≡ true
forced-near w at k e low high =
    let t = in-range (min at.old (scrolled w at)) (max at.old (scrolled w at) + w.height) k low high in
    is-forced w at k e ∙ t

pub moving-near : (w : Wanted) (at : Places) (k : ℕ) → w.forced ≡ false → suits w at at.old ≡ false → at.old ≤ k + w.conservatively → k ≤ at.old + (w.conservatively + w.height) → is_near w at k ≡ true
moving-near w at k e f low high =
    is-moving w at k e f ∙ within-old w.conservatively (w.conservatively + w.height) at.old k (is_within w.height w.height at.point k) low high

pub point-near : (w : Wanted) (at : Places) (k : ℕ) → w.forced ≡ false → suits w at at.old ≡ false → at.point ≤ k + w.height → k ≤ at.point + w.height → is_near w at k ≡ true
point-near w at k e f low high =
    let t = within w.height w.height at.point k low high in
    is-moving w at k e f ∙ (ap (λ b. is_within w.conservatively (w.conservatively + w.height) at.old k || b) t ∙ or-true (is_within w.conservatively (w.conservatively + w.height) at.old k))

pub view-near : (w : Wanted) (at : Places) (k : ℕ) → w.forced ≡ false → at.old ≤ k → k < at.old + w.height → is_near w at k ≡ true
view-near w at k e low high =
    elim (cases_Bool (suits w at at.old)) [
      | inl stays ↦
          let t = in-range at.old (at.old + w.height) k low high in
          is-free w at k e ∙ (ap (λ b. cond b (near_view w at k) (near_both w at k)) stays ∙ t)
      | inr moves ↦ moving-near w at k e moves (omega arith) (omega arith)
    ]

-- the old start's row is near
pub old-near : (w : Wanted) (at : Places) → 1 ≤ w.height → is_near w at at.old ≡ true
old-near w at some =
    elim (cases_Bool w.forced) [
      | inl forced ↦ forced-near w at at.old forced (omega arith) (omega arith)
      | inr free ↦ view-near w at at.old free (omega arith) (omega arith)
    ]

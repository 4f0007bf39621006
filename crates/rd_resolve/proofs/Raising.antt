-- One step of the walk that raises a line's levels (I1, I2).
use Rattle.std.proofs.Common.{◌≡◌, ℕ, ◌+◌, ◌<◌, ◌≤◌, if◌then◌else◌, List, ◌∷◌, ◌++◌, length, take, drop, set, slice_get, Some, All, ap, sym, ◌∙◌, arith}
use Rattle.rd_base.proofs.Choices.{of-choice}
use Rattle.rd_base.proofs.Lists.{all-at, drop-at, get-drop, written}
use Rattle.rd_base.specs.Classes.{x9_is_removed}
use Rattle.rd_base.specs.declared.limits.TheConstants.{MAX_DEPTH}
use Rattle.rd_base.specs.declared.class.Class.{Class}
use Rattle.rd_resolve.specs.Implicit.{i1_i2_level, i1_i2, kept}

pub bounded : (xs ys : List ℕ) (i r : ℕ) → All (λ l. l ≤ MAX_DEPTH) ys → drop i xs ≡ drop i ys → slice_get xs i ≡ Some r → r ≤ MAX_DEPTH
bounded xs ys i r all same read =
    all-at (λ l. l ≤ MAX_DEPTH) ys i r all
    (sym (get-drop i ys i 0 (omega arith)) ∙ sym (ap (λ zs. slice_get zs 0) same) ∙ get-drop i xs i 0 (omega arith) ∙ read)

kept-step : (before own : ℕ) (c : Class) (cs : List Class) (ls : List ℕ) (v : ℕ) → v ≡ (if x9_is_removed c then before else own)
    → kept before (c ∷ cs) (own ∷ ls) ≡ v ∷ kept v cs ls
kept-step before own c cs ls v e = rw e (sym (of-choice (λ (v : ℕ). v ∷ kept v cs ls) (x9_is_removed c) before own))

pub raise-step : (before v i : ℕ) (cs ts : List Class) (ls all : List ℕ) (c t : Class) (l : ℕ)
    → i < length cs → length ts ≡ length cs → length ls ≡ length cs
    → slice_get cs i ≡ Some c → slice_get ts i ≡ Some t → slice_get ls i ≡ Some l
    → v ≡ (if x9_is_removed c then before else i1_i2_level l t)
    → take i ls ++ kept before (drop i cs) (i1_i2 (drop i ts) (drop i ls)) ≡ all
    → take (i + 1) (set ls i v) ++ kept v (drop (i + 1) cs) (i1_i2 (drop (i + 1) ts) (drop (i + 1) ls)) ≡ all
raise-step before v i cs ts ls all c t l within same_ts same_ls read_c read_t read_l e h =
    let at_cs = drop-at cs i c read_c in
    let at_ts = drop-at ts i t read_t in
    let at_ls = drop-at ls i l read_l in
    let whole : kept before (drop i cs) (i1_i2 (drop i ts) (drop i ls)) ≡ v ∷ kept v (drop (i + 1) cs) (i1_i2 (drop (i + 1) ts) (drop (i + 1) ls)) =
    rw (at_cs, at_ts, at_ls) (kept-step before (i1_i2_level l t) c (drop (i + 1) cs) _ v e) in
    let fits : i < length ls = omega arith in
    written ls i v _ all fits (ap (λ r. take i ls ++ r) (sym whole) ∙ h)

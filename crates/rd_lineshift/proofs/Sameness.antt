-- Rows that are told apart.
use Rattle.std.proofs.Common.{◌≡◌, ◌≢◌, ℕ, ◌==◌, Bool, true, false, not, if◌then◌else◌, List, [], ◌∷◌, length, refl, sym, ap, ◌∙◌}
use Rattle.std.specs.Cmp.Derive.{one_truth}
use Rattle.std.proofs.lemmas.Bool.{eq-eqb, eqb-true, not_from_true, true_from_ne_false}
use Rattle.rd_base.specs.declared.cell.Cell.{Cell}
use Rattle.rd_base.proofs.Equals.{cell-itself}
use Rattle.rd_update.specs.Updates.{differs}
use Rattle.rd_update.proofs.Comparing.{differs-first}
use Rattle.rd_update.proofs.Spans.{no-difference}
use Rattle.rd_lineshift.specs.Numbers.{print_from}

pub is-test : (m n : ℕ) (b : Bool) → (m ≡ n → b ≡ true) → (b ≡ true → m ≡ n) → (m == n) ≡ b
is-test m n b p q = one_truth (m == n) b (λ e. p (eqb-true m n e)) (λ t. eq-eqb m n (q t))

pub is-apart : (b : Bool) → (b ≡ false → ⊥) → false ≡ not b
is-apart b never = sym (not_from_true b (true_from_ne_false b never))

pub differs-itself : (xs : List Cell) → differs xs xs ≡ false
differs-itself [] = refl
differs-itself (x ∷ xs) = differs-first x x xs xs ∙ ap (λ b. if b then differs xs xs else true) (cell-itself x) ∙ differs-itself xs

pub prints-apart : (xs ys : List Cell) → length xs ≡ length ys → print_from 0 xs ≢ print_from 0 ys → false ≡ not (differs xs ys)
prints-apart xs ys n apart = is-apart (differs xs ys) (λ e. apart (ap (print_from 0) (sym (no-difference xs ys n e))))

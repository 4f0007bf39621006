-- Pieces of bytes, as the code finds them.
use Rattle.std.proofs.Common.{◌≡◌, ◌≢◌, ◌==◌, ℕ, false, List, [], ◌∷◌, drop, None, Some, refl, sym, ap, ◌∙◌, subst}
use Rattle.std.proofs.lemmas.Bool.{eq-eqb, ne_eqb}
use Rattle.std.specs.List.{All, AllByRecursion, slice_split}
use Rattle.std.proofs.lemmas.List.Elements.{All-from_recursion}
use Rattle.std.proofs.lemmas.List.Splits.{slice_split_at, slice_split_none}
use Rattle.rd_base.proofs.Cutting.{IsCut, cut-is}
use Rattle.rd_base.proofs.Lists.{each-weaker}
use Rattle.rd_base.specs.Cuts.{cut}

pub first_of_pieces : (piece : List ℕ) (more all : List (List ℕ)) → all ≡ piece ∷ more → all ≡ piece ∷ drop 1 all
first_of_pieces piece more all e = e ∙ ap (λ (rest : List (List ℕ)). piece ∷ rest) (sym (ap (drop 1) e))

-- bytes that are not the separator do not pass its test
others : (c : ℕ) (bs : List ℕ) → AllByRecursion (λ b. b ≢ c) bs → All (λ b. (b == c) ≡ false) bs
others c bs none = All-from_recursion (λ b. (b == c) ≡ false) bs (each-weaker (λ b. b ≢ c) (λ b. (b == c) ≡ false) (λ b. ne_eqb b c) bs none)

-- the first piece ends at the first separator
pub pieces-cut : (c : ℕ) (bs front rest : List ℕ) → cut c bs ≡ Some (front, rest) → slice_split (λ b. b == c) bs ≡ front ∷ slice_split (λ b. b == c) rest
pieces-cut c bs front rest e =
    let h = subst (IsCut c bs) e (cut-is c bs) in
    ap (slice_split (λ b. b == c)) h.1 ∙ slice_split_at (λ b. b == c) front c rest (others c front h.0) (eq-eqb c c refl)

-- without a separator there is one piece
pub pieces-uncut : (c : ℕ) (bs : List ℕ) → cut c bs ≡ None → slice_split (λ b. b == c) bs ≡ bs ∷ []
pieces-uncut c bs e = slice_split_none (λ b. b == c) bs (others c bs (subst (IsCut c bs) e (cut-is c bs)))

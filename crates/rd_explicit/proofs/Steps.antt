-- One step of the explicit rules X1 to X8 over a line.
use Rattle.std.proofs.Common.{◌≡◌, ℕ, ◌+◌, ◌<◌, ◌≤◌, List, ◌∷◌, ◌++◌, length, take, drop, set, map, slice_get, Some, All, refl, ap, sym, ◌∙◌, arith}
use Rattle.std.proofs.lemmas.List.{take_more_set}
use Rattle.std.proofs.lemmas.List.Elements.{All-push}
use Rattle.rd_base.specs.declared.limits.TheConstants.{MAX_DEPTH}
use Rattle.rd_base.specs.declared.class.Class.{Class}
use Rattle.rd_explicit.specs.declared.state.State.{State}
use Rattle.rd_explicit.specs.declared.state.Given.{Given}
use Rattle.rd_explicit.specs.Explicit.{explicit_from, given, after}
use Rattle.rd_base.proofs.Lists.{drop-at, written}

module _ (base : ℕ) (s t : State) (cs : List Class) (i : ℕ) (c : Class) (g : Given)
    (within : i < length cs) (read : slice_get cs i ≡ Some c)
    (gives : g ≡ given base s c (drop (i + 1) cs)) (goes : t ≡ after s c (drop (i + 1) cs)) where
  step-is : explicit_from base s (drop i cs) ≡ g ∷ explicit_from base t (drop (i + 1) cs)
  step-is = rw (drop-at cs i c read, gives, goes) refl

  -- what is read off the givens, written into a list of the line's length as far as the next place
  pub column-step : {X : Type 0} (f : Given → X) (xs all : List X) → length xs ≡ length cs
      → take i xs ++ map f (explicit_from base s (drop i cs)) ≡ all
      → take (i + 1) (set xs i (f g)) ++ map f (explicit_from base t (drop (i + 1) cs)) ≡ all
  column-step f xs all same before =
      written xs i (f g) (map f (explicit_from base t (drop (i + 1) cs))) all (omega arith)
      (ap (λ gs. take i xs ++ map f gs) (sym step-is) ∙ before)

-- a level of at most max_depth is added to such levels
pub low-step : (ls : List ℕ) (i v : ℕ) → i < length ls → All (λ l. l ≤ MAX_DEPTH) (take i ls) → v ≤ MAX_DEPTH → All (λ l. l ≤ MAX_DEPTH) (take (i + 1) (set ls i v))
low-step ls i v within all low = rw (take_more_set ls i v within) (All-push (λ l. l ≤ MAX_DEPTH) (take i ls) v all low)

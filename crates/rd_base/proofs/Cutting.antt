-- Bytes that lack a byte, or were cut at the first one.
use Rattle.std.proofs.Common.{◌≡◌, ◌≢◌, ◌==◌, ℕ, Bool, true, false, if◌then◌else◌, Option, None, Some, option_map, List, [], ◌∷◌, ◌++◌, refl, ap}
use Rattle.std.specs.Prelude.{MatchOption}
use Rattle.std.specs.List.{AllByRecursion}
use Rattle.std.proofs.lemmas.Bool.{eqb-true, eqb-false}
use Rattle.rd_base.specs.Cuts.{cut}

-- bytes that were cut at a byte: without a cut none of them is that byte; else none of the front is, and they are the front, that byte
-- and the rest
abbrev pub IsCut : ℕ → List ℕ → Option (List ℕ × List ℕ) → Type 0
IsCut byte bytes o = MatchOption o (AllByRecursion (λ b. b ≢ byte) bytes) (λ parts. AllByRecursion (λ b. b ≢ byte) parts.0 × (bytes ≡ parts.0 ++ byte ∷ parts.1))

cut-by : (byte b : ℕ) (bs : List ℕ) (t : Bool) (o : Option (List ℕ × List ℕ)) → (b == byte) ≡ t → IsCut byte bs o
    → IsCut byte (b ∷ bs) (if t then Some ([], bs) else option_map (λ parts. (b ∷ parts.0, parts.1)) o)
cut-by byte b bs true o test h = (tt, ap (λ c. c ∷ bs) (eqb-true b byte test))
cut-by byte b bs false None test h = (eqb-false b byte test, h)
cut-by byte b bs false (Some parts) test h = ((eqb-false b byte test, h.0), ap (λ l. b ∷ l) h.1)

pub cut-is : (byte : ℕ) (bs : List ℕ) → IsCut byte bs (cut byte bs)
cut-is byte [] = tt
cut-is byte (b ∷ bs) = cut-by byte b bs (b == byte) (cut byte bs) refl (cut-is byte bs)

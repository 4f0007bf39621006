-- How one walk over a sequence keeps, for BD16, the brackets that stand open and the pairs that it found.
use Rattle.std.specs.Prelude.{◌≡◌, ℕ, ◌<◌, ◌≤◌, Bool, true, false, List, ◌∷◌, ◌++◌, length, take, reverse, slice_index_or, All, Option, None, Some, option_map}
use Rattle.rd_base.specs.declared.limits.TheConstants.{OPEN_BRACKETS}
use Rattle.rd_brackets.specs.Pairs.{opener, below, bd16_pairs_from}
use Rattle.rd_brackets.specs.declared.role.Role.{Role}
use Rattle.rd_brackets.specs.declared.matching.Opened.{Opened}
use Rattle.rd_brackets.specs.declared.matching.Pair.{Pair}
use Rattle.rd_brackets.specs.declared.matching.Matching.{Matching}

-- for BD16, the pairs of the whole sequence, where these roles are left from a place on
abbrev pub all_pairs : Matching → ℕ → List Role → Option (List Pair)
all_pairs m place rs = option_map (λ pairs. m.pairs ++ pairs) (bd16_pairs_from place (reverse m.opened) rs)

-- for BD16, what stands open stands before a place
abbrev pub AreOpenedBefore : ℕ → List Opened → Type 0
AreOpenedBefore place os = All (λ o. o.place < place) os

-- for BD16, what is paired stands before a place
abbrev pub ArePairsBefore : ℕ → List Pair → Type 0
ArePairsBefore place pairs = All (λ p. (p.opening < place) × (p.closing < place)) pairs

-- for BD16, a bracket that opens was added where fewer than 63 stand open, and else not
abbrev pub IsPushed : Bool → ℕ → ℕ → List Opened → List Opened → Type 0
IsPushed true place partner old new =
    (length old < OPEN_BRACKETS) × (reverse new ≡ record { place = place; partner = partner } ∷ reverse old)
IsPushed false place partner old new = OPEN_BRACKETS ≤ length old

-- for BD16, the index of the last of these brackets that a code closes, if there is one
abbrev pub IsLastClosed : Option ℕ → ℕ → List Opened → Type 0
IsLastClosed None code os = opener code (reverse os) ≡ None
IsLastClosed (Some k) code os =
    (k < length os) × ((d : Opened) → opener code (reverse os) ≡ Some (slice_index_or os k d).place) × (below code (reverse os) ≡ reverse (take k os))

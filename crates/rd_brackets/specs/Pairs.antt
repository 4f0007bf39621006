-- Bracket pairs (UAX 9, BD14 to BD16) among the places of one isolating run sequence, which are counted from 0.
use Rattle.std.specs.Prelude.{ℕ, suc, ◌==◌, nat_lt, if◌then◌else◌, List, [], ◌∷◌, ◌++◌, length, map, Option, None, Some, is_some, option_map, unwrap_or}
use Rattle.std.specs.List.{range_with_len}
use Rattle.rd_base.specs.declared.class.Class.{Class}
use Rattle.rd_base.specs.declared.class.Class.TheVariants.{ON}
use Rattle.rd_base.specs.declared.limits.TheConstants.{OPEN_BRACKETS}
use Rattle.rd_ucd.specs.declared.spans.Bracket.{Bracket}
use Rattle.rd_ucd.specs.declared.spans.Bracket.TheVariants.{Opens, Closes}
use Rattle.rd_ucd.specs.declared.spans.BracketEntry.{BracketEntry}
use Rattle.rd_ucd.specs.Lookup.{bracket_in}
use Rattle.rd_brackets.specs.declared.role.Role.{Role}
use Rattle.rd_brackets.specs.declared.role.Role.TheVariants.{Other, Opening, Closing}
use Rattle.rd_brackets.specs.declared.matching.Opened.{Opened}
use Rattle.rd_brackets.specs.declared.matching.Pair.{Pair}

-- for BD16, U+2329 and U+232A count as U+3008 and U+3009, which they are canonically equivalent to
abbrev pub canonical : ℕ → ℕ
canonical code = if code == 9001 then 12296 else (if code == 9002 then 12297 else code)

-- for BD14 and BD15, the role of a code by what the brackets list for it
abbrev pub role_by : ℕ → Option Bracket → Role
role_by code None = Other
role_by code (Some (Opens partner)) = Opening (canonical partner)
role_by code (Some (Closes partner)) = Closing code

-- BD14, BD15: what a character is to rule N0, by its type and its code. Only where its type is ON it is a bracket: an opening one,
-- with the code that closes it, or a closing one, with its own code
abbrev pub bd14_bd15_role : List BracketEntry → Class → ℕ → Role
bd14_bd15_role entries ON code = role_by (canonical code) (bracket_in entries (canonical code))
bd14_bd15_role entries c code = Other

-- BD14, BD15: the roles of these types and codes
abbrev pub roles : List BracketEntry → List Class → List ℕ → List Role
roles entries [] codes = []
roles entries (t ∷ ts) [] = []
roles entries (t ∷ ts) (code ∷ codes) = bd14_bd15_role entries t code ∷ roles entries ts codes

-- for BD16, where the opening bracket stands that a code closes: the entries are looked at from the top of the stack, which is the first of
-- the list
abbrev pub opener : ℕ → List Opened → Option ℕ
opener code [] = None
opener code (o ∷ os) = if o.partner == code then Some o.place else opener code os

-- for BD16, the entries below the opening bracket that a code closes
abbrev pub below : ℕ → List Opened → List Opened
below code [] = []
below code (o ∷ os) = if o.partner == code then os else below code os

-- for BD16, the stack behind a closing bracket: the bracket that it closes and all above are gone; where there is none, nothing changes
abbrev pub closed : ℕ → List Opened → List Opened
closed code os = if is_some (opener code os) then below code os else os

-- for BD16, the pair that a closing bracket makes with an opening one, if there is one
abbrev pub pair_at : Option ℕ → ℕ → List Pair
pair_at None place = []
pair_at (Some opening) place = record { opening = opening; closing = place } ∷ []

-- BD16: the pairs among the roles from a place on, where these brackets are open, in the order of their closing brackets; None where
-- a bracket opens while 63 stand open
abbrev pub bd16_pairs_from : ℕ → List Opened → List Role → Option (List Pair)
bd16_pairs_from place os [] = Some []
bd16_pairs_from place os (Other ∷ rs) = bd16_pairs_from (suc place) os rs
bd16_pairs_from place os (Opening partner ∷ rs) =
    if nat_lt (length os) OPEN_BRACKETS then bd16_pairs_from (suc place) (record { place = place; partner = partner } ∷ os) rs else None
bd16_pairs_from place os (Closing code ∷ rs) =
    option_map (λ pairs. pair_at (opener code os) place ++ pairs) (bd16_pairs_from (suc place) (closed code os) rs)

-- BD16: the pairs of a sequence. Where a bracket opens while 63 stand open there is none at all, which is a choice of this project
abbrev pub bd16_pairs_of : List Role → List Pair
bd16_pairs_of rs = unwrap_or (bd16_pairs_from 0 [] rs) []

-- for N0, where the pair closes that opens at a place
abbrev pub closing_of : List Pair → ℕ → Option ℕ
closing_of [] place = None
closing_of (p ∷ ps) place = if p.opening == place then Some p.closing else closing_of ps place

-- for N0, for each of so many places, where the pair closes that opens there: the pairs in the order of their opening brackets
abbrev pub closings : List Pair → ℕ → List (Option ℕ)
closings pairs count = map (closing_of pairs) (range_with_len 0 count)

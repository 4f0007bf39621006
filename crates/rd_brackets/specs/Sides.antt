-- The types of paired brackets (UAX 9, rule N0), over the types of one isolating run sequence.
use Rattle.std.specs.Prelude.{ℕ, suc, Bool, true, false, if◌then◌else◌, List, [], ◌∷◌, length, take, slice_index, slice_set, slice_range, fold, Option, None, Some, unwrap_or}
use Rattle.std.specs.List.{list_any}
use Rattle.rd_base.specs.Classes.{direction_of}
use Rattle.rd_base.specs.declared.class.Class.{Class}
use Rattle.rd_base.specs.declared.class.Class.TheVariants.{L, R, EN, AN, NSM, ON}
use Rattle.rd_base.specs.declared.line.Seq.{Seq}
use Rattle.rd_ucd.specs.declared.spans.BracketEntry.{BracketEntry}
use Rattle.rd_resolve.specs.Places.{types_at, levels_at, put_at}
use Rattle.rd_brackets.specs.Pairs.{roles, bd16_pairs_of, closings}

-- for N0, whether a type counts as this direction: EN and AN count as R
abbrev pub counts_as : Class → Class → Bool
counts_as L L = true
counts_as R R = true
counts_as R EN = true
counts_as R AN = true
counts_as side t = false

-- for N0, whether one of these types counts as this direction
abbrev pub holds : Class → List Class → Bool
holds side ts = list_any (counts_as side) ts

-- for N0, the other direction
abbrev pub opposite : Class → Class
opposite L = R
opposite side = L

-- for N0, the direction of the last strong type, and the one before these types where none of them is strong
abbrev pub last_side : Class → List Class → Class
last_side before ts = fold (λ side t. if counts_as L t then L else (if counts_as R t then R else side)) before ts

-- N0: the direction that both brackets of a pair take, by the embedding direction, the last strong direction before the opening
-- bracket, and the types between the two. N0 b: the embedding direction, where it stands between them. N0 c: where the opposite one
-- stands there, that one if it also comes before the pair, else the embedding one. N0 d: none, where nothing strong stands there.
abbrev pub n0_pair_side : Class → Class → List Class → Option Class
n0_pair_side embedding before between =
    if holds embedding between then Some embedding
    else (if holds (opposite embedding) between
    then Some (if counts_as (opposite embedding) before then opposite embedding else embedding)
    else None)

-- for N0, the types once both brackets of a pair took a direction, if there is one
abbrev pub put_both : Option Class → ℕ → ℕ → List Class → List Class
put_both None opening closing ts = ts
put_both (Some side) opening closing ts = slice_set (slice_set ts opening side) closing side

-- N0: the types once one pair was taken
abbrev pub n0_with_pair : Class → Class → ℕ → ℕ → List Class → List Class
n0_with_pair embedding sos opening closing ts =
    put_both (n0_pair_side embedding (last_side sos (take opening ts)) (slice_range ts (suc opening) closing)) opening closing ts

-- N0: the types once each pair was taken, in the order of the opening brackets, of which the next may stand at this place
abbrev pub n0_with_pairs : Class → Class → ℕ → List (Option ℕ) → List Class → List Class
n0_with_pairs embedding sos place [] ts = ts
n0_with_pairs embedding sos place (None ∷ cs) ts = n0_with_pairs embedding sos (suc place) cs ts
n0_with_pairs embedding sos place (Some closing ∷ cs) ts = n0_with_pairs embedding sos (suc place) cs (n0_with_pair embedding sos place closing ts)

-- for the end of N0, whether a bracket took a direction
abbrev pub became : Class → Class → Bool
became ON ON = false
became ON t = true
became before t = false

-- for the end of N0, the direction that a mark takes behind a bracket that took one, or behind a mark that did
abbrev pub followed : Option Class → Class → Class → Option Class
followed side NSM ON = side
followed side c t = None

-- for the end of N0, the direction that a character took by the pairs or by this last step, with its class, its type before and its
-- type after the pairs
abbrev pub side_taken : Option Class → Class → Class → Class → Option Class
side_taken side c before t = if became before t then Some t else followed side c t

-- the end of N0: what follows a bracket directly that took a direction, has class NSM and still has type ON, takes it too. The classes
-- of the sequence, its types before and its types after the pairs
abbrev pub n0_with_marks : Option Class → List Class → List Class → List Class → List Class
n0_with_marks side [] before ts = ts
n0_with_marks side (c ∷ cs) [] ts = ts
n0_with_marks side (c ∷ cs) (b ∷ bs) [] = []
n0_with_marks side (c ∷ cs) (b ∷ bs) (t ∷ ts) = unwrap_or (side_taken side c b t) t ∷ n0_with_marks (side_taken side c b t) cs bs ts

-- N0: the types of a sequence after it, by the brackets, its embedding direction, the type at its start, and its classes, codes and types
abbrev pub n0_bracket_types : List BracketEntry → Class → Class → List Class → List ℕ → List Class → List Class
n0_bracket_types entries embedding sos cs codes ts =
    n0_with_marks None cs ts (n0_with_pairs embedding sos 0 (closings (bd16_pairs_of (roles entries ts codes)) (length ts)) ts)

-- for BD14 to BD16, the codes at these indexes
abbrev pub codes_at : List ℕ → List ℕ → List ℕ
codes_at is codes = levels_at is codes

-- for N0, the embedding direction of a sequence: that of the level of its first character, which all have
abbrev pub embedding_of : List ℕ → List ℕ → Class
embedding_of is levels = direction_of (slice_index (levels_at is levels) 0)

-- N0: the types of a line once it is applied to a sequence, by the line's classes, codes, levels and types
abbrev pub n0_brackets_in : List BracketEntry → List Class → List ℕ → List ℕ → Seq → List Class → List Class
n0_brackets_in entries cs codes levels s ts =
    put_at s.indexes
    (n0_bracket_types entries (embedding_of s.indexes levels) s.sos (types_at s.indexes cs) (codes_at s.indexes codes) (types_at s.indexes ts)) ts

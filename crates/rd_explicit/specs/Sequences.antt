-- Isolating run sequences (UAX 9, BD7, BD13, X9, X10).
use Rattle.std.specs.Prelude.{ℕ, ◌+◌, ◌==◌, max, Bool, false, ◌&&◌, if◌then◌else◌, List, [], ◌∷◌, ◌++◌, map, Option, None, Some, is_none, option_and_then, option_map, unwrap_or}
use Rattle.std.specs.List.{last_or}
use Rattle.rd_base.specs.Classes.{x9_is_removed, is_initiator, direction_of}
use Rattle.rd_base.specs.declared.class.Class.{Class}
use Rattle.rd_base.specs.declared.class.Class.TheVariants.{L}
use Rattle.rd_base.specs.declared.line.Seq.{Seq}
use Rattle.rd_explicit.specs.Isolates.{bd9_matching_pdi}

-- An item of what X9 leaves of a line: its index and level; where its matching PDI is, if it is an isolate initiator that has one
-- (BD9); and the levels that X10 looks at beside it. Before it that is the level of the item before it, or the base where there is
-- none. After it that is the level of the item after it, or the base where there is none or it is an unmatched initiator.
pub record Item : Type 0 where
  pub index : ℕ
  pub level : ℕ
  pub partner : Option ℕ
  pub before : ℕ
  pub after : ℕ

-- BD9: where the PDI is that matches a class at an index, the classes after it being cs
abbrev pub bd9_partner : ℕ → Class → List Class → Option ℕ
bd9_partner i c cs = if is_initiator c then bd9_matching_pdi (i + 1) cs else None

-- for X10, the level of the first item, or the base
abbrev pub first_level : ℕ → List Item → ℕ
first_level base [] = base
first_level base (x ∷ xs) = x.level

-- for X9, the item at an index, with the level of the item before it, its class and the classes and items after it
abbrev pub item_at : ℕ → ℕ → ℕ → Class → List Class → ℕ → List Item → Item
item_at base before i c cs level xs = record {
  index = i;
  level = level;
  partner = bd9_partner i c cs;
  before = before;
  after = if is_initiator c && is_none (bd9_partner i c cs) then base else first_level base xs;
}

-- X9: the items of the classes and levels from index i on, the item before them having a level or there being none and the base
-- in its place
abbrev pub x9_items : ℕ → ℕ → ℕ → List Class → List ℕ → List Item
x9_items base before i [] ls = []
x9_items base before i (c ∷ cs) [] = []
x9_items base before i (c ∷ cs) (l ∷ ls) =
    if x9_is_removed c then x9_items base before (i + 1) cs ls
    else item_at base before i c cs l (x9_items base l (i + 1) cs ls) ∷ x9_items base l (i + 1) cs ls

-- for BD7, whether the run after an item has its level
abbrev pub has_level : ℕ → List Item → Bool
has_level l [] = false
has_level l (y ∷ ys) = l == y.level

-- BD7: an item belongs to the run after it where that has its level, and begins one of its own else
abbrev pub with_item : Item → List (List Item) → List (List Item)
with_item x [] = (x ∷ []) ∷ []
with_item x (r ∷ rs) = if has_level x.level r then (x ∷ r) ∷ rs else (x ∷ []) ∷ r ∷ rs

-- BD7: the level runs of items
abbrev pub bd7_level_runs : List Item → List (List Item)
bd7_level_runs [] = []
bd7_level_runs (x ∷ xs) = with_item x (bd7_level_runs xs)

-- for BD13, where the PDI is that matches the last item of a run
abbrev pub last_partner : List Item → Option ℕ
last_partner xs = option_and_then (λ (x : Item). x.partner) (last_or None xs)

-- for BD13, whether a run or a sequence begins with the item at an index
abbrev pub begins : Option ℕ → List Item → Bool
begins None r = false
begins (Some p) [] = false
begins (Some p) (y ∷ ys) = p == y.index

-- for BD13, of these sequences the one that begins with the item at an index
abbrev pub continued : Option ℕ → List (List Item) → List Item
continued p [] = []
continued p (s ∷ ss) = if begins p s then s else continued p ss

-- for BD13, the sequences but the one that begins with the item at an index
abbrev pub others : Option ℕ → List (List Item) → List (List Item)
others p [] = []
others p (s ∷ ss) = if begins p s then ss else s ∷ others p ss

-- BD13: a run whose last item is an isolate initiator goes before the run that begins with the matching PDI, if there is one. For an
-- initiator that has a match and ends its run there always is one, unless a B, which has the base level, stands inside the isolate.
-- The sequences are in the order of their first items.
abbrev pub bd13_joined_runs : List (List Item) → List (List Item)
bd13_joined_runs [] = []
bd13_joined_runs (run ∷ runs) = (run ++ continued (last_partner run) (bd13_joined_runs runs)) ∷ others (last_partner run) (bd13_joined_runs runs)

-- X10: eos, the type at the end of a sequence: the direction of the higher of its last item's level and the level after it
abbrev pub x10_eos : List Item → Class
x10_eos xs = unwrap_or (option_map (λ (x : Item). direction_of (max x.level x.after)) (last_or None xs)) L

-- X10: sos, the type at its start: the direction of the higher of its first item's level and the level before it
abbrev pub x10_sos : List Item → Class
x10_sos [] = L
x10_sos (x ∷ xs) = direction_of (max x.level x.before)

-- for BD13 and X10, the sequence of these items
abbrev pub sequence : List Item → Seq
sequence xs = record { indexes = map (λ x. x.index) xs; sos = x10_sos xs; eos = x10_eos xs }

-- BD13: the isolating run sequences of a line
abbrev pub sequences_of : ℕ → List Class → List ℕ → List Seq
sequences_of base cs ls = map sequence (bd13_joined_runs (bd7_level_runs (x9_items base base 0 cs ls)))

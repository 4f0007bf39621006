-- Explicit levels (UAX 9, rules X1 to X8). Each rule is a definition here; `after` and `given` say which rule a class takes.
use Rattle.std.specs.Prelude.{ℕ, ◌+◌, ◌-◌, ◌%◌, ◌==◌, ◌<◌, ◌≤◌, nat_le, nat_lt, Bool, true, false, ◌&&◌, if◌then◌else◌, List, [], ◌∷◌, length, map, Option, None, Some, unwrap_or}
use Rattle.rd_base.specs.Classes.{x9_is_removed, p2_p3_first_strong}
use Rattle.rd_base.specs.declared.class.Class.{Class}
use Rattle.rd_base.specs.declared.class.Class.TheVariants.{L, R, B, LRE, LRO, RLE, RLO, PDF, LRI, RLI, FSI, PDI}
use Rattle.rd_base.specs.declared.limits.TheConstants.{MAX_DEPTH}
use Rattle.rd_explicit.specs.Isolates.{content}
use Rattle.rd_explicit.specs.declared.stack.DirectionalStatus.{DirectionalStatus}
use Rattle.rd_explicit.specs.declared.state.State.{State}
use Rattle.rd_explicit.specs.declared.state.Given.{Given}

-- the last entry, which is the first of the list; a stack is never empty
abbrev pub top : List DirectionalStatus → DirectionalStatus
top [] = record { level = 0; override_status = None; isolate = false }
top (e ∷ es) = e

-- X1: the state before a line: a stack of one entry with the base level, and nothing counted
abbrev pub x1_start : ℕ → State
x1_start base = record { stack = record { level = base; override_status = None; isolate = false } ∷ []; overflow_isolates = 0; overflow_embeddings = 0; valid_isolates = 0 }

-- for X2 to X5c, the least level of a parity, 1 for odd and 0 for even, above another
abbrev pub level_above : ℕ → ℕ → ℕ
level_above parity level = if level % 2 == parity then level + 2 else level + 1

-- for X2 to X5c, whether a level is at most MAX_DEPTH (BD2), and nothing has overflowed, so that it is entered
abbrev pub is_valid : ℕ → State → Bool
is_valid level s = nat_le level MAX_DEPTH && (s.overflow_isolates == 0 && s.overflow_embeddings == 0)

-- for X2 to X5, an embedding, or an override, at a level
abbrev pub x2_to_x5_embed : ℕ → Option Class → State → State
x2_to_x5_embed level override_status s =
    if is_valid level s then record s { stack = record { level = level; override_status = override_status; isolate = false } ∷ s.stack }
    else if s.overflow_isolates == 0 then record s { overflow_embeddings = s.overflow_embeddings + 1 }
    else s

-- X2: RLE opens an embedding at the next odd level
abbrev pub x2_right_to_left_embedding : State → State
x2_right_to_left_embedding s = x2_to_x5_embed (level_above 1 (top s.stack).level) None s

-- X3: LRE opens an embedding at the next even level
abbrev pub x3_left_to_right_embedding : State → State
x3_left_to_right_embedding s = x2_to_x5_embed (level_above 0 (top s.stack).level) None s

-- X4: RLO opens an override to R at the next odd level
abbrev pub x4_right_to_left_override : State → State
x4_right_to_left_override s = x2_to_x5_embed (level_above 1 (top s.stack).level) (Some R) s

-- X5: LRO opens an override to L at the next even level
abbrev pub x5_left_to_right_override : State → State
x5_left_to_right_override s = x2_to_x5_embed (level_above 0 (top s.stack).level) (Some L) s

-- for X5a to X5c, an isolate at a level
abbrev pub x5a_to_x5c_isolate : ℕ → State → State
x5a_to_x5c_isolate level s =
    if is_valid level s then record s { stack = record { level = level; override_status = None; isolate = true } ∷ s.stack; valid_isolates = s.valid_isolates + 1 }
    else record s { overflow_isolates = s.overflow_isolates + 1 }

-- X5a: RLI opens an isolate at the next odd level
abbrev pub x5a_right_to_left_isolate : State → State
x5a_right_to_left_isolate s = x5a_to_x5c_isolate (level_above 1 (top s.stack).level) s

-- X5b: LRI opens an isolate at the next even level
abbrev pub x5b_left_to_right_isolate : State → State
x5b_left_to_right_isolate s = x5a_to_x5c_isolate (level_above 0 (top s.stack).level) s

-- for X5c, whether P2 and P3 found a level, and it is 1
abbrev pub is_level_one : Option ℕ → Bool
is_level_one None = false
is_level_one (Some level) = level == 1

-- for X5c, whether P2 and P3 find the level 1 in what an FSI isolates, of the classes after it
abbrev pub x5c_starts_right : List Class → Bool
x5c_starts_right cs = is_level_one (p2_p3_first_strong 0 (content cs))

-- X5c: FSI, with these classes after it, is taken as RLI where what it isolates starts right, else as LRI
abbrev pub x5c_first_strong_isolate : State → List Class → State
x5c_first_strong_isolate s cs = if x5c_starts_right cs then x5a_right_to_left_isolate s else x5b_left_to_right_isolate s

-- for X6a, a stack without the entries above the topmost isolate and without that isolate; the entry of X1 always stays
abbrev pub x6a_below_isolate : List DirectionalStatus → List DirectionalStatus
x6a_below_isolate (e ∷ f ∷ es) = if e.isolate then f ∷ es else x6a_below_isolate (f ∷ es)
x6a_below_isolate es = es

-- X6a: PDI closes the overflow isolate that was opened last, else the isolate that was opened last and all embeddings in it; where no
-- isolate is open, nothing changes
abbrev pub x6a_pop_directional_isolate : State → State
x6a_pop_directional_isolate s =
    if nat_lt 0 s.overflow_isolates then record s { overflow_isolates = s.overflow_isolates - 1 }
    else if s.valid_isolates == 0 then s
    else record s { stack = x6a_below_isolate s.stack; overflow_embeddings = 0; valid_isolates = s.valid_isolates - 1 }

-- for X7, a stack without its last entry, unless that is an isolate or the only one
abbrev pub x7_below_embedding : List DirectionalStatus → List DirectionalStatus
x7_below_embedding (e ∷ f ∷ es) = if e.isolate then e ∷ f ∷ es else f ∷ es
x7_below_embedding es = es

-- X7: PDF closes the overflow embedding that was opened last, else the embedding that was opened last, if it is not outside an isolate
abbrev pub x7_pop_directional_format : State → State
x7_pop_directional_format s =
    if nat_lt 0 s.overflow_isolates then s
    else if nat_lt 0 s.overflow_embeddings then record s { overflow_embeddings = s.overflow_embeddings - 1 }
    else record s { stack = x7_below_embedding s.stack }

-- The state after a class: X2 to X5 in turn, X5a, X5b and X5c, X6a, X7. The classes after it serve X5c alone. Every other class
-- leaves the state as it was (X6), also B: that B inside a line ends neither embeddings nor isolates is a choice of this project.
abbrev pub after : State → Class → List Class → State
after s RLE cs = x2_right_to_left_embedding s
after s LRE cs = x3_left_to_right_embedding s
after s RLO cs = x4_right_to_left_override s
after s LRO cs = x5_left_to_right_override s
after s RLI cs = x5a_right_to_left_isolate s
after s LRI cs = x5b_left_to_right_isolate s
after s FSI cs = x5c_first_strong_isolate s cs
after s PDI cs = x6a_pop_directional_isolate s
after s PDF cs = x7_pop_directional_format s
after s c cs = s

-- X6: a character takes the level of the last entry, and its override, where it has one, as type. So do those of X5a to X6a.
abbrev pub x6_level_and_override : DirectionalStatus → Class → Given
x6_level_and_override e c = record { level = e.level; class = unwrap_or e.override_status c }

-- X8: B has the level of the base
abbrev pub x8_paragraph_separator : ℕ → Given
x8_paragraph_separator base = record { level = base; class = B }

-- X9: what is taken out keeps its class and has the base; that is a choice of this project, since nothing reads it before the levels
-- of removed characters are set
abbrev pub x9_removed : ℕ → Class → Given
x9_removed base c = record { level = base; class = c }

-- The level and the type of a class, where the line's base level and the state before it are known. A PDI has what the state after
-- it says.
abbrev pub given : ℕ → State → Class → List Class → Given
given base s B cs = x8_paragraph_separator base
given base s PDI cs = x6_level_and_override (top (after s PDI cs).stack) PDI
given base s c cs = if x9_is_removed c then x9_removed base c else x6_level_and_override (top s.stack) c

-- for X1 to X8, the levels and types of the classes that are left, from a state on
abbrev pub explicit_from : ℕ → State → List Class → List Given
explicit_from base s [] = []
explicit_from base s (c ∷ cs) = given base s c cs ∷ explicit_from base (after s c cs) cs

-- X1 to X8 over a line
abbrev pub explicit : ℕ → List Class → List Given
explicit base cs = explicit_from base (x1_start base) cs

-- the levels that X1 to X8 give
abbrev pub levels_of : List Given → List ℕ
levels_of gs = map (λ g. g.level) gs

-- the types that X1 to X8 give
abbrev pub types_of : List Given → List Class
types_of gs = map (λ g. g.class) gs

-- what keeps a stack within its bounds: an entry's level is at least the number of entries below it, and at most MAX_DEPTH
abbrev pub Rises : List DirectionalStatus → Type 0
Rises [] = Unit {0}
Rises (e ∷ es) = (length es ≤ e.level) × (e.level ≤ MAX_DEPTH) × Rises es

-- each counter is at most n
pub record IsCounted (n : ℕ) (s : State) : Type 0 where
  pub overflow_isolates : s.overflow_isolates ≤ n
  pub overflow_embeddings : s.overflow_embeddings ≤ n
  pub valid_isolates : s.valid_isolates ≤ n

-- each counter rose by at most one
pub record CountsOn (old new : State) : Type 0 where
  pub overflow_isolates : new.overflow_isolates ≤ old.overflow_isolates + 1
  pub overflow_embeddings : new.overflow_embeddings ≤ old.overflow_embeddings + 1
  pub valid_isolates : new.valid_isolates ≤ old.valid_isolates + 1

-- a state that a rule may be applied to: one entry or more, within their bounds, and each counter at most n
pub record IsReady (n : ℕ) (s : State) : Type 0 where
  pub rises : Rises s.stack
  pub some : 0 < length s.stack
  pub counted : IsCounted n s

-- what every rule leaves: one entry or more, within their bounds, and counters that went on by at most one
pub record GoesOn (old new : State) : Type 0 where
  pub rises : Rises new.stack
  pub some : 0 < length new.stack
  pub counts : CountsOn old new

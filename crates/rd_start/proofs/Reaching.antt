-- A strip that grows until it reaches far enough.
use Rattle.std.proofs.Common.{◌≡◌, ℕ, ◌+◌, ◌-◌, ◌<◌, ◌≤◌, Bool, List, [], ◌∷◌, ◌++◌, length, map, drop, Option, None, Some, Result, Ok, Err, refl, sym, ap, subst, ◌∙◌, arith}
use Rattle.std.proofs.lemmas.List.{append_assoc, length-append, length-map}
use Rattle.std.proofs.lemmas.Result.{MatchResult-from_err}
use Rattle.std.specs.List.{slice_get}
use Rattle.std.specs.Prelude.{IfOk, IsErr}
use Rattle.rd_base.proofs.Lists.{drop-at, get-second, none-left}
use Rattle.rd_base.specs.declared.memory.Memory.{Memory}
use Rattle.rd_matrix.proofs.Counting.{count-append, count-last}
use Rattle.rd_matrix.specs.Blocks.{IsAmong, block_before}
use Rattle.rd_matrix.specs.Entries.{all_rows, entries_of, numbered}
use Rattle.rd_matrix.specs.Sources.{SourceValues}
use Rattle.rd_matrix.specs.declared.block.Block.{Block}
use Rattle.rd_rows.specs.Rows.{RowMeaning}
use Rattle.rd_start.specs.Strips.{IsBeyond, IsPaid, IsPaidOf, IsPushed, IsStrip, IsStripOf, AsksAt, GrowsAt, PaysOn, StandsBeyond, all_costs, cost_in, count_in, extent, first_row, home_row, pushed_at, strip_row_of, moved_at, rows_in}
use Rattle.rd_start.specs.declared.strip.Edge.{Edge}
use Rattle.rd_start.specs.declared.strip.Edge.TheVariants.{Bottom, Top}
use Rattle.rd_start.specs.declared.strip.StripRow.{StripRow}
use Rattle.rd_start.specs.declared.strip.Strip.{Strip}
use Rattle.rd_start.specs.declared.strip.Sweep.{Sweep}
use Rattle.rd_start.proofs.Growth.{affords, affords-pieces, before-none, before-some, first-place, last-place, length-pushed, length-strip_rows, paid-above, paid-below, pieces-above, pieces-below, some-of, strip-pushed}
use Rattle.rd_start.proofs.Rows.{rows_around}

pub strip-same : (m : SourceValues) (sweep sweep' : Sweep) (bs bs' : List Block) (ls ls' : List StripRow) (at at' : ℕ) → sweep' ≡ sweep → bs' ≡ bs → ls' ≡ ls → at' ≡ at
    → IsStripOf m sweep bs ls at → IsStripOf m sweep' bs' ls' at'
strip-same m sweep sweep' bs bs' ls ls' at at' e f g i h = rw (e, f, g, i) h

pub paid-same : (kind : ℕ → Bool) (base : ℕ) (m : SourceValues) (sweep sweep' : Sweep) (bs bs' : List Block) (at at' steps : ℕ) → sweep' ≡ sweep → bs' ≡ bs → at' ≡ at
    → IsPaidOf kind base m sweep bs at steps → IsPaidOf kind base m sweep' bs' at' steps
paid-same kind base m sweep sweep' bs bs' at at' steps e f i h = rw (e, f, i) h

-- a strip that began as another, with n steps, and grows at an edge until it reaches so many rows
pub record Grown (edge : Edge) (m : SourceValues) (old s : Strip) (n steps count : ℕ) : Type 0 where
  pub strip : IsStrip m s
  pub sweep : s.sweep ≡ old.sweep
  pub grows : GrowsAt edge old s
  pub paid : (kind : ℕ → Bool) (base : ℕ) → IsPaid kind base m old n → AsksAt edge kind m old count → IsPaidOf kind base m s.sweep s.blocks.items s.home steps

abbrev pub GivesNext : SourceValues → Block → Option Block → Type 0
GivesNext m last next = (k : ℕ) → slice_get m.blocks k ≡ Some last → next ≡ slice_get m.blocks (k + 1)

abbrev pub GivesPrev : SourceValues → Block → Option Block → Type 0
GivesPrev m first prev = (k : ℕ) → slice_get m.blocks k ≡ Some first → prev ≡ block_before m.blocks k

-- the block below a strip's last one
pub last-among : (m : SourceValues) (s : Strip) (last : Block) → IsStrip m s → slice_get s.blocks.items (length s.blocks.items - 1) ≡ Some last → IsAmong m.blocks last
last-among m s last h at = let p = last-place m.blocks h.before s.blocks.items h.after last h.pieces h.some at in (p.place, p.here)

next-of : (m : SourceValues) (s : Strip) (last b : Block) → IsStrip m s → slice_get s.blocks.items (length s.blocks.items - 1) ≡ Some last → GivesNext m last (Some b) → StandsBeyond m s Bottom b
next-of m s last b h at gives =
    let p = last-place m.blocks h.before s.blocks.items h.after last h.pieces h.some at in
    let here = gives p.place p.here in
    let e = drop-at h.after 0 b (sym p.next ∙ sym here) in
    record { before = h.before; after = drop 1 h.after; pieces = pieces-below m.blocks h.before s.blocks.items h.after (drop 1 h.after) b h.pieces e; home = h.home; among = (p.place + 1, sym here) }

no-next : (m : SourceValues) (s : Strip) (last : Block) → IsStrip m s → slice_get s.blocks.items (length s.blocks.items - 1) ≡ Some last → GivesNext m last None
    → first_row m s + length s.strip_rows.items ≡ count_in m s.sweep m.blocks
no-next m s last h at gives =
    let p = last-place m.blocks h.before s.blocks.items h.after last h.pieces h.some at in
    let e = none-left h.after 0 (sym p.next ∙ sym (gives p.place p.here)) in
    let z = rows_around m s.sweep s.blocks.items s.strip_rows.items s.home h in
    let none : length z.back ≡ 0 = ap (λ ys. length (all_rows (rows_in m s.sweep) ys)) e in
    omega (arith, none, z.from, z.total)

pub next-beyond : (r : Result (Option Block) Memory) (m : SourceValues) (s : Strip) (last : Block) → IsStrip m s → slice_get s.blocks.items (length s.blocks.items - 1) ≡ Some last
    → IfOk r (λ next. GivesNext m last next) → IfOk r (λ next. IsBeyond m s Bottom next)
next-beyond (Ok None) m s last h at gives = no-next m s last h at gives
next-beyond (Ok (Some b)) m s last h at gives = next-of m s last b h at gives
next-beyond (Err x) m s last h at gives = tt

-- the block above a strip's first one
pub first-among : (m : SourceValues) (s : Strip) (first : Block) → IsStrip m s → slice_get s.blocks.items 0 ≡ Some first → IsAmong m.blocks first
first-among m s first h at = (length h.before, first-place m.blocks h.before s.blocks.items h.after first h.pieces at)

prev-value : (m : SourceValues) (s : Strip) (first : Block) (prev : Option Block) → (h : IsStrip m s) → slice_get s.blocks.items 0 ≡ Some first → GivesPrev m first prev
    → block_before (h.before ++ (s.blocks.items ++ h.after)) (length h.before) ≡ prev
prev-value m s first prev h at gives =
    sym (gives (length h.before) (first-place m.blocks h.before s.blocks.items h.after first h.pieces at) ∙ ap (λ (ys : List Block). block_before ys (length h.before)) h.pieces)

no-prev : (m : SourceValues) (s : Strip) (first : Block) → IsStrip m s → slice_get s.blocks.items 0 ≡ Some first → GivesPrev m first None → s.home ≡ home_row m s.sweep
no-prev m s first h at gives =
    let none = before-none h.before (s.blocks.items ++ h.after) (prev-value m s first None h at gives) in
    let count = ap (λ ys. length (all_rows (rows_in m s.sweep) ys)) none in
    let home = h.home in
    omega arith

among-between : (all front : List Block) (b : Block) (rest : List Block) → all ≡ (front ++ (b ∷ [])) ++ rest → IsAmong all b
among-between all front b rest e =
    let whole = e ∙ append_assoc front (b ∷ []) rest in
    (length front, ap (λ ys. slice_get ys (length front)) whole ∙ get-second front (b ∷ rest) (length front) 0 (omega arith))

prev-of : (m : SourceValues) (s : Strip) (first b : Block) → IsStrip m s → slice_get s.blocks.items 0 ≡ Some first → GivesPrev m first (Some b) → StandsBeyond m s Top b
prev-of m s first b h at gives =
    let rows = rows_in m s.sweep in
    let e = before-some h.before (s.blocks.items ++ h.after) b (prev-value m s first (Some b) h at gives) in
    let front = e.0 in
    let whole = h.pieces ∙ ap (λ ys. ys ++ (s.blocks.items ++ h.after)) e.1 in
    let count = ap (λ ys. length (all_rows rows ys)) e.1 ∙ count-last rows front b in
    record {
      before = front;
      after = h.after;
      pieces = pieces-above m.blocks h.before s.blocks.items h.after front b h.pieces e.1;
      home = omega (arith, h.home, count);
      among = among-between m.blocks front b (s.blocks.items ++ h.after) whole;
    }

pub prev-beyond : (r : Result (Option Block) Memory) (m : SourceValues) (s : Strip) (first : Block) → IsStrip m s → slice_get s.blocks.items 0 ≡ Some first
    → IfOk r (λ prev. GivesPrev m first prev) → IfOk r (λ prev. IsBeyond m s Top prev)
prev-beyond (Ok None) m s first h at gives = no-prev m s first h at gives
prev-beyond (Ok (Some b)) m s first h at gives = prev-of m s first b h at gives
prev-beyond (Err x) m s first h at gives = tt

-- the rows of the block beyond an edge stand there
pub more-above : (m : SourceValues) (s : Strip) (b : Block) → IsStrip m s → StandsBeyond m s Top b → s.home < home_row m s.sweep
more-above m s b h next =
    let some = some-of m s.sweep s.blocks.items s.strip_rows.items s.home b h next.among in
    let home = next.home in
    omega arith

pub more-below : (m : SourceValues) (s : Strip) (b : Block) → IsStrip m s → StandsBeyond m s Bottom b → first_row m s + length s.strip_rows.items < count_in m s.sweep m.blocks
more-below m s b h next =
    let rows = λ (c : Block). rows_in m s.sweep c in
    let some = some-of m s.sweep s.blocks.items s.strip_rows.items s.home b h next.among in
    let own = ap length h.strip_rows ∙ length-map (all_rows rows s.blocks.items) (strip_row_of s.sweep.point) in
    let all = ap (λ ys. length (all_rows rows ys)) next.pieces ∙ count-append rows next.before ((s.blocks.items ++ (b ∷ [])) ++ next.after) in
    let from = count-append rows (s.blocks.items ++ (b ∷ [])) next.after in
    let pushed = count-last rows s.blocks.items b in
    let home = next.home in
    omega arith

-- a strip with too few rows at an edge, the block beyond that, and the steps behind the making of its rows
pub record Asked (edge : Edge) (m : SourceValues) (s : Strip) (steps more count : ℕ) (b : Block) : Type 0 where
  pub low : extent edge s < count
  pub next : StandsBeyond m s edge b
  pub cost : more ≤ steps + cost_in m s.sweep b

-- the block beyond an edge, as it was told of the same source
pub beyond-given : (edge : Edge) (m other : SourceValues) (s : Strip) (o told : Option Block) → other ≡ m → IsBeyond other s edge o → o ≡ told → IsBeyond m s edge told
beyond-given edge m other s o told e beyond is = subst (λ (x : SourceValues). IsBeyond x s edge told) e (subst (λ (y : Option Block). IsBeyond other s edge y) is beyond)

grown-paid : (edge : Edge) (kind : ℕ → Bool) (base : ℕ) (m : SourceValues) (old s : Strip) (n steps more count : ℕ) (b : Block) → Grown edge m old s n steps count → Asked edge m s steps more count b
    → IsPaid kind base m old n → AsksAt edge kind m old count
    → IsPaidOf kind base m s.sweep (pushed_at edge s.blocks.items (b ∷ [])) (moved_at edge s.home (length (rows_in m s.sweep b))) more
grown-paid Top kind base m old s n steps more count b grown asked paid asks =
    let low = asked.low in
    let next = asked.next in
    let some = some-of m s.sweep s.blocks.items s.strip_rows.items s.home b grown.strip next.among in
    let home = next.home in
    let same = ap (home_row m) grown.sweep in
    let grows = grown.grows in
    paid-above kind base m s.sweep s.blocks.items s.home steps more b (omega arith) (grown.paid kind base paid asks) some
    (asks (home_row m s.sweep - s.home - 1) (omega arith) (omega arith)) asked.cost
grown-paid Bottom kind base m old s n steps more count b grown asked paid asks =
    let low = asked.low in
    let next = asked.next in
    let some = some-of m s.sweep s.blocks.items s.strip_rows.items s.home b grown.strip next.among in
    let inside = more-below m s b grown.strip next in
    let grows = grown.grows in
    let first : first_row m s ≡ first_row m old = ap (λ (x : Sweep). home_row m x - s.home) grown.sweep ∙ ap (λ x. home_row m old.sweep - x) grows.0 in
    let all = ap (λ (x : Sweep). count_in m x m.blocks) grown.sweep in
    paid-below kind base m s.sweep s.blocks.items s.strip_rows.items s.home steps more b grown.strip (grown.paid kind base paid asks) some
    (asks (first_row m s + length s.strip_rows.items) (omega arith) (omega arith)) asked.cost

grows-none : (edge : Edge) (s : Strip) → GrowsAt edge s s
grows-none Top s = (refl, omega arith)
grows-none Bottom s = (refl, omega arith)

grows-more : (edge : Edge) (old s new : Strip) (own : List StripRow) (count : ℕ) → GrowsAt edge old s → new.home ≡ moved_at edge s.home count → new.strip_rows.items ≡ pushed_at edge s.strip_rows.items own
    → length own ≡ count → GrowsAt edge old new
grows-more Top old s new own count grows home strip_rows size =
    let now = ap length strip_rows in
    let both = length-append own s.strip_rows.items in
    (omega arith, omega arith)
grows-more Bottom old s new own count grows home strip_rows size =
    let now = ap length strip_rows in
    let both = length-append s.strip_rows.items own in
    (home ∙ grows.0, omega arith)

pub grown-none : (edge : Edge) (m : SourceValues) (s : Strip) (n count : ℕ) → IsStrip m s → Grown edge m s s n n count
grown-none edge m s n count h = record { strip = h; sweep = refl; grows = grows-none edge s; paid = λ kind base paid asks. paid.1 }

pub grown-more : (edge : Edge) (m : SourceValues) (old s new : Strip) (n steps more count : ℕ) (b : Block) (rows : List RowMeaning) → Grown edge m old s n steps count → Asked edge m s steps more count b
    → rows ≡ rows_in m s.sweep b → IsPushed edge s new b rows → Grown edge m old new n more count
grown-more edge m old s new n steps more count b rows grown asked same pushed =
    let next = asked.next in
    let strip_row = strip_row_of s.sweep.point in
    let own = map strip_row (entries_of (rows_in m s.sweep) b) in
    let added = length (rows_in m s.sweep b) in
    let strip_rows = pushed.strip_rows ∙ ap (λ (r : List RowMeaning). pushed_at edge s.strip_rows.items (map strip_row (numbered b.start 0 r))) same in
    let home = pushed.home ∙ ap (λ (r : List RowMeaning). moved_at edge s.home (length r)) same in
    record {
      strip = strip-same m s.sweep new.sweep (pushed_at edge s.blocks.items (b ∷ [])) new.blocks.items (pushed_at edge s.strip_rows.items own) new.strip_rows.items (moved_at edge s.home added) new.home
          pushed.sweep pushed.blocks strip_rows home
          (strip-pushed edge m s.sweep s.blocks.items s.strip_rows.items s.home b next.before next.after grown.strip next.pieces next.home pushed.small);
      sweep = pushed.sweep ∙ grown.sweep;
      grows = grows-more edge old s new own added grown.grows home strip_rows (length-strip_rows (rows_in m s.sweep) strip_row b);
      paid = λ kind base paid asks. paid-same kind base m s.sweep new.sweep (pushed_at edge s.blocks.items (b ∷ [])) new.blocks.items (moved_at edge s.home added) new.home more
          pushed.sweep pushed.blocks home (grown-paid edge kind base m old s n steps more count b grown asked paid asks);
    }

-- what was paid is at most the costs of all blocks that have a row of the kind
pub pays : (kind : ℕ → Bool) (base : ℕ) (m : SourceValues) (sweep : Sweep) (s : Strip) (steps : ℕ) → s.sweep ≡ sweep → IsPaid kind base m s steps → steps ≤ base + all_costs kind m sweep
pays kind base m sweep s steps e paid =
    let bound = affords kind base m s.sweep s.blocks.items s.strip_rows.items s.home steps paid.0 paid.1 in
    omega (arith, bound, ap (λ (x : Sweep). all_costs kind m x) e)

-- what a strip pays that grows at an edge, and what was taken where memory was wanting
abbrev pub EdgePays : Edge → SourceValues → Strip → Strip → ℕ → ℕ → ℕ → Type 0
EdgePays edge m old new n steps count = (kind : ℕ → Bool) (base : ℕ) → IsPaid kind base m old n → AsksAt edge kind m old count → IsPaid kind base m new steps

abbrev pub EdgeFails : Edge → SourceValues → Strip → ℕ → ℕ → ℕ → Type 0
EdgeFails edge m old n steps count = (kind : ℕ → Bool) (base : ℕ) → IsPaid kind base m old n → AsksAt edge kind m old count → steps ≤ base + all_costs kind m old.sweep

pub grown-pays : (edge : Edge) (m : SourceValues) (old s : Strip) (n steps count : ℕ) → Grown edge m old s n steps count → EdgePays edge m old s n steps count
grown-pays edge m old s n steps count grown = λ kind base paid asks. (grown.strip, grown.paid kind base paid asks)

pub grown-stops : (edge : Edge) (m : SourceValues) (old s : Strip) (n steps count : ℕ) → Grown edge m old s n steps count → EdgeFails edge m old n steps count
grown-stops edge m old s n steps count grown = λ kind base paid asks. pays kind base m old.sweep s steps grown.sweep (grown.strip, grown.paid kind base paid asks)

pub grown-fails : (edge : Edge) (m : SourceValues) (old s : Strip) (n steps more count : ℕ) (b : Block) → Grown edge m old s n steps count → Asked edge m s steps more count b
    → EdgeFails edge m old n more count
grown-fails edge m old s n steps more count b grown asked = λ kind base paid asks.
    let next = asked.next in
    let bound = affords-pieces kind base m s.sweep next.before (pushed_at edge s.blocks.items (b ∷ [])) next.after (moved_at edge s.home (length (rows_in m s.sweep b))) more next.pieces next.home
    (grown-paid edge kind base m old s n steps more count b grown asked paid asks) in
    let same = ap (λ (x : Sweep). all_costs kind m x) grown.sweep in
    omega arith

pub pays-failed : {T E : Type 0} {Asks : (ℕ → Bool) → Type 0} (r : Result T E) (m : SourceValues) (old new : Strip) (n steps : ℕ) → IsErr r
    → ((kind : ℕ → Bool) (base : ℕ) → IsPaid kind base m old n → Asks kind → steps ≤ base + all_costs kind m old.sweep) → PaysOn m Asks old new n steps r
pays-failed r m old new n steps err fails = λ kind base paid asks.
    MatchResult-from_err r (λ _. IsPaid kind base m new steps) (λ _. steps ≤ base + all_costs kind m old.sweep) err (λ _. fails kind base paid asks)

-- one block more at an edge, and there were fewer than the source has
pub grown-smaller : (edge : Edge) (m : SourceValues) (s new : Strip) (b : Block) (rows : List RowMeaning) → StandsBeyond m s edge b → IsPushed edge s new b rows
    → (length new.blocks.items ≡ length s.blocks.items + 1) × (length s.blocks.items < length m.blocks)
grown-smaller edge m s new b rows next pushed =
    let longer = length-pushed edge s.blocks.items (b ∷ []) in
    let size = ap length pushed.blocks in
    let all = ap length next.pieces in
    let front = length-append next.before (pushed_at edge s.blocks.items (b ∷ []) ++ next.after) in
    let back = length-append (pushed_at edge s.blocks.items (b ∷ [])) next.after in
    (omega arith, omega arith)

-- what is said of one source, as it was said of the same: the cost of a block, and its rows
pub cost-same : (m other : SourceValues) (sweep : Sweep) (b : Block) (more steps : ℕ) → other ≡ m → more ≤ steps + cost_in other sweep b → more ≤ steps + cost_in m sweep b
cost-same m other sweep b more steps e h = subst (λ (x : SourceValues). more ≤ steps + cost_in x sweep b) e h

pub rows-same : (m other : SourceValues) (sweep : Sweep) (b : Block) (rows : List RowMeaning) → other ≡ m → rows ≡ rows_in other sweep b → rows ≡ rows_in m sweep b
rows-same m other sweep b rows e h = h ∙ ap (λ (x : SourceValues). rows_in x sweep b) e

-- A strip to which a block is added below, or above.
use Rattle.std.proofs.Common.{◌≡◌, ℕ, ◌+◌, ◌-◌, ◌^◌, ◌<◌, ◌≤◌, Bool, true, List, [], ◌∷◌, ◌++◌, length, map, take, None, Some, refl, sym, ap, subst, ◌∙◌, arith}
use Rattle.std.proofs.lemmas.List.{append-nil, append_assoc, length-append, length-map, map-append, take_all}
use Rattle.std.proofs.lemmas.Option.{slice_get-get_or}
use Rattle.std.specs.List.{AllByRecursion, slice_get}
use Rattle.rd_matrix.proofs.Counting.{all-append, any-range, length-numbered, some-row}
use Rattle.rd_matrix.specs.Blocks.{IsAmong, block_before}
use Rattle.rd_matrix.specs.Entries.{EntryMeaning, all_rows, entries_of}
use Rattle.rd_matrix.specs.Sources.{SourceValues}
use Rattle.rd_matrix.specs.declared.block.Block.{Block}
use Rattle.rd_rows.specs.Rows.{RowMeaning}
use Rattle.rd_start.specs.Strips.{HaveRows, IsPaidOf, IsStripOf, all_costs, cost_in, count_in, home_row, strip_row_of, pushed_at, moved_at, rows_in}
use Rattle.rd_start.specs.declared.strip.Edge.{Edge}
use Rattle.rd_start.specs.declared.strip.Edge.TheVariants.{Bottom, Top}
use Rattle.rd_start.specs.declared.strip.StripRow.{StripRow}
use Rattle.rd_start.specs.declared.strip.Sweep.{Sweep}
use Rattle.rd_start.proofs.Costs.{costs-piece, have-more}
use Rattle.rd_base.proofs.Lists.{each-append, get-first, get-second, take-at, total-append}

-- the place of a strip's last block, and the block behind it
pub record LastPlace (bs after : List Block) (last : Block) : Type 0 where
  pub place : ℕ
  pub here : slice_get bs place ≡ Some last
  pub next : slice_get bs (place + 1) ≡ slice_get after 0

pub last-place : (all before bs after : List Block) (last : Block) → all ≡ before ++ (bs ++ after) → 0 < length bs → slice_get bs (length bs - 1) ≡ Some last
    → LastPlace all after last
last-place all before bs after last pieces some at =
    let k = length bs - 1 in
    let place = length before + k in
    record {
      place = place;
      here = ap (λ ys. slice_get ys place) pieces ∙ (get-second before (bs ++ after) place k refl ∙ (get-first bs after k (omega (arith, some)) ∙ at));
      next = ap (λ ys. slice_get ys (place + 1)) pieces
          ∙ (get-second before (bs ++ after) (place + 1) (length bs) (omega (arith, some)) ∙ get-second bs after (length bs) 0 (omega arith));
    }

-- the place of a strip's first block
pub first-place : (all before bs after : List Block) (first : Block) → all ≡ before ++ (bs ++ after) → slice_get bs 0 ≡ Some first
    → slice_get all (length before) ≡ Some first
first-place all before [] after first pieces at = absurd cc
first-place all before (b ∷ bs) after first pieces at =
    ap (λ ys. slice_get ys (length before)) pieces ∙ (get-second before (b ∷ (bs ++ after)) (length before) 0 (omega arith) ∙ at)

pub before-none : (before rest : List Block) → block_before (before ++ rest) (length before) ≡ None → before ≡ []
before-none [] rest e = refl
before-none (x ∷ before) rest e =
    let inside : length before < length (x ∷ before) = omega arith in
    let some = get-first (x ∷ before) rest (length before) inside ∙ slice_get-get_or (x ∷ before) (length before) x inside in
    absurd cc

pub before-some : (before rest : List Block) (b : Block) → block_before (before ++ rest) (length before) ≡ Some b → (front : List Block) × (before ≡ front ++ b ∷ [])
before-some [] rest b e = absurd cc
before-some (x ∷ before) rest b e =
    let inside : length before < length (x ∷ before) = omega arith in
    let there = sym (get-first (x ∷ before) rest (length before) inside) ∙ e in
    (take (length before) (x ∷ before), sym (take_all (length before + 1) (x ∷ before) (omega arith)) ∙ take-at (x ∷ before) (length before) b there)

pub some-of : (m : SourceValues) (sweep : Sweep) (bs : List Block) (ls : List StripRow) (at : ℕ) (b : Block) → IsStripOf m sweep bs ls at → IsAmong m.blocks b → 0 < length (rows_in m sweep b)
some-of m sweep bs ls at b h among = some-row (rows_in m sweep b) (h.source.rows b sweep.shape among h.shape).ends

pub pieces-below : (all before bs after rest : List Block) (b : Block) → all ≡ before ++ (bs ++ after) → after ≡ b ∷ rest → all ≡ before ++ ((bs ++ (b ∷ [])) ++ rest)
pieces-below all before bs after rest b pieces behind =
    pieces ∙ (ap (λ ys. before ++ (bs ++ ys)) behind ∙ ap (λ ys. before ++ ys) (sym (append_assoc bs (b ∷ []) rest)))

pub pieces-above : (all before bs after front : List Block) (b : Block) → all ≡ before ++ (bs ++ after) → before ≡ front ++ (b ∷ []) → all ≡ front ++ ((b ∷ bs) ++ after)
pieces-above all before bs after front b pieces is =
    pieces ∙ (ap (λ ys. ys ++ (bs ++ after)) is ∙ append_assoc front (b ∷ []) (bs ++ after))

-- lists to which more was added at an edge
pub length-pushed : {X : Type 0} (edge : Edge) (xs more : List X) → length (pushed_at edge xs more) ≡ length xs + length more
length-pushed Top xs more = let size = length-append more xs in omega (arith, size)
length-pushed Bottom xs more = length-append xs more

each-pushed : (P : Block → Type 0) (edge : Edge) (bs : List Block) (b : Block) → AllByRecursion P bs → P b → AllByRecursion P (pushed_at edge bs (b ∷ []))
each-pushed P Top bs b all here = (here, all)
each-pushed P Bottom bs b all here = each-append P bs (b ∷ []) all (here, tt)

strip_rows-pushed : (edge : Edge) (rows : Block → List RowMeaning) (strip_row : EntryMeaning → StripRow) (bs : List Block) (ls : List StripRow) (b : Block) → ls ≡ map strip_row (all_rows rows bs)
    → pushed_at edge ls (map strip_row (entries_of rows b)) ≡ map strip_row (all_rows rows (pushed_at edge bs (b ∷ [])))
strip_rows-pushed Top rows strip_row bs ls b strip_rows = ap (λ ys. map strip_row (entries_of rows b) ++ ys) strip_rows ∙ sym (map-append strip_row (entries_of rows b) (all_rows rows bs))
strip_rows-pushed Bottom rows strip_row bs ls b strip_rows =
    ap (λ ys. ys ++ map strip_row (entries_of rows b)) strip_rows
    ∙ (sym (map-append strip_row (all_rows rows bs) (entries_of rows b))
    ∙ ap (map strip_row) (ap (λ ys. all_rows rows bs ++ ys) (sym (append-nil (entries_of rows b))) ∙ sym (all-append rows bs (b ∷ []))))

inside-pushed : (edge : Edge) (at count : ℕ) (ls more : List StripRow) → at < length ls → length more ≡ count → moved_at edge at count < length (pushed_at edge ls more)
inside-pushed Top at count ls more inside size = omega (arith, length-append more ls)
inside-pushed Bottom at count ls more inside size = omega (arith, length-append ls more)

pub length-strip_rows : (rows : Block → List RowMeaning) (strip_row : EntryMeaning → StripRow) (b : Block) → length (map strip_row (entries_of rows b)) ≡ length (rows b)
length-strip_rows rows strip_row b = length-map (entries_of rows b) strip_row ∙ length-numbered b.start 0 (rows b)

-- one more block at an edge
pub strip-pushed : (edge : Edge) (m : SourceValues) (sweep : Sweep) (bs : List Block) (ls : List StripRow) (at : ℕ) (b : Block) (before after : List Block) → IsStripOf m sweep bs ls at
    → m.blocks ≡ before ++ (pushed_at edge bs (b ∷ []) ++ after) → count_in m sweep before + moved_at edge at (length (rows_in m sweep b)) ≡ home_row m sweep → b.end < 2 ^ 32
    → IsStripOf m sweep (pushed_at edge bs (b ∷ [])) (pushed_at edge ls (map (strip_row_of sweep.point) (entries_of (rows_in m sweep) b))) (moved_at edge at (length (rows_in m sweep b)))
strip-pushed edge m sweep bs ls at b before after h pieces home small =
    let rows = λ (c : Block). rows_in m sweep c in
    let strip_row = strip_row_of sweep.point in
    let size = length-pushed edge bs (b ∷ []) in
    record {
      source = h.source;
      shape = h.shape;
      point = h.point;
      before = before;
      after = after;
      pieces = pieces;
      some = omega (arith, size);
      small = each-pushed (λ (x : Block). x.end < 2 ^ 32) edge bs b h.small small;
      strip_rows = strip_rows-pushed edge rows strip_row bs ls b h.strip_rows;
      home = home;
      inside = inside-pushed edge at (length (rows b)) ls (map strip_row (entries_of rows b)) h.inside (length-strip_rows rows strip_row b);
    }

-- what was paid for a strip is not more than all blocks with such rows cost
pub affords-pieces : (kind : ℕ → Bool) (base : ℕ) (m : SourceValues) (sweep : Sweep) (before bs after : List Block) (at steps : ℕ) → m.blocks ≡ before ++ (bs ++ after)
    → count_in m sweep before + at ≡ home_row m sweep → IsPaidOf kind base m sweep bs at steps → steps ≤ base + all_costs kind m sweep
affords-pieces kind base m sweep before bs after at steps pieces home paid =
    let first : length (all_rows (rows_in m sweep) before) ≡ home_row m sweep - at = omega (arith, home) in
    let bound = costs-piece kind (rows_in m sweep) (cost_in m sweep) m.blocks before bs after (home_row m sweep - at) pieces first paid.have in
    omega (arith, bound, paid.paid)

pub affords : (kind : ℕ → Bool) (base : ℕ) (m : SourceValues) (sweep : Sweep) (bs : List Block) (ls : List StripRow) (at steps : ℕ) → IsStripOf m sweep bs ls at
    → IsPaidOf kind base m sweep bs at steps → steps ≤ base + all_costs kind m sweep
affords kind base m sweep bs ls at steps h paid = affords-pieces kind base m sweep h.before bs h.after at steps h.pieces h.home paid

-- one more block, of which a row is of the kind
pub paid-below : (kind : ℕ → Bool) (base : ℕ) (m : SourceValues) (sweep : Sweep) (bs : List Block) (ls : List StripRow) (at steps more : ℕ) (b : Block) → IsStripOf m sweep bs ls at
    → IsPaidOf kind base m sweep bs at steps → 0 < length (rows_in m sweep b) → kind (home_row m sweep - at + length ls) ≡ true → more ≤ steps + cost_in m sweep b
    → IsPaidOf kind base m sweep (bs ++ (b ∷ [])) at more
paid-below kind base m sweep bs ls at steps more b h paid some here cost =
    let rows = λ (c : Block). rows_in m sweep c in
    let size = ap length h.strip_rows ∙ length-map (all_rows rows bs) (strip_row_of sweep.point) in
    let place = home_row m sweep - at + length (all_rows rows bs) in
    let passes : kind place ≡ true = ap (λ n. kind (home_row m sweep - at + n)) (sym size) ∙ here in
    let costs = total-append (cost_in m sweep) bs (b ∷ []) in
    let old = paid.paid in
    record {
      have = have-more kind rows (home_row m sweep - at) bs b paid.have (any-range kind place (length (rows b)) place (omega arith) (omega arith) passes);
      paid = omega (arith, costs, old, cost);
    }

pub paid-above : (kind : ℕ → Bool) (base : ℕ) (m : SourceValues) (sweep : Sweep) (bs : List Block) (at steps more : ℕ) (b : Block) → at + length (rows_in m sweep b) ≤ home_row m sweep
    → IsPaidOf kind base m sweep bs at steps → 0 < length (rows_in m sweep b) → kind (home_row m sweep - at - 1) ≡ true → more ≤ steps + cost_in m sweep b
    → IsPaidOf kind base m sweep (b ∷ bs) (at + length (rows_in m sweep b)) more
paid-above kind base m sweep bs at steps more b low paid some here cost =
    let rows = λ (c : Block). rows_in m sweep c in
    let n = length (rows b) in
    let first = home_row m sweep - (at + n) in
    let next : home_row m sweep - at ≡ first + n = omega arith in
    let old = paid.paid in
    record {
      have = (any-range kind first n (home_row m sweep - at - 1) (omega arith) (omega arith) here, subst (λ k. HaveRows kind rows k bs) next paid.have);
      paid = omega (arith, old, cost);
    }

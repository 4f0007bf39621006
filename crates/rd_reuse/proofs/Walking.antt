-- The walk from the anchor's block down, in which rows are laid out until there are enough.
use Rattle.std.proofs.Common.{◌≡◌, ℕ, zero, suc, ◌+◌, ◌-◌, ◌<◌, ◌≤◌, Bool, true, false, if◌then◌else◌, List, [], ◌∷◌, ◌++◌, length, take, drop, slice_get, All, option_map, Option, None, Some, refl, sym, ap, ◌∙◌, subst, arith}
use Rattle.std.proofs.Math.Seq.{drop-append-add}
use Rattle.std.proofs.lemmas.Bool.Decides.{nat_tests}
use Rattle.std.proofs.lemmas.List.{append-nil, append_assoc, drop-map, length-append, length-drop, length-map, length-take, map-append, take-map}
use Rattle.std.proofs.lemmas.List.Elements.{All-append, All-drop, All-nil, All-take}
use Rattle.std.proofs.lemmas.Option.{slice_get-map}
use Rattle.rd_base.proofs.Lists.{at-seam, drop-at, get-second, none-left}
use Rattle.std.specs.List.{list_any, range_with_len}
use Rattle.rd_base.specs.Lists.{is_between}
use Rattle.rd_base.specs.declared.settings.Anchor.{Anchor}
use Rattle.rd_matrix.proofs.Counting.{all-append, any-range, costs-behind, costs-here, count-last, length-numbered, some-row}
use Rattle.rd_matrix.specs.Blocks.{HoldsPosition, IsAmong, first_start}
use Rattle.rd_matrix.specs.Entries.{EntryMeaning, all_rows, entries_of, numbered, shown_entries, shown_entry}
use Rattle.rd_matrix.specs.Rows.{blocks_with}
use Rattle.rd_matrix.specs.Sources.{SourceValues, IsSource, costs_of, rows_at}
use Rattle.rd_matrix.specs.declared.block.Block.{Block}
use Rattle.rd_matrix.specs.declared.matrix.Entry.{Entry}
use Rattle.rd_reuse.specs.Keeping.{copied_rows, entry_under, fresh_cost, is_kept, taken, taken_from, up_to_end}
use Rattle.rd_reuse.specs.Laying.{placed}
use Rattle.rd_reuse.specs.Views.{IsCopied, Names, fresh_costs}
use Rattle.rd_reuse.specs.declared.change.Change.{Change}
use Rattle.rd_reuse.proofs.Lists.{filled-more, filled-size}
use Rattle.rd_matrix.proofs.HeldLemmas.{later-start}
use Rattle.rd_reuse.proofs.Places.{anchor-found, same-block}
use Rattle.rd_reuse.proofs.Placing.{all-placed, none-added, shown-placed}
use Rattle.rd_rows.specs.Copies.{RowValues, copied, shown_rows}
use Rattle.rd_rows.specs.Shapes.{ShapeValues, IsShape}

-- what is known while rows are laid out: the blocks before the next one and behind it, the place of the next row, the rows that
-- are still to come, how often those were copied that are there, and what all of them may cost
pub record Walk (m : SourceValues) (old : List Entry) (c : Change) (shape : ShapeValues) (place most base : ℕ) (block : Block) (first : ℕ) (rows : List Entry) (steps : ℕ) : Type 0 where
  pub before : List Block
  pub after : List Block
  pub pieces : m.blocks ≡ before ++ block ∷ after
  pub at : length (shown_entries rows) < most → length (all_rows (λ b. m.rows_of b shape) before) + first ≡ place + length (shown_entries rows)
  pub inside : first < length (m.rows_of block shape)
  pub room : length (shown_entries rows) ≤ most
  pub done : shown_entries rows ++ take (most - length (shown_entries rows)) (drop first (all_rows (λ b. m.rows_of b shape) (block ∷ after))) ≡ take most (drop place (rows_at m shape))
  pub copies : All (IsCopied old c m.blocks) rows
  pub paid : steps + costs_of (fresh_cost m old c shape) (blocks_with (is_between place (place + most)) (λ b. m.rows_of b shape) (length (all_rows (λ b. m.rows_of b shape) before)) (block ∷ after))
      ≤ base + fresh_costs m old c shape place (place + most)

in-view : (place most begins first count there : ℕ) → begins + first ≡ place + there → there < most → first < count → list_any (is_between place (place + most)) (range_with_len begins count) ≡ true
in-view place most begins first count there at low inside =
    let here : is_between place (place + most) (begins + first) ≡ true = grind (arith, nat_tests) in
    any-range (is_between place (place + most)) begins count (begins + first) (omega arith) (omega (arith, inside)) here

-- the walk begins

pub begins : (m : SourceValues) (old : List Entry) (c : Change) (shape : ShapeValues) (anchor : Anchor) (place most base : ℕ) (block : Block) → IsSource m
    → HoldsPosition anchor.pos m.blocks block → Names anchor (rows_at m shape) place → Walk m old c shape place most base block anchor.row [] base
begins m old c shape anchor place most base block source holds is =
    let rows = λ (b : Block). m.rows_of b shape in
    let found = anchor-found rows m.blocks place anchor is in
    let same = same-block source anchor.pos found.before found.after found.block block found.pieces found.starts holds in
    let count = found.place in
    let pieces : m.blocks ≡ found.before ++ block ∷ found.after = found.pieces ∙ ap (λ b. found.before ++ b ∷ found.after) (sym same) in
    let all = ap (all_rows rows) pieces ∙ all-append rows found.before (block ∷ found.after) in
    let behind = costs-behind (is_between place (place + most)) rows (fresh_cost m old c shape) 0 found.before (block ∷ found.after) in
    let place-in : 0 + length (all_rows rows found.before) ≡ length (all_rows rows found.before) = omega arith in
    let e = ap (λ n. costs_of (fresh_cost m old c shape) (blocks_with (is_between place (place + most)) rows n (block ∷ found.after))) place-in in
    let whole = ap (λ bs. costs_of (fresh_cost m old c shape) (blocks_with (is_between place (place + most)) rows 0 bs)) pieces in
    let left : most - 0 ≡ most = omega arith in
    record {
      before = found.before;
      after = found.after;
      pieces = pieces;
      at = λ low. omega (arith, count);
      inside = subst (λ (b : Block). anchor.row < length (m.rows_of b shape)) (sym same) found.inside;
      room = omega arith;
      done = ap (λ n. take n (drop anchor.row (all_rows rows (block ∷ found.after)))) left
          ∙ ap (take most) (sym (ap (drop place) all ∙ (ap (λ n. drop n (all_rows rows found.before ++ all_rows rows (block ∷ found.after))) (sym count)
          ∙ drop-append-add (all_rows rows found.before) (all_rows rows (block ∷ found.after)) anchor.row)));
      copies = All-nil (IsCopied old c m.blocks);
      paid = omega (arith, behind, e, whole);
    }

-- what another source of the same meaning says of the block behind
pub same-next : (m other : SourceValues) (b : Block) (o p : Option Block) → other ≡ m → o ≡ p → ((k : ℕ) → slice_get other.blocks k ≡ Some b → o ≡ slice_get other.blocks (k + 1))
    → (k : ℕ) → slice_get m.blocks k ≡ Some b → p ≡ slice_get m.blocks (k + 1)
same-next m other b o p same is next k at =
    sym is ∙ (next k (ap (λ (x : SourceValues). slice_get x.blocks k) same ∙ at) ∙ ap (λ (x : SourceValues). slice_get x.blocks (k + 1)) same)

-- a row that is taken is that of the first entry with its number

at-front : (x : Option Entry) (rest : List RowValues) (r : RowValues) (o : Entry) → slice_get (up_to_end x rest) 0 ≡ Some r → x ≡ Some o → r ≡ o.row
at-front None rest r o i e = absurd cc
at-front (Some y) rest r o i e = let here : y.row ≡ r = cc in let same : y ≡ o = cc in sym here ∙ ap (λ (z : Entry). z.row) same

behind-of : (b : Bool) (rest : List RowValues) (j : ℕ) (r : RowValues) → slice_get (if b then [] else rest) j ≡ Some r → slice_get rest j ≡ Some r
behind-of true rest j r i = absurd cc
behind-of false rest j r i = i

at-behind : (x : Option Entry) (rest : List RowValues) (j : ℕ) (r : RowValues) → slice_get (up_to_end x rest) (suc j) ≡ Some r → slice_get rest j ≡ Some r
at-behind None rest j r i = absurd cc
at-behind (Some y) rest j r i = behind-of y.row.shown.ends_block rest j r i

taken-at : (n : ℕ) (old : List Entry) (c : Change) (start number j : ℕ) (r : RowValues) (o : Entry) → slice_get (taken_from n old c start number) j ≡ Some r
    → entry_under old c start (number + j) ≡ Some o → r ≡ o.row
taken-at zero old c start number j r o i e = absurd cc
taken-at (suc n) old c start number zero r o i e =
    let same : number ≡ number + 0 = omega arith in
    at-front (entry_under old c start number) (taken_from n old c start (number + 1)) r o i (ap (entry_under old c start) same ∙ e)
taken-at (suc n) old c start number (suc j) r o i e =
    let same : number + 1 + j ≡ number + suc j = omega arith in
    taken-at n old c start (number + 1) j r o (at-behind (entry_under old c start number) (taken_from n old c start (number + 1)) j r i) (ap (entry_under old c start) same ∙ e)

copied-of : (t : Option RowValues) (r : RowValues) (o : Entry) → option_map (λ (x : RowValues). record { shown = x.shown; copies = copied x.copies }) t ≡ Some r
    → ((x : RowValues) → t ≡ Some x → x ≡ o.row) → r.copies ≡ copied o.row.copies
copied-of None r o i f = absurd cc
copied-of (Some x) r o i f =
    let same : record { shown = x.shown; copies = copied x.copies } ≡ r = cc in
    ap (λ (y : RowValues). y.copies) (sym same) ∙ ap (λ (y : RowValues). copied y.copies) (f x refl)

-- the rows that are laid out for a block count as copies where it keeps its older rows
rows-copied : (m : SourceValues) (old : List Entry) (c : Change) (before after : List Block) (block : Block) (laid : List RowValues) → IsSource m → m.blocks ≡ before ++ block ∷ after
    → (is_kept old c block ≡ true → laid ≡ copied_rows (taken old c block.start)) → All (IsCopied old c m.blocks) (placed block.start 0 laid)
rows-copied m old c before after block laid source pieces kept =
    all-placed (IsCopied old c m.blocks) block.start 0 laid (λ j r at b o among starts keeps under.
    let some = (later-start (first_start m.blocks) among.0 m.blocks b source.blocks.stand among.1).1 in
    let same = same-block source block.start before after block b pieces refl (record { among = among; from = omega (arith, starts); below = omega (arith, some, starts) }) in
    let rows = kept (subst (λ x. is_kept old c x ≡ true) same keeps) in
    copied-of (slice_get (taken old c block.start) j) r o
    (sym (slice_get-map (λ (x : RowValues). record { shown = x.shown; copies = copied x.copies }) (taken old c block.start) j) ∙ (sym (ap (λ rs. slice_get rs j) rows) ∙ at))
    (λ x i. taken-at (length old) old c block.start 0 j x o i under))

module _ {m : SourceValues} {old : List Entry} {c : Change} {shape : ShapeValues} {place most base : ℕ} {block : Block} {first : ℕ} {rows : List Entry} {steps : ℕ}
    (w : Walk m old c shape place most base block first rows steps) where
  -- the next block is one of the source's
  abbrev pub among : IsAmong m.blocks block
  among = (length w.before, ap (λ bs. slice_get bs (length w.before)) w.pieces ∙ at-seam w.before block w.after)

  -- what the rows of the next block cost
  pub costs : length (shown_entries rows) < most
      → steps + fresh_cost m old c shape block
      + costs_of (fresh_cost m old c shape) (blocks_with (is_between place (place + most)) (λ b. m.rows_of b shape) (length (all_rows (λ b. m.rows_of b shape) w.before) + length (m.rows_of block shape)) w.after)
      ≤ base + fresh_costs m old c shape place (place + most)
  costs low =
      let paid = w.paid in
      let view = in-view place most (length (all_rows (λ b. m.rows_of b shape) w.before)) first (length (m.rows_of block shape)) (length (shown_entries rows)) (w.at low) low w.inside in
      let here = costs-here (is_between place (place + most)) (λ b. m.rows_of b shape) (fresh_cost m old c shape) (length (all_rows (λ b. m.rows_of b shape) w.before)) block w.after view in
      omega (arith, paid, here)

  abbrev grown : List RowValues → List Entry
  grown laid = rows ++ take (most - length rows) (drop first (placed block.start 0 laid))

  abbrev seen : List EntryMeaning
  seen = entries_of (λ b. m.rows_of b shape) block

  shown-grown : (laid : List RowValues) → shown_rows laid ≡ m.rows_of block shape
      → shown_entries (grown laid) ≡ shown_entries rows ++ take (most - length (shown_entries rows)) (drop first seen)
  shown-grown laid e =
      let ps = placed block.start 0 laid in
      let n = most - length rows in
      let size : n ≡ most - length (shown_entries rows) = let count = length-map rows shown_entry in omega (arith, count) in
      map-append shown_entry rows (take n (drop first ps))
      ∙ ap (λ es. shown_entries rows ++ es)
      (sym (take-map shown_entry n (drop first ps))
      ∙ (ap (take n) (sym (drop-map shown_entry first ps))
      ∙ (ap (λ es. take n (drop first es)) (shown-placed block.start 0 laid ∙ ap (numbered block.start 0) e)
      ∙ ap (λ k. take k (drop first seen)) size)))

  seen-size : first < length seen
  seen-size = let size = length-numbered block.start 0 (m.rows_of block shape) in let inside = w.inside in omega (arith, size, inside)

  -- what is still to be laid out behind the block
  left : (laid : List RowValues) → shown_rows laid ≡ m.rows_of block shape
      → shown_entries (grown laid) ++ take (most - length (shown_entries (grown laid))) (all_rows (λ b. m.rows_of b shape) w.after) ≡ take most (drop place (rows_at m shape))
  left laid e =
      let size = seen-size in
      subst (λ s. s ++ take (most - length s) (all_rows (λ b. m.rows_of b shape) w.after) ≡ take most (drop place (rows_at m shape))) (sym (shown-grown laid e))
      (filled-more most first (shown_entries rows) seen (all_rows (λ b. m.rows_of b shape) w.after) (take most (drop place (rows_at m shape))) w.room (omega (arith, size)) w.done)

  sizes : (laid : List RowValues) → shown_rows laid ≡ m.rows_of block shape → length (shown_entries rows) < most
      → (length (shown_entries (grown laid)) ≤ most) × (length (shown_entries rows) < length (shown_entries (grown laid)))
      × (length (shown_entries (grown laid)) < most → length (shown_entries (grown laid)) + first ≡ length (shown_entries rows) + length (m.rows_of block shape))
  sizes laid e low =
      let is = ap length (shown-grown laid e) in
      let both = filled-size most first (shown_entries rows) seen low seen-size in
      let up = both.0 in
      let more = both.1 in
      let whole = length-append (shown_entries rows) (take (most - length (shown_entries rows)) (drop first seen)) in
      let taken-size = length-take (most - length (shown_entries rows)) (drop first seen) in
      let left-size = length-drop first seen in
      let size = length-numbered block.start 0 (m.rows_of block shape) in
      let inside = w.inside in
      (omega (arith, is, up), omega (arith, is, more), λ room. omega (arith, is, whole, taken-size, left-size, size, inside, room))

  -- the rows with those of the next block were copied as they should
  pub copies-grown : IsSource m → (laid : List RowValues) → (is_kept old c block ≡ true → laid ≡ copied_rows (taken old c block.start)) → All (IsCopied old c m.blocks) (grown laid)
  copies-grown source laid kept =
      let ps = placed block.start 0 laid in
      All-append (IsCopied old c m.blocks) rows (take (most - length rows) (drop first ps)) w.copies
      (All-take (IsCopied old c m.blocks) (most - length rows) (drop first ps)
      (All-drop (IsCopied old c m.blocks) first ps (rows-copied m old c w.before w.after block laid source w.pieces kept)))

  next-first : (o : Option Block) → ((k : ℕ) → slice_get m.blocks k ≡ Some block → o ≡ slice_get m.blocks (k + 1)) → slice_get w.after 0 ≡ o
  next-first o next =
      sym (next (length w.before) among.1 ∙ (ap (λ bs. slice_get bs (length w.before + 1)) w.pieces ∙ get-second w.before (block ∷ w.after) (length w.before + 1) 1 refl))

  -- the rows grow by those of the next block, where they were fewer than are wanted
  pub grows : (laid : List RowValues) (new : List Entry) → shown_rows laid ≡ m.rows_of block shape → length rows < most → new ≡ grown laid → length rows < length new
  grows laid new e low is =
      let before = length-map rows shown_entry in
      let after = length-map (grown laid) shown_entry in
      let size = ap length is in
      let more = (sizes laid e (omega (arith, before, low))).1 in
      omega (arith, before, after, size, more)

  -- the walk goes on with the block behind
  pub goes-on : (laid : List RowValues) (new : List Entry) (b : Block) (more : ℕ) → IsSource m → IsShape shape → shown_rows laid ≡ m.rows_of block shape
      → (is_kept old c block ≡ true → laid ≡ copied_rows (taken old c block.start)) → length rows < most → new ≡ grown laid → more ≤ steps + fresh_cost m old c shape block
      → ((k : ℕ) → slice_get m.blocks k ≡ Some block → Some b ≡ slice_get m.blocks (k + 1)) → Walk m old c shape place most base b 0 new more
  goes-on laid new b more source shaped e kept low is cost next =
      let R = λ (x : Block). m.rows_of x shape in
      let count = length-map rows shown_entry in
      let low' : length (shown_entries rows) < most = omega (arith, count, low) in
      let first-is = drop-at w.after 0 b (next-first (Some b) next) in
      let pieces : m.blocks ≡ (w.before ++ block ∷ []) ++ b ∷ drop 1 w.after =
      w.pieces ∙ (ap (λ bs. w.before ++ block ∷ bs) first-is ∙ sym (append_assoc w.before (block ∷ []) (b ∷ drop 1 w.after))) in
      let there : IsAmong m.blocks b = (length (w.before ++ block ∷ []), ap (λ bs. slice_get bs (length (w.before ++ block ∷ []))) pieces ∙ at-seam (w.before ++ block ∷ []) b (drop 1 w.after)) in
      let size = sizes laid e low' in
      let up = size.0 in
      let last = count-last R w.before block in
      let paid = costs low' in
      let cost-at = ap (λ n. costs_of (fresh_cost m old c shape) (blocks_with (is_between place (place + most)) R n w.after)) last in
      let cost-of = ap (λ bs. costs_of (fresh_cost m old c shape) (blocks_with (is_between place (place + most)) R (length (all_rows R (w.before ++ block ∷ []))) bs)) first-is in
      record {
        before = w.before ++ block ∷ [];
        after = drop 1 w.after;
        pieces = pieces;
        at = λ room.
            let new-size = ap (λ es. length (shown_entries es)) is in
            let end = size.2 (omega (arith, new-size, room)) in
            let at = w.at low' in
            omega (arith, last, end, at, new-size);
        inside = some-row (m.rows_of b shape) (source.rows b shape there shaped).ends;
        room = let new-size = ap (λ es. length (shown_entries es)) is in omega (arith, new-size, up);
        done = subst (λ es. shown_entries es ++ take (most - length (shown_entries es)) (all_rows R (b ∷ drop 1 w.after)) ≡ take most (drop place (rows_at m shape))) (sym is)
            (subst (λ bs. shown_entries (grown laid) ++ take (most - length (shown_entries (grown laid))) (all_rows R bs) ≡ take most (drop place (rows_at m shape))) first-is (left laid e));
        copies = subst (All (IsCopied old c m.blocks)) (sym is) (copies-grown source laid kept);
        paid = omega (arith, paid, cost, cost-at, cost-of);
      }

  -- the walk ends with the last block
  pub ends : (laid : List RowValues) (new : List Entry) → shown_rows laid ≡ m.rows_of block shape → new ≡ grown laid
      → ((k : ℕ) → slice_get m.blocks k ≡ Some block → None ≡ slice_get m.blocks (k + 1)) → shown_entries new ≡ take most (drop place (rows_at m shape))
  ends laid new e is next =
      ap shown_entries is
      ∙ (none-added (most - length (shown_entries (grown laid))) 0 (shown_entries (grown laid))
      ∙ (ap (λ bs. shown_entries (grown laid) ++ take (most - length (shown_entries (grown laid))) (all_rows (λ b. m.rows_of b shape) bs)) (sym (none-left w.after 0 (next-first None next)))
      ∙ left laid e))

  -- the walk ends with enough rows
  pub enough : most ≤ length rows → shown_entries rows ≡ take most (drop place (rows_at m shape))
  enough high =
      let count = length-map rows shown_entry in
      let none : most - length (shown_entries rows) ≡ 0 = omega (arith, count, high) in
      sym (append-nil (shown_entries rows))
      ∙ (sym (ap (λ n. shown_entries rows ++ take n (drop first (all_rows (λ b. m.rows_of b shape) (block ∷ w.after)))) none) ∙ w.done)

  -- what is spent with the rows of the next block
  pub spends : (more : ℕ) → length rows < most → more ≤ steps + fresh_cost m old c shape block → more ≤ base + fresh_costs m old c shape place (place + most)
  spends more low cost =
      let count = length-map rows shown_entry in
      let paid = costs (omega (arith, count, low)) in
      omega (arith, paid, cost)

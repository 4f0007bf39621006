-- What holds of each position of a block holds of the least one that an item covers which begins in the block's rows.
use Rattle.std.proofs.Common.{◌≡◌, ℕ, ◌+◌, ◌<◌, ◌≤◌, nat_lt, Bool, true, false, if◌then◌else◌, List, [], ◌∷◌, All, get_or, refl, arith, ltb-true}
use Rattle.std.proofs.lemmas.List.Elements.{All-nil, recursion_from_All}
use Rattle.std.specs.List.{AllByRecursion}
use Rattle.rd_base.proofs.Lists.{all-one}
use Rattle.rd_matrix.proofs.EachRow.{begins-each}
use Rattle.rd_matrix.specs.Blocks.{IsAmong}
use Rattle.rd_matrix.specs.Entries.{EntryMeaning, all_rows}
use Rattle.rd_matrix.specs.Sources.{AreRowsOf, IsInBlock, begins_of}
use Rattle.rd_matrix.specs.declared.block.Block.{Block}
use Rattle.rd_rows.specs.Rows.{RowMeaning}
use Rattle.rd_rows.specs.declared.begin.Begin.{Begin}
use Rattle.rd_start.specs.Chosen.{first_covered, first_positions, positions_of}
use Rattle.rd_start.proofs.Lists.{all-flat}

module _ (P : ℕ → Type 0) where
  -- what holds of each position that the items of a row cover
  abbrev pub OfRow : EntryMeaning → Type 0
  OfRow e = All P (positions_of e)

  item-covers : (start end : ℕ) → ((p : ℕ) → start ≤ p → p < end → P p) → (x : Begin) → IsInBlock start end x → All P (first_covered start x)
  item-covers start end own x lies = by (nat_lt x.from x.to) refl where
    by : (t : Bool) → nat_lt x.from x.to ≡ t → All P (if t then (start + x.from) ∷ [] else [])
    by true less =
        let lt : x.from < x.to = ltb-true x.from x.to less in
        let high = lies.1 in
        all-one P (start + x.from) (own (start + x.from) (omega arith) (omega arith))
    by false less = All-nil P

  pub rows-cover : (rows : Block → List RowMeaning) (bs : List Block) → ((b : Block) → IsAmong bs b → AreRowsOf b.start b.end (rows b))
      → ((b : Block) → IsAmong bs b → (p : ℕ) → b.start ≤ p → p < b.end → P p) → All OfRow (all_rows rows bs)
  rows-cover rows bs right own = λ k d below.
      let e = get_or (all_rows rows bs) k d in
      all-flat P (first_covered e.start) e.row.begins
      (begins-each (λ start x. All P (first_covered start x)) rows bs
      (λ b among. λ j x low. item-covers b.start b.end (own b among) (get_or (begins_of (rows b)) j x) ((right b among).inside j x low)) k d below)

  pub positions-each : (es : List EntryMeaning) → All OfRow es → AllByRecursion P (first_positions es)
  positions-each es all = recursion_from_All P (first_positions es) (all-flat P positions_of es all)

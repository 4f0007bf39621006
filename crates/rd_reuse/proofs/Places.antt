-- Blocks and their rows, by place.
use Rattle.std.proofs.Common.{◌≡◌, ℕ, ◌+◌, ◌-◌, ◌<◌, inl, inr, List, [], ◌∷◌, ◌++◌, length, option_map, Option, None, Some, refl, sym, ap, ◌∙◌, subst, arith}
use Rattle.std.proofs.lemmas.Bool.{cases_lt}
use Rattle.std.proofs.lemmas.Option.{same_Some}
use Rattle.std.specs.List.{slice_get}
use Rattle.rd_base.proofs.Choices.{map-some}
use Rattle.rd_base.proofs.Lists.{get-first, get-second, at-seam}
use Rattle.rd_base.specs.declared.settings.Anchor.{Anchor}
use Rattle.rd_matrix.proofs.HeldLemmas.{same-holder, asked-within}
use Rattle.rd_matrix.proofs.Counting.{count-cons, length-numbered}
use Rattle.rd_matrix.proofs.EachRow.{numbered-at}
use Rattle.rd_matrix.specs.Blocks.{HoldsPosition, IsWithin, StartsBlock, first_start}
use Rattle.rd_matrix.specs.Entries.{EntryMeaning, all_rows, entries_of, numbered}
use Rattle.rd_matrix.specs.Sources.{SourceValues, IsSource, rows_at}
use Rattle.rd_matrix.specs.declared.block.Block.{Block}
use Rattle.rd_reuse.specs.Views.{Names, anchor_of}
use Rattle.rd_rows.specs.Rows.{RowMeaning}
use Rattle.rd_rows.specs.Shapes.{ShapeValues}

-- a row of a block, by its place among those that are numbered
pub row-in : (start k : ℕ) (rows : List RowMeaning) (e : EntryMeaning) → slice_get (numbered start 0 rows) k ≡ Some e
    → (slice_get rows k ≡ Some e.row) × (start ≡ e.start) × (k ≡ e.number)
row-in start k rows e h =
    let made : RowMeaning → EntryMeaning = λ r. record { start = start; number = k; row = r } in
    let one = map-some made (slice_get rows k) e (sym (numbered-at start 0 k k rows (omega arith)) ∙ h) in
    (one.1 ∙ ap (λ (x : EntryMeaning). Some x.row) one.2, ap (λ (x : EntryMeaning). x.start) one.2, ap (λ (x : EntryMeaning). x.number) one.2)

-- the block of which a row is one
pub record Found (rows : Block → List RowMeaning) (bs : List Block) (start row k : ℕ) : Type 0 where
  pub before : List Block
  pub block : Block
  pub after : List Block
  pub pieces : bs ≡ before ++ block ∷ after
  pub starts : block.start ≡ start
  pub inside : row < length (rows block)
  pub place : length (all_rows rows before) + row ≡ k

pub entry-found : (rows : Block → List RowMeaning) (bs : List Block) (k : ℕ) (e : EntryMeaning) → slice_get (all_rows rows bs) k ≡ Some e → Found rows bs e.start e.number k
entry-found rows [] k e h = absurd cc
entry-found rows (b ∷ bs) k e h =
    let size = length-numbered b.start 0 (rows b) in
    elim (cases_lt k (length (rows b))) as (λ _. Found rows (b ∷ bs) e.start e.number k) [
      | inl here ↦
          let parts = row-in b.start k (rows b) e (sym (get-first (entries_of rows b) (all_rows rows bs) k (omega (arith, size, here))) ∙ h) in
          let at = parts.2 in
          record { before = []; block = b; after = bs; pieces = refl; starts = parts.1; inside = omega (arith, at, here); place = omega (arith, at) }
      | inr later ↦
          let far : k ≡ length (entries_of rows b) + (k - length (rows b)) = omega (arith, size, later) in
          let rest = entry-found rows bs (k - length (rows b)) e (sym (get-second (entries_of rows b) (all_rows rows bs) k (k - length (rows b)) far) ∙ h) in
          let count = count-cons rows b rest.before in
          let place = rest.place in
          record {
            before = b ∷ rest.before;
            block = rest.block;
            after = rest.after;
            pieces = ap (λ xs. b ∷ xs) rest.pieces;
            starts = rest.starts;
            inside = rest.inside;
            place = omega (arith, count, place, later);
          }
    ]

found-of : (rows : Block → List RowMeaning) (bs : List Block) (k : ℕ) (anchor : Anchor) (o : Option EntryMeaning) → slice_get (all_rows rows bs) k ≡ o
    → option_map anchor_of o ≡ Some anchor → Found rows bs anchor.pos anchor.row k
found-of rows bs k anchor None at is = absurd cc
found-of rows bs k anchor (Some e) at is =
    let same : anchor_of e ≡ anchor = cc in
    subst (λ (a : Anchor). Found rows bs a.pos a.row k) same (entry-found rows bs k e at)

-- the block of an anchor that names a row
pub anchor-found : (rows : Block → List RowMeaning) (bs : List Block) (k : ℕ) (anchor : Anchor) → Names anchor (all_rows rows bs) k → Found rows bs anchor.pos anchor.row k
anchor-found rows bs k anchor is = found-of rows bs k anchor (slice_get (all_rows rows bs) k) refl is

-- the block that holds a position at which a block starts is that block
pub same-block : {m : SourceValues} (source : IsSource m) (place : ℕ) (before after : List Block) (b d : Block) → m.blocks ≡ before ++ b ∷ after → b.start ≡ place → HoldsPosition place m.blocks d → d ≡ b
same-block {m} source place before after b d pieces starts holds =
    let at = holds.among.1 in
    let seam = ap (λ bs. slice_get bs (length before)) pieces ∙ at-seam before b after in
    let same = same-holder (first_start m.blocks) holds.among.0 (length before) m.blocks d b source.blocks.stand at seam (omega (arith, starts, holds.from)) (omega (arith, starts, holds.below)) in
    same_Some _ _ (sym at ∙ ap (slice_get m.blocks) same ∙ seam)

-- at the position of an anchor that names a row the row's block starts
pub named-starts : (m : SourceValues) (shape : ShapeValues) (anchor : Anchor) (k : ℕ) → Names anchor (rows_at m shape) k → StartsBlock anchor.pos m.blocks
named-starts m shape anchor k is =
    let found = anchor-found (λ b. m.rows_of b shape) m.blocks k anchor is in
    (found.block, (length found.before, ap (λ bs. slice_get bs (length found.before)) found.pieces ∙ at-seam found.before found.block found.after), found.starts)

-- the position of an anchor that names a row is one of its source's
pub within : (m : SourceValues) (shape : ShapeValues) (anchor : Anchor) (k : ℕ) → IsSource m → Names anchor (rows_at m shape) k → IsWithin anchor.pos m.blocks
within m shape anchor k source is = asked-within m anchor.pos source (inr (named-starts m shape anchor k is))

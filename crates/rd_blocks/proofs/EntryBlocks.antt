-- The blocks of rows that stand under a start and a number.
use Rattle.std.proofs.Common.{◌≡◌, ℕ, suc, List, [], ◌∷◌, All, Some, refl, sym, ap, subst, ◌∙◌}
use Rattle.std.specs.Prelude.{slice_get, take, drop}
use Rattle.std.proofs.lemmas.List.Elements.{All-from_recursion, All-nil, All-cons, All-head, All-tail, All-take, All-drop}
use Rattle.std.proofs.lemmas.Option.{same_Some}
use Rattle.rd_base.proofs.Lists.{all-at}
use Rattle.rd_matrix.proofs.EachRow.{entries-each}
use Rattle.rd_matrix.proofs.HeldLemmas.{same-place}
use Rattle.rd_matrix.specs.Blocks.{IsAmong, StandFrom}
use Rattle.rd_matrix.specs.Entries.{EntryMeaning, shown_entry, shown_entries}
use Rattle.rd_matrix.specs.Sources.{SourceValues, rows_at}
use Rattle.rd_matrix.specs.declared.block.Block.{Block}
use Rattle.rd_matrix.specs.declared.matrix.Entry.{Entry}
use Rattle.rd_rows.specs.Rows.{RowMeaning}
use Rattle.rd_rows.specs.Shapes.{ShapeValues}
use Rattle.rd_blocks.specs.Kept.{AreRowsAt}

-- ---- the block of a row

-- a row of one of these blocks, under its start and its number
abbrev pub IsRowOf : (Block → List RowMeaning) → List Block → EntryMeaning → Type 0
IsRowOf rows bs x = (b : Block) × IsAmong bs b × (b.start ≡ x.start) × (slice_get (rows b) x.number ≡ Some x.row)

pub row-block : (m : SourceValues) (shape : ShapeValues) (es : List Entry) (k : ℕ) (e : Entry) → AreRowsAt m shape es → slice_get es k ≡ Some e
    → IsRowOf (λ b. m.rows_of b shape) m.blocks (shown_entry e)
row-block m shape es k e all found =
    let place = all-at (λ (x : Entry). (i : ℕ) × (slice_get (rows_at m shape) i ≡ Some (shown_entry x))) es k e all found in
    all-at (IsRowOf (λ b. m.rows_of b shape) m.blocks) (rows_at m shape) place.0 (shown_entry e) (All-from_recursion (IsRowOf (λ b. m.rows_of b shape) m.blocks) (rows_at m shape)
    (entries-each (IsRowOf (λ b. m.rows_of b shape) m.blocks) (λ b. m.rows_of b shape) m.blocks (λ b k r among found. (b, among, refl, found)))) place.1

-- blocks that start at one position are one
pub same-start : (from j k : ℕ) (bs : List Block) (a b : Block) → StandFrom from bs → slice_get bs j ≡ Some a → slice_get bs k ≡ Some b → a.start ≡ b.start → a ≡ b
same-start from j k bs a b stand e f start = same_Some a b (sym e ∙ (ap (slice_get bs) (same-place from j k bs a b stand e f start) ∙ f))

-- ---- rows one behind the other

abbrev IsPlaced : SourceValues → ShapeValues → EntryMeaning → Type 0
IsPlaced m shape x = (place : ℕ) × (slice_get (rows_at m shape) place ≡ Some x)

each-placed : (m : SourceValues) (shape : ShapeValues) (xs : List EntryMeaning) → ((k : ℕ) (x : EntryMeaning) → slice_get xs k ≡ Some x → IsPlaced m shape x) → All (IsPlaced m shape) xs
each-placed m shape [] at = All-nil (IsPlaced m shape)
each-placed m shape (x ∷ xs) at = All-cons (IsPlaced m shape) x xs (at 0 x refl) (each-placed m shape xs (λ k y e. at (suc k) y e))

unshown : (m : SourceValues) (shape : ShapeValues) (es : List Entry) → All (IsPlaced m shape) (shown_entries es) → AreRowsAt m shape es
unshown m shape [] all = All-nil (λ (e : Entry). IsPlaced m shape (shown_entry e))
unshown m shape (e ∷ es) all =
    All-cons (λ (x : Entry). IsPlaced m shape (shown_entry x)) e es (All-head (IsPlaced m shape) (shown_entry e) (shown_entries es) all)
    (unshown m shape es (All-tail (IsPlaced m shape) (shown_entry e) (shown_entries es) all))

pub slice-rows : (m : SourceValues) (shape : ShapeValues) (es : List Entry) (first height : ℕ) → shown_entries es ≡ take height (drop first (rows_at m shape)) → AreRowsAt m shape es
slice-rows m shape es first height e =
    let every = each-placed m shape (rows_at m shape) (λ k x found. (k, found)) in
    unshown m shape es (subst (All (IsPlaced m shape)) (sym e)
    (All-take (IsPlaced m shape) height (drop first (rows_at m shape)) (All-drop (IsPlaced m shape) first (rows_at m shape) every)))

-- The row at a place of a block or a matrix; and what holds of each row of each block holds of all rows of the blocks.
use Rattle.std.proofs.Common.{◌≡◌, ℕ, zero, suc, ◌+◌, List, [], ◌∷◌, All, Some, refl, ap, ◌∙◌, subst, arith}
use Rattle.std.specs.Prelude.{slice_get}
use Rattle.std.specs.List.{AllByRecursion}
use Rattle.std.specs.Option.{option_map}
use Rattle.std.proofs.lemmas.List.Elements.{All-from_recursion}
use Rattle.std.proofs.lemmas.Option.{slice_get-map}
use Rattle.rd_base.proofs.Lists.{all-at, all-back, all-front, each-append}
use Rattle.rd_matrix.specs.Blocks.{IsAmong}
use Rattle.rd_matrix.specs.Entries.{EntryMeaning, all_rows, entries_of, numbered, shown_entries, shown_entry}
use Rattle.rd_matrix.specs.Sources.{begins_of}
use Rattle.rd_matrix.specs.declared.block.Block.{Block}
use Rattle.rd_matrix.specs.declared.matrix.Entry.{Entry}
use Rattle.rd_rows.specs.Rows.{RowMeaning}
use Rattle.rd_rows.specs.declared.begin.Begin.{Begin}

-- the row at a place of the entries of a matrix
pub entry-at : (es : List Entry) (k : ℕ) (e : Entry) → slice_get es k ≡ Some e → slice_get (shown_entries es) k ≡ Some (shown_entry e)
entry-at es k e at = slice_get-map shown_entry es k ∙ ap (option_map shown_entry) at

-- the row at a place of those that are numbered
pub numbered-at : (start number j k : ℕ) (rows : List RowMeaning) → k ≡ number + j
    → slice_get (numbered start number rows) j ≡ option_map (λ r. record { start = start; number = k; row = r }) (slice_get rows j)
numbered-at start number j k [] is = refl
numbered-at start number zero k (r ∷ rows) is = let same : number ≡ k = omega (arith, is) in ap (λ n. Some (record { start = start; number = n; row = r })) same
numbered-at start number (suc j) k (r ∷ rows) is = numbered-at start (number + 1) j k rows (omega (arith, is))

numbered-each : (P : EntryMeaning → Type 0) (start number : ℕ) (rows : List RowMeaning)
    → ((j k : ℕ) (r : RowMeaning) → k ≡ number + j → slice_get rows j ≡ Some r → P (record { start = start; number = k; row = r })) → AllByRecursion P (numbered start number rows)
numbered-each P start number [] own = tt
numbered-each P start number (r ∷ rs) own =
    (own 0 number r (omega arith) refl, numbered-each P start (number + 1) rs (λ j k x is found. own (suc j) k x (omega (arith, is)) found))

-- what holds of each row of each block, by the block's start and the row's number in it, holds of all rows
pub entries-each : (P : EntryMeaning → Type 0) (rows : Block → List RowMeaning) (bs : List Block)
    → ((b : Block) (k : ℕ) (r : RowMeaning) → IsAmong bs b → slice_get (rows b) k ≡ Some r → P (record { start = b.start; number = k; row = r })) → AllByRecursion P (all_rows rows bs)
entries-each P rows [] own = tt
entries-each P rows (b ∷ bs) own =
    each-append P (entries_of rows b) (all_rows rows bs)
    (numbered-each P b.start 0 (rows b)
    (λ j k r is found. let same : j ≡ k = omega (arith, is) in own b k r (0, refl) (subst (λ (n : ℕ). slice_get (rows b) n ≡ Some r) same found)))
    (entries-each P rows bs (λ d k r among found. own d k r (suc among.0, among.1) found))

-- what holds of each row of each block holds of each row in the list of all
pub rows-each : (P : RowMeaning → Type 0) (rows : Block → List RowMeaning) (bs : List Block) → ((b : Block) → All P (rows b)) → All (λ (e : EntryMeaning). P e.row) (all_rows rows bs)
rows-each P rows bs own =
    All-from_recursion (λ (e : EntryMeaning). P e.row) (all_rows rows bs) (entries-each (λ (e : EntryMeaning). P e.row) rows bs (λ b k r among found. all-at P (rows b) k r (own b) found))

begins-at : (P : Begin → Type 0) (rows : List RowMeaning) (k : ℕ) (r : RowMeaning) → All P (begins_of rows) → slice_get rows k ≡ Some r → All P r.begins
begins-at P [] k r all found = absurd cc
begins-at P (s ∷ rows) zero r all found = let same : s ≡ r = cc in subst (λ (x : RowMeaning). All P x.begins) same (all-front P s.begins (begins_of rows) all)
begins-at P (s ∷ rows) (suc k) r all found = begins-at P rows k r (all-back P s.begins (begins_of rows) all) found

-- what holds of the items of each block, by its start, holds of those that begin in each row
pub begins-each : (P : ℕ → Begin → Type 0) (rows : Block → List RowMeaning) (bs : List Block) → ((b : Block) → IsAmong bs b → All (P b.start) (begins_of (rows b)))
    → All (λ (e : EntryMeaning). All (P e.start) e.row.begins) (all_rows rows bs)
begins-each P rows bs own =
    All-from_recursion (λ (e : EntryMeaning). All (P e.start) e.row.begins) (all_rows rows bs)
    (entries-each (λ (e : EntryMeaning). All (P e.start) e.row.begins) rows bs (λ b k r among found. begins-at (P b.start) (rows b) k r (own b among) found))

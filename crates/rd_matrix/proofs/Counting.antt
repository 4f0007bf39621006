-- The rows of blocks, counted, and what the blocks cost that have rows of a kind.
use Rattle.std.proofs.Common.{◌≡◌, ℕ, suc, ◌+◌, ◌-◌, ◌<◌, ◌≤◌, Bool, true, false, not, if◌then◌else◌, List, [], ◌∷◌, ◌++◌, length, refl, ap, ◌∙◌, arith}
use Rattle.std.proofs.lemmas.Bool.{and_parts, both_ways, not-true}
use Rattle.std.proofs.lemmas.Grind.{flat_map-append}
use Rattle.std.proofs.lemmas.List.{length-append}
use Rattle.std.proofs.lemmas.List.Folds.{list_any_at}
use Rattle.std.proofs.lemmas.List.FromFn.{length-range_with_len, get_or-range_with_len}
use Rattle.std.specs.List.{list_any, range_with_len}
use Rattle.rd_matrix.specs.Entries.{all_rows, entries_of, numbered}
use Rattle.rd_matrix.specs.Rows.{blocks_with}
use Rattle.rd_matrix.specs.Sources.{costs_of}
use Rattle.rd_matrix.specs.declared.block.Block.{Block}
use Rattle.rd_rows.specs.Laws.{ends_last}
use Rattle.rd_rows.specs.Rows.{RowMeaning}

pub length-numbered : (start number : ℕ) (rows : List RowMeaning) → length (numbered start number rows) ≡ length rows
length-numbered start number [] = refl
length-numbered start number (r ∷ rows) = ap suc (length-numbered start (number + 1) rows)

pub count-cons : (rows : Block → List RowMeaning) (b : Block) (bs : List Block) → length (all_rows rows (b ∷ bs)) ≡ length (rows b) + length (all_rows rows bs)
count-cons rows b bs = length-append (entries_of rows b) (all_rows rows bs) ∙ ap (λ n. n + length (all_rows rows bs)) (length-numbered b.start 0 (rows b))

pub all-append : (rows : Block → List RowMeaning) (xs ys : List Block) → all_rows rows (xs ++ ys) ≡ all_rows rows xs ++ all_rows rows ys
all-append rows xs ys = flat_map-append (entries_of rows) xs ys

pub count-append : (rows : Block → List RowMeaning) (xs ys : List Block) → length (all_rows rows (xs ++ ys)) ≡ length (all_rows rows xs) + length (all_rows rows ys)
count-append rows xs ys = ap length (all-append rows xs ys) ∙ length-append (all_rows rows xs) (all_rows rows ys)

pub count-last : (rows : Block → List RowMeaning) (xs : List Block) (b : Block) → length (all_rows rows (xs ++ b ∷ [])) ≡ length (all_rows rows xs) + length (rows b)
count-last rows xs b = omega (arith, count-append rows xs (b ∷ []), count-cons rows b [])

-- rows of which the last one ends the block are one or more
pub some-row : (rows : List RowMeaning) → ends_last rows ≡ true → 0 < length rows
some-row [] e = absurd cc
some-row (r ∷ rows) e = omega arith

-- where the last row and no other ends the block, a row that ends it is the last, and behind another one the same holds
pub ends-alone : (r : RowMeaning) (rs : List RowMeaning) → r.ends_block ≡ true → ends_last (r ∷ rs) ≡ true → rs ≡ []
ends-alone r [] ends last = refl
ends-alone r (s ∷ rs) ends last = absurd (both_ways r.ends_block (not-true r.ends_block (and_parts (not r.ends_block) (ends_last (s ∷ rs)) last).0) ends)

pub behind-first : (r : RowMeaning) (rs : List RowMeaning) → r.ends_block ≡ false → ends_last (r ∷ rs) ≡ true → ends_last rs ≡ true
behind-first r [] goes last = cc
behind-first r (s ∷ rs) goes last = (and_parts (not r.ends_block) (ends_last (s ∷ rs)) last).1

-- a test that passes at a number passes in each list of numbers that has it
pub any-range : (p : ℕ → Bool) (from n k : ℕ) → from ≤ k → k < from + n → p k ≡ true → list_any p (range_with_len from n) ≡ true
any-range p from n k low high e =
    list_any_at p (range_with_len from n) (k - from) 0 (omega (arith, length-range_with_len from n))
    (ap p (get_or-range_with_len from n (k - from) 0 (omega arith) ∙ omega arith) ∙ e)

-- the costs of a block that has a row of a kind, and of those behind it
pub costs-here : (kind : ℕ → Bool) (rows : Block → List RowMeaning) (cost : Block → ℕ) (first : ℕ) (b : Block) (bs : List Block)
    → list_any kind (range_with_len first (length (rows b))) ≡ true
    → costs_of cost (blocks_with kind rows first (b ∷ bs)) ≡ cost b + costs_of cost (blocks_with kind rows (first + length (rows b)) bs)
costs-here kind rows cost first b bs e =
    ap (λ (t : Bool). costs_of cost (if t then b ∷ blocks_with kind rows (first + length (rows b)) bs else blocks_with kind rows (first + length (rows b)) bs)) e

pub costs-if : (cost : Block → ℕ) (b : Block) (bs : List Block) (t : Bool) → costs_of cost bs ≤ costs_of cost (if t then b ∷ bs else bs)
costs-if cost b bs true = omega arith
costs-if cost b bs false = omega arith

-- blocks cost no more than these and those before them
pub costs-behind : (kind : ℕ → Bool) (rows : Block → List RowMeaning) (cost : Block → ℕ) (first : ℕ) (before bs : List Block)
    → costs_of cost (blocks_with kind rows (first + length (all_rows rows before)) bs) ≤ costs_of cost (blocks_with kind rows first (before ++ bs))
costs-behind kind rows cost first [] bs =
    let same : first + 0 ≡ first = omega arith in
    let e = ap (λ n. costs_of cost (blocks_with kind rows n bs)) same in
    omega (arith, e)
costs-behind kind rows cost first (x ∷ before) bs =
    let rest = costs-behind kind rows cost (first + length (rows x)) before bs in
    let count = count-cons rows x before in
    let place : first + length (all_rows rows (x ∷ before)) ≡ (first + length (rows x)) + length (all_rows rows before) = omega (arith, count) in
    let e = ap (λ n. costs_of cost (blocks_with kind rows n bs)) place in
    let here = costs-if cost x (blocks_with kind rows (first + length (rows x)) (before ++ bs)) (list_any kind (range_with_len first (length (rows x)))) in
    omega (arith, rest, e, here)

-- The rows of a block, added to a strip one by one.
use Rattle.std.proofs.Common.{◌≡◌, ℕ, ◌+◌, ◌<◌, ◌≤◌, List, [], ◌∷◌, ◌++◌, length, map, take, drop, get_or, Some, refl, sym, ap, ◌∙◌, arith}
use Rattle.std.proofs.lemmas.List.{drop_all, length-map, take_all}
use Rattle.std.proofs.lemmas.Option.{slice_get-map, slice_get_read}
use Rattle.std.specs.Option.{option_map}
use Rattle.rd_base.proofs.Lists.{drop-at, mapped-more}
use Rattle.rd_rows.specs.Copies.{RowValues, shown_rows}
use Rattle.std.specs.List.{slice_get}
use Rattle.rd_matrix.proofs.Counting.{length-numbered}
use Rattle.rd_matrix.proofs.EachRow.{numbered-at}
use Rattle.rd_matrix.specs.Entries.{EntryMeaning, numbered}
use Rattle.rd_rows.specs.Rows.{RowMeaning}
use Rattle.rd_start.specs.Strips.{strip_row_of}
use Rattle.rd_start.specs.declared.strip.StripRow.{StripRow}

abbrev entry : ℕ → ℕ → RowMeaning → EntryMeaning
entry start k r = record { start = start; number = k; row = r }

entry-at : (start k : ℕ) (rows : List RowMeaning) (r : RowMeaning) → slice_get rows k ≡ Some r → slice_get (numbered start 0 rows) k ≡ Some (entry start k r)
entry-at start k rows r e = numbered-at start 0 k k rows (omega arith) ∙ ap (option_map (entry start k)) e

pub strip_rows-below : (point start k : ℕ) (rows : List RowMeaning) (r : RowMeaning) (old strip_rows new : List StripRow) (strip_row : StripRow) → slice_get rows k ≡ Some r
    → strip_row ≡ strip_row_of point (record { start = start; number = k; row = r }) → strip_rows ≡ old ++ map (strip_row_of point) (take k (numbered start 0 rows)) → new ≡ strip_rows ++ strip_row ∷ []
    → new ≡ old ++ map (strip_row_of point) (take (k + 1) (numbered start 0 rows))
strip_rows-below point start k rows r old strip_rows new strip_row at is before now =
    mapped-more (strip_row_of point) (numbered start 0 rows) k (entry start k r) old strip_rows new strip_row (entry-at start k rows r at) is before now

pub strip_rows-above : (point start k : ℕ) (rows : List RowMeaning) (r : RowMeaning) (old strip_rows new : List StripRow) (strip_row : StripRow) → slice_get rows k ≡ Some r
    → strip_row ≡ strip_row_of point (record { start = start; number = k; row = r }) → strip_rows ≡ map (strip_row_of point) (drop (k + 1) (numbered start 0 rows)) ++ old → new ≡ strip_row ∷ strip_rows
    → new ≡ map (strip_row_of point) (drop k (numbered start 0 rows)) ++ old
strip_rows-above point start k rows r old strip_rows new strip_row at is before now =
    let f = strip_row_of point in
    let es = numbered start 0 rows in
    now ∙ (ap (λ x. x ∷ strip_rows) is ∙ (ap (λ ys. f (entry start k r) ∷ ys) before
    ∙ ap (λ ys. map f ys ++ old) (sym (drop-at es k (entry start k r) (entry-at start k rows r at)))))

pub all-below : (point start k : ℕ) (rows : List RowMeaning) (old new : List StripRow) → length rows ≤ k → new ≡ old ++ map (strip_row_of point) (take k (numbered start 0 rows))
    → new ≡ old ++ map (strip_row_of point) (numbered start 0 rows)
all-below point start k rows old new all e =
    let size = length-numbered start 0 rows in
    e ∙ ap (λ ys. old ++ map (strip_row_of point) ys) (take_all k (numbered start 0 rows) (omega arith))

-- the rows of a block, shown
pub shown-at : (rows : List RowValues) (k : ℕ) (r : RowValues) → k < length rows → r ≡ get_or rows k r → slice_get (shown_rows rows) k ≡ Some r.shown
shown-at rows k r inside at =
    slice_get-map (λ (x : RowValues). x.shown) rows k ∙ ap (option_map (λ (x : RowValues). x.shown)) (slice_get_read rows (length rows) k r refl inside at)

pub none-above : (point start k : ℕ) (rows : List RowMeaning) (old : List StripRow) → length rows ≤ k → old ≡ map (strip_row_of point) (drop k (numbered start 0 rows)) ++ old
none-above point start k rows old all =
    let size = length-numbered start 0 rows in
    sym (ap (λ ys. map (strip_row_of point) ys ++ old) (drop_all k (numbered start 0 rows) (omega arith)))

pub count-shown : (rows : List RowValues) → length (shown_rows rows) ≡ length rows
count-shown rows = length-map rows (λ (r : RowValues). r.shown)

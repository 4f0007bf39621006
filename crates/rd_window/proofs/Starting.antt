-- The row at which a window starts, and the rows in view from there.
use Rattle.std.proofs.Common.{◌≡◌, ℕ, zero, suc, ◌+◌, ◌-◌, ◌*◌, ◌<◌, ◌≤◌, List, [], ◌∷◌, length, take, drop, slice_get, option_map, Some, refl, sym, ap, ◌∙◌, subst, arith}
use Rattle.std.specs.Prelude.{min}
use Rattle.std.proofs.lemmas.List.{length-drop, length-map, length-take}
use Rattle.rd_matrix.specs.Entries.{EntryMeaning, shown_entries, shown_entry}
use Rattle.rd_matrix.specs.Sources.{SourceValues, rows_at}
use Rattle.rd_matrix.specs.declared.matrix.Entry.{Entry}
use Rattle.rd_reuse.specs.Keeping.{kept_source}
use Rattle.rd_reuse.specs.Views.{Names, anchor_of, fresh_costs}
use Rattle.rd_reuse.specs.declared.change.Change.{Change}
use Rattle.rd_rows.specs.Shapes.{IsShape, ShapeValues}
use Rattle.rd_start.specs.Chosen.{anchor_at, chosen_of}
use Rattle.rd_start.specs.Near.{near_costs}
use Rattle.rd_start.specs.declared.wanted.Chosen.{Chosen}
use Rattle.rd_start.specs.declared.wanted.Wanted.{Wanted}
use Rattle.rd_window.specs.Views.{rows_in_view, start_row}
use Rattle.rd_window.proofs.Near.{view-costs}

named-at : (rows : List EntryMeaning) (k : ℕ) → k < length rows → option_map anchor_of (slice_get rows k) ≡ Some (anchor_at rows k)
named-at [] k low = absurd (omega arith)
named-at (e ∷ rows) zero low = refl
named-at (e ∷ rows) (suc k) low = named-at rows k (omega arith)

-- the chosen start names its row
pub start-named : (m : SourceValues) (shape : ShapeValues) (w : Wanted) → start_row m shape w < length (rows_at m shape)
    → Names (chosen_of m shape w).anchor (rows_at m shape) (start_row m shape w)
start-named m shape w low = named-at (rows_at m shape) (start_row m shape w) low

-- ---- over a source that a call has left as it was

-- the row that was chosen as the start, once its source means what it meant
pub record IsStart (given now : SourceValues) (shape : ShapeValues) (w : Wanted) (chosen : Chosen) : Type 0 where
  pub same : now ≡ given
  pub shaped : IsShape shape
  pub low : start_row given shape w < length (rows_at given shape)
  pub named : Names chosen.anchor (rows_at given shape) (start_row given shape w)

-- the start that was chosen names its row
pub chosen-named : (m : SourceValues) (shape : ShapeValues) (w : Wanted) (chosen : Chosen) → start_row m shape w < length (rows_at m shape) → chosen ≡ chosen_of m shape w
    → Names chosen.anchor (rows_at m shape) (start_row m shape w)
chosen-named m shape w chosen low is = subst (λ (x : Chosen). Names x.anchor (rows_at m shape) (start_row m shape w)) (sym is) (start-named m shape w low)

-- what a call says of the source that it was given it says of the source as it was
pub at-source : (P : SourceValues → Type 0) (m n : SourceValues) → n ≡ m → P n → P m
at-source P m n same told = subst P same told

pub back-at-source : (P : SourceValues → Type 0) (m n : SourceValues) → n ≡ m → P m → P n
back-at-source P m n same told = subst P (sym same) told

-- a source with kept rows determines the blocks, the rows and the costs of the one beneath
pub beneath-same : (n m : SourceValues) (old other : List Entry) (c d : Change) (shape at : ShapeValues) → kept_source n other d at ≡ kept_source m old c shape
    → kept_source n old c shape ≡ kept_source m old c shape
beneath-same n m old other c d shape at same = ap (λ (x : SourceValues). kept_source (record x { cost_of = x.cost_beneath }) old c shape) same

-- the rows that a call lays out from the start are those in view
pub rows-laid : (m n : SourceValues) (shape : ShapeValues) (w : Wanted) (chosen : Chosen) (es : List Entry) → IsStart m n shape w chosen
    → ((place : ℕ) → Names chosen.anchor (rows_at n shape) place → shown_entries es ≡ take w.height (drop place (rows_at n shape))) → shown_entries es ≡ rows_in_view m shape w
rows-laid m n shape w chosen es start told =
    at-source (λ (x : SourceValues). (place : ℕ) → Names chosen.anchor (rows_at x shape) place → shown_entries es ≡ take w.height (drop place (rows_at x shape))) m n start.same told
    (start_row m shape w) start.named

-- the steps of choosing a start and of laying out the rows from there
pub spent : (m n : SourceValues) (old : List Entry) (c : Change) (shape : ShapeValues) (w : Wanted) (chosen : Chosen) (before chose laid : ℕ)
    → IsStart (kept_source m old c shape) (kept_source n old c shape) shape w chosen → chose ≤ before + 2 * near_costs (kept_source m old c shape) shape w
    → ((place : ℕ) → Names chosen.anchor (rows_at n shape) place → laid ≤ chose + fresh_costs n old c shape place (place + w.height))
    → laid ≤ before + 3 * near_costs (kept_source m old c shape) shape w
spent m n old c shape w chosen before chose laid start first told =
    let named = subst (λ (x : SourceValues). Names chosen.anchor (rows_at x shape) (start_row x shape w)) (sym start.same) start.named in
    let second = told (start_row n shape w) named in
    let less = view-costs n old c shape w in
    let same = ap (λ (x : SourceValues). near_costs x shape w) start.same in
    omega (arith, first, second, less, same)

-- a window has as many rows in view as its height, or as there are from its start on
rows-shown : (m : SourceValues) (shape : ShapeValues) (w : Wanted) (es : List Entry) → shown_entries es ≡ rows_in_view m shape w → length es ≡ min w.height (length (rows_at m shape) - start_row m shape w)
rows-shown m shape w es same =
    sym (length-map es shown_entry) ∙ (ap length same ∙ (length-take w.height (drop (start_row m shape w) (rows_at m shape)) ∙ ap (min w.height) (length-drop (start_row m shape w) (rows_at m shape))))

-- a window of at least one row, which starts at a row that there is, has a row in view
pub some-laid : (m : SourceValues) (shape : ShapeValues) (w : Wanted) (es : List Entry) → 1 ≤ w.height → start_row m shape w < length (rows_at m shape) → shown_entries es ≡ rows_in_view m shape w → 0 < length es
some-laid m shape w es some low same = omega (arith, rows-shown m shape w es same, some, low)

-- a window that has a row in view starts at a row that there is
pub start-laid : (m : SourceValues) (shape : ShapeValues) (w : Wanted) (es : List Entry) → 0 < length es → shown_entries es ≡ rows_in_view m shape w → start_row m shape w < length (rows_at m shape)
start-laid m shape w es some same = omega (arith, rows-shown m shape w es same, some)

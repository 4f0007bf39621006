-- Whether rows in view have the first row of a source, and its last one.
use Rattle.std.proofs.Common.{◌≡◌, ℕ, ◌+◌, ◌-◌, ◌<◌, ◌≤◌, inl, inr, true, false, ◌==◌, ◌&&◌, leb, is_some, List, [], ◌∷◌, ◌++◌, length, take, drop, slice_get, Option, None, Some, refl, sym, ap, ap₂, ◌∙◌, subst, arith}
use Rattle.std.proofs.lemmas.Bool.{cases_lt, eq-eqb, false≢true, le-leb, lt-leb, ne_eqb}
use Rattle.std.proofs.lemmas.List.{length-append}
use Rattle.rd_base.proofs.Lists.{at-seam, element-at}
use Rattle.rd_matrix.proofs.Counting.{count-cons, some-row}
use Rattle.rd_matrix.proofs.Covering.{few-whole, last-all}
use Rattle.rd_matrix.proofs.HeldLemmas.{later-start}
use Rattle.rd_matrix.proofs.Passing.{one-position}
use Rattle.rd_matrix.specs.Blocks.{StandFrom, end_from, first_start}
use Rattle.rd_matrix.specs.Cursors.{cursor_in}
use Rattle.rd_matrix.specs.Entries.{EntryMeaning, all_rows, shown_entries}
use Rattle.rd_matrix.specs.Sources.{SourceValues, IsSource, rows_at}
use Rattle.rd_matrix.specs.declared.block.Block.{Block}
use Rattle.rd_reuse.proofs.Places.{entry-found}
use Rattle.rd_rows.specs.Rows.{RowMeaning}
use Rattle.rd_rows.specs.Shapes.{ShapeValues, IsShape}
use Rattle.rd_start.specs.Chosen.{begins_item, row_of}
use Rattle.rd_start.specs.declared.wanted.Wanted.{Wanted}
use Rattle.rd_window.specs.Layouts.{IsSourceOf, TellsEnds}
use Rattle.rd_window.specs.Views.{rows_in_view, shows_at, start_row, starts_at}
use Rattle.rd_window.specs.declared.layout.Layout.{Layout}
use Rattle.rd_window.specs.declared.layout.TextEnds.{TextEnds}
use Rattle.rd_window.proofs.Points.{hidden, in-view, point-shown, rows-counted}

starts-by : (begin : ℕ) (es : List EntryMeaning) (e : EntryMeaning) → slice_get es 0 ≡ Some e → starts_at begin es ≡ ((e.start == begin) && (e.number == 0))
starts-by begin [] e at = absurd cc
starts-by begin (x ∷ es) e at = let same : x ≡ e = cc in ap (λ (y : EntryMeaning). (y.start == begin) && (y.number == 0)) same

module _ {m : SourceValues} {shape : ShapeValues} {ends : TextEnds} (of : IsSourceOf ends m) (is : IsShape shape) where
  abbrev source : IsSource m
  source = of.source

  abbrev rows_in : Block → List RowMeaning
  rows_in b = m.rows_of b shape

  -- ---- the first row

  first-by : (i : ℕ) (e : EntryMeaning) (before after : List Block) (b : Block) → m.blocks ≡ before ++ b ∷ after → b.start ≡ e.start → length (all_rows rows_in before) + e.number ≡ i
      → ((e.start == ends.begin) && (e.number == 0)) ≡ (i == 0)
  first-by i e [] after b pieces starts place =
      let first : first_start m.blocks ≡ b.start = ap first_start pieces in
      let same : e.start ≡ ends.begin = omega (arith, first, starts, of.begin) in
      let number : e.number ≡ i = omega (arith, place) in
      ap₂ (λ a n. a && (n == 0)) (eq-eqb e.start ends.begin same) number
  first-by i e (x ∷ xs) after b pieces starts place =
      let stand = subst (StandFrom (first_start m.blocks)) pieces source.blocks.stand in
      let later = (later-start x.end (length xs) (xs ++ b ∷ after) b stand.2 (at-seam xs b after)).0 in
      let some = some-row (rows_in x) (source.rows x shape (0, ap (λ bs. slice_get bs 0) pieces) is).ends in
      let count = count-cons rows_in x xs in
      let other = ne_eqb e.start ends.begin (λ same. omega (arith, same, of.begin, starts, stand.0, stand.1, later)) in
      ap (λ a. a && (e.number == 0)) other ∙ sym (ne_eqb i 0 (λ none. omega (arith, none, place, some, count)))

  pub first-shown : (i height : ℕ) → i < length (rows_at m shape) → 1 ≤ height → starts_at ends.begin (take height (drop i (rows_at m shape))) ≡ (i == 0)
  first-shown i height low some =
      let rows = rows_at m shape in
      let found = element-at rows i low in
      let same : i + 0 ≡ i = omega arith in
      let f = entry-found rows_in m.blocks i found.0 found.1 in
      starts-by ends.begin (take height (drop i rows)) found.0 (in-view rows i height 0 (omega (arith, some)) ∙ (ap (slice_get rows) same ∙ found.1))
      ∙ first-by i found.0 f.before f.after f.block f.pieces f.starts f.place

  -- ---- the last row

  last-by : (i height k : ℕ) (e : EntryMeaning) (o : Option (ℕ × ℕ)) → cursor_in ends.end (take height (drop i (rows_at m shape))) ≡ o → i ≤ k → length (rows_at m shape) ≡ k + 1
      → row_of ends.end (rows_at m shape) ≡ k → slice_get (rows_at m shape) k ≡ Some e → begins_item ends.end e ≡ true → is_some o ≡ leb (length (rows_at m shape)) (i + height)
  last-by i height k e (Some place) at low size row there begins =
      let shown = point-shown ends.end source is i height place at in
      sym (le-leb (length (rows_at m shape)) (i + height) (omega (arith, size, row, shown.0, shown.1)))
  last-by i height k e None at low size row there begins =
      elim (cases_lt (i + height) (length (rows_at m shape))) as (λ _. false ≡ leb (length (rows_at m shape)) (i + height)) [
        | inl less ↦ sym (lt-leb (length (rows_at m shape)) (i + height) less)
        | inr all ↦ absurd (false≢true (hidden ends.end i height (rows_at m shape) k e there begins at low (omega (arith, size, all))))
      ]

  pub last-shown : (i height : ℕ) → i < length (rows_at m shape) → shows_at ends.end (take height (drop i (rows_at m shape))) ≡ leb (length (rows_at m shape)) (i + height)
  last-shown i height low =
      let rows = rows_at m shape in
      let last = last-all rows_in m.blocks source.blocks.some (λ b among. of.last b shape among is) in
      let k = length last.0 in
      let position : end_from 0 m.blocks - 1 ≡ ends.end = omega (arith, of.end) in
      let begins : begins_item ends.end last.1 ≡ true = ap (λ p. begins_item p last.1) (sym position) ∙ last.3 in
      let there : slice_get rows k ≡ Some last.1 = ap (λ es. slice_get es k) last.2 ∙ at-seam last.0 last.1 [] in
      let size : length rows ≡ k + 1 = ap length last.2 ∙ length-append last.0 (last.1 ∷ []) in
      let less = rows-counted ends.end rows in
      let few = few-whole m shape ends.end source is in
      let row = one-position (begins_item ends.end) rows k last.1 (omega (arith, less, few)) there begins in
      last-by i height k last.1 (cursor_in ends.end (take height (drop i rows))) refl (omega (arith, low, size)) size row there begins

  -- rows in view tell whether they have the first row and the last one
  pub tells : (w : Wanted) (l : Layout) → start_row m shape w < length (rows_at m shape) → 1 ≤ w.height → shown_entries l.matrix ≡ rows_in_view m shape w → TellsEnds ends m shape w l
  tells w l low some rows = record {
    top = ap (starts_at ends.begin) rows ∙ first-shown (start_row m shape w) w.height low some;
    bottom = ap (shows_at ends.end) rows ∙ last-shown (start_row m shape w) w.height low;
  }

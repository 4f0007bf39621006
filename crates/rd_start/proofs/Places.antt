-- The rows of a strip as rows of its source.
use Rattle.std.proofs.Common.{◌≡◌, ℕ, ◌+◌, ◌-◌, ◌<◌, ◌≤◌, inl, inr, min, List, ◌++◌, length, take, drop, Option, None, Some, sym, ap, ap₂, ◌∙◌, arith}
use Rattle.std.proofs.Math.Seq.{drop-append-add}
use Rattle.std.proofs.lemmas.List.{drop-append-le, drop-take, length-drop, take-append-le, take_all}
use Rattle.std.proofs.lemmas.Bool.{cases_lt}
use Rattle.std.proofs.lemmas.Option.{slice_get-map}
use Rattle.std.specs.List.{drop-map, slice_get, take-map}
use Rattle.std.specs.Option.{option_map}
use Rattle.rd_base.proofs.Lists.{get-first, get-second}
use Rattle.rd_base.specs.declared.settings.Anchor.{Anchor}
use Rattle.rd_matrix.specs.Entries.{EntryMeaning, all_rows}
use Rattle.rd_matrix.specs.Sources.{SourceValues}
use Rattle.rd_start.specs.Chosen.{anchor_at, anchor_from, first_positions}
use Rattle.rd_start.specs.Strips.{IsStrip, Reaches, first_row, strip_row_of, rows_in, span_of}
use Rattle.rd_start.specs.declared.span.Span.{Span}
use Rattle.rd_start.specs.declared.strip.StripRow.{StripRow}
use Rattle.rd_start.specs.declared.strip.Strip.{Strip}
use Rattle.rd_start.proofs.Rows.{rows_around}
use Rattle.rd_start.proofs.Spans.{spans, spans-strip_rows}

abbrev anchor_of : StripRow → Anchor
anchor_of l = record { pos = l.start; row = l.number }

anchor-same : (point : ℕ) (o : Option EntryMeaning) (strip_row : StripRow) → option_map (strip_row_of point) o ≡ Some strip_row → anchor_of strip_row ≡ anchor_from o
anchor-same point None strip_row e = absurd cc
anchor-same point (Some x) strip_row e = let same : strip_row_of point x ≡ strip_row = cc in ap anchor_of (sym same)

pub anchor-strip_row : (m : SourceValues) (s : Strip) (place : ℕ) (strip_row : StripRow) → IsStrip m s → place < length s.strip_rows.items → slice_get s.strip_rows.items place ≡ Some strip_row
    → anchor_of strip_row ≡ anchor_at (all_rows (rows_in m s.sweep) m.blocks) (first_row m s + place)
anchor-strip_row m s place strip_row h inside at =
    let z = rows_around m s.sweep s.blocks.items s.strip_rows.items s.home h in
    let from = z.from in
    let count = z.count in
    let first : first_row m s + place ≡ length z.front + place = omega arith in
    let low : place < length z.own = omega arith in
    let here = ap (λ (ys : List EntryMeaning). slice_get ys (first_row m s + place)) z.whole
    ∙ (get-second z.front (z.own ++ z.back) (first_row m s + place) place first ∙ get-first z.own z.back place low) in
    let mapped = sym (slice_get-map (strip_row_of s.sweep.point) z.own place) ∙ (ap (λ (ys : List StripRow). slice_get ys place) (sym z.strip_rows) ∙ at) in
    anchor-same s.sweep.point (slice_get z.own place) strip_row mapped ∙ ap anchor_from (sym here)

-- the rows of a strip from one place up to another, among all rows
pub rows-between : (m : SourceValues) (s : Strip) (from to : ℕ) → IsStrip m s → from ≤ to → to ≤ length s.strip_rows.items
    → drop from (take to (all_rows (rows_in m s.sweep) s.blocks.items)) ≡ take (to - from) (drop (first_row m s + from) (all_rows (rows_in m s.sweep) m.blocks))
rows-between m s from to h low high =
    let z = rows_around m s.sweep s.blocks.items s.strip_rows.items s.home h in
    let home = z.from in
    let count = z.count in
    let first : first_row m s + from ≡ length z.front + from = omega arith in
    let apart : from + (to - from) ≡ to = omega arith in
    let left = length-drop from z.own in
    ap (λ n. drop from (take n z.own)) (sym apart)
    ∙ (drop-take from (to - from) z.own
    ∙ sym (ap₂ (λ (n : ℕ) (ys : List EntryMeaning). take (to - from) (drop n ys)) first z.whole
    ∙ (ap (take (to - from)) (drop-append-add z.front (z.own ++ z.back) from ∙ drop-append-le from z.own z.back (omega arith))
    ∙ take-append-le (to - from) (drop from z.own) z.back (omega arith))))

pub span-strip_rows : (m : SourceValues) (s : Strip) (from to place : ℕ) (span : Option Span) → to ≤ length s.strip_rows.items → place ≡ to → span ≡ spans None (drop from (take place s.strip_rows.items)) → IsStrip m s → from ≤ to
    → span ≡ span_of (first_positions (take (to - from) (drop (first_row m s + from) (all_rows (rows_in m s.sweep) m.blocks))))
span-strip_rows m s from to place span inside end e h low =
    let f = strip_row_of s.sweep.point in
    let rows = all_rows (rows_in m s.sweep) s.blocks.items in
    e ∙ (ap (λ n. spans None (drop from (take n s.strip_rows.items))) end
    ∙ (ap (λ (ys : List StripRow). spans None (drop from (take to ys))) h.strip_rows
    ∙ (ap (λ (ys : List StripRow). spans None (drop from ys)) (take-map f to rows)
    ∙ (ap (spans None) (drop-map f from (take to rows))
    ∙ (spans-strip_rows s.sweep.point None (drop from (take to rows))
    ∙ ap (λ (ys : List EntryMeaning). span_of (first_positions ys)) (rows-between m s from to h low inside))))))

whole-height : (start height count end : ℕ) → end ≡ min (start + height) count → start + height ≤ count → end - start ≡ height
whole-height start height count end is within = omega arith

-- the view from a row of a strip that reaches the view's end
pub view-same : (m : SourceValues) (s : Strip) (start height end : ℕ) → IsStrip m s → Reaches m s (start + height) → start < length s.strip_rows.items → end ≡ min (start + height) (length s.strip_rows.items)
    → take (end - start) (drop (first_row m s + start) (all_rows (rows_in m s.sweep) m.blocks)) ≡ take height (drop (first_row m s + start) (all_rows (rows_in m s.sweep) m.blocks))
view-same m s start height end h reached inside is =
    let rows = drop (first_row m s + start) (all_rows (rows_in m s.sweep) m.blocks) in
    elim (cases_lt (length s.strip_rows.items) (start + height)) [
      | inl past ↦
          let left = length-drop (first_row m s + start) (all_rows (rows_in m s.sweep) m.blocks) in
          let all : length rows ≤ length s.strip_rows.items - start = elim reached [ inl far ↦ absurd (omega arith) | inr text ↦ omega arith ] in
          take_all (end - start) rows (omega (arith, all, is, past)) ∙ sym (take_all height rows (omega (arith, all, past)))
      | inr within ↦ ap (λ n. take n rows) (whole-height start height (length s.strip_rows.items) end is within)
    ]

-- the rows of a view, and the span of their positions
abbrev pub view_of : SourceValues → Strip → ℕ → ℕ → List EntryMeaning
view_of m s start height = take height (drop (first_row m s + start) (all_rows (rows_in m s.sweep) m.blocks))

abbrev pub Spans : Strip → ℕ → ℕ → Option Span → Type 0
Spans s from to span = (m : SourceValues) → IsStrip m s → from ≤ to → span ≡ span_of (first_positions (view_of m s from (to - from)))

pub view-spans : (m : SourceValues) (s : Strip) (start height end : ℕ) (span : Option Span) → IsStrip m s → Reaches m s (start + height) → start < length s.strip_rows.items
    → end ≡ min (start + height) (length s.strip_rows.items) → Spans s start end span → span ≡ span_of (first_positions (view_of m s start height))
view-spans m s start height end span h reached inside is spans =
    spans m h (omega arith) ∙ ap (λ (ys : List EntryMeaning). span_of (first_positions ys)) (view-same m s start height end h reached inside is)

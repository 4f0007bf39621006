-- Positions that items of a strip cover are positions of its blocks.
use Rattle.std.proofs.Common.{◌≡◌, ℕ, ◌+◌, ◌-◌, ◌^◌, ◌<◌, ◌≤◌, min, max, List, [], ◌∷◌, length, take, drop, Some, sym, ap, ◌∙◌, arith}
use Rattle.std.proofs.lemmas.List.Elements.{All-drop, All-from_recursion, All-take}
use Rattle.std.specs.List.{AllByRecursion, fold}
use Rattle.rd_base.proofs.Lists.{all-at}
use Rattle.rd_matrix.specs.Entries.{EntryMeaning, all_rows}
use Rattle.rd_matrix.specs.Sources.{SourceValues}
use Rattle.rd_matrix.specs.declared.block.Block.{Block}
use Rattle.rd_start.specs.Chosen.{first_positions}
use Rattle.rd_start.specs.Strips.{IsStrip, first_row, rows_in, span_of}
use Rattle.rd_start.specs.declared.span.Span.{Span}
use Rattle.rd_start.specs.declared.strip.Strip.{Strip}
use Rattle.rd_start.proofs.Lists.{fold-keeps}
use Rattle.rd_start.proofs.Places.{Spans, rows-between}
use Rattle.rd_start.proofs.Positions.{OfRow, positions-each, rows-cover}
use Rattle.rd_start.proofs.Rows.{strip-among}

abbrev Below : ℕ → ℕ → Type 0
Below n p = p < n

span-below : (n : ℕ) (ps : List ℕ) (span : Span) → AllByRecursion (Below n) ps → Some span ≡ span_of ps → (span.first < n) × (span.last < n)
span-below n [] span all e = absurd cc
span-below n (p ∷ ps) span all e =
    let least = fold-keeps (Below n) min (λ a b low high. omega (arith, low)) p ps all.0 all.1 in
    let greatest = fold-keeps (Below n) max (λ a b low high. omega (arith, low, high)) p ps all.0 all.1 in
    let first : span.first ≡ fold min p ps = cc in
    let last : span.last ≡ fold max p ps = cc in
    (omega (arith, first, least), omega (arith, last, greatest))

pub span-small : (m : SourceValues) (s : Strip) (from to : ℕ) (span : Span) → IsStrip m s → from ≤ to → to ≤ length s.strip_rows.items
    → Some span ≡ span_of (first_positions (take (to - from) (drop (first_row m s + from) (all_rows (rows_in m s.sweep) m.blocks)))) → (span.first < 2 ^ 32) × (span.last < 2 ^ 32)
span-small m s from to span h low high e =
    let rows = λ (b : Block). rows_in m s.sweep b in
    let own = all_rows rows s.blocks.items in
    let ends = All-from_recursion (λ (b : Block). b.end < 2 ^ 32) s.blocks.items h.small in
    let all = rows-cover (Below (2 ^ 32)) rows s.blocks.items
    (λ b among. h.source.rows b s.sweep.shape (strip-among m s.sweep s.blocks.items s.strip_rows.items s.home b h among) h.shape)
    (λ b among p least most. let end = all-at (λ (c : Block). c.end < 2 ^ 32) s.blocks.items among.0 b ends among.1 in omega (arith, most, end)) in
    let part = All-drop (OfRow (Below (2 ^ 32))) from (take to own) (All-take (OfRow (Below (2 ^ 32))) to own all) in
    span-below (2 ^ 32) (first_positions (drop from (take to own))) span (positions-each (Below (2 ^ 32)) (drop from (take to own)) part)
    (e ∙ ap (λ (ys : List EntryMeaning). span_of (first_positions ys)) (sym (rows-between m s from to h low high)))

pub view-small : (m : SourceValues) (s : Strip) (start height end : ℕ) (span : Span) → IsStrip m s → start < length s.strip_rows.items → end ≡ min (start + height) (length s.strip_rows.items) → Spans s start end (Some span)
    → (span.first < 2 ^ 32) × (span.last < 2 ^ 32)
view-small m s start height end span h inside is spans = span-small m s start end span h (omega arith) (omega arith) (spans m h (omega arith))

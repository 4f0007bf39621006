-- A block of a buffer stands in the list of its blocks, and those behind and before it are found by where they start and end.
use Rattle.std.proofs.Common.{◌≡◌, ℕ, suc, ◌+◌, ◌-◌, ◌^◌, ◌<◌, ◌≤◌, true, List, inl, inr, None, Some, refl, ap, sym, subst, ◌∙◌, arith}
use Rattle.std.specs.Prelude.{slice_get}
use Rattle.std.specs.Option.{option_map}
use Rattle.std.proofs.lemmas.Bool.{cases_lt}
use Rattle.std.proofs.lemmas.Option.{slice_get-map}
use Rattle.rd_base.proofs.Lists.{get-map}
use Rattle.rd_text.specs.Texts.{IsAccessible, IsText}
use Rattle.rd_ucd.specs.declared.spans.Span.{Span}
use Rattle.rd_props.specs.Buffers.{BufferValue}
use Rattle.rd_items.specs.Blocks.{blocks_of, AreListed, StartsBlock, IsBlock, IsBlockAt, is_shown_newline}
use Rattle.rd_matrix.proofs.HeldLemmas.{first-place, none-behind, place-behind}
use Rattle.rd_matrix.specs.Blocks.{IsAmong, IsWithin, HoldsPosition, StandFrom, block_before, end_from, first_start}
use Rattle.rd_matrix.specs.declared.block.Block.{Block}
use Rattle.rd_blocks.specs.Bases.{block_base, block_in, blocks_in}
use Rattle.rd_blocks.proofs.Sources.{end-is, first-is, stand-map}

-- where a block ends before the end of the text, another starts
pub starts-behind : (s : BufferValue) (from to : ℕ) → IsBlock s from to → to ≤ s.text.end → IsAccessible s.text to × StartsBlock s to
starts-behind s from to block within =
    let first = block.first in
    let some = block.some in (
      (omega (arith, first, some), within),
      (elim block.ends as (λ _. StartsBlock s to) [
        | inl end ↦ absurd (omega (arith, end, within))
        | inr newline ↦ inr newline
      ]),
    )

-- a position behind the beginning of the text, before which a newline is shown
abbrev pub IsBehindNewline : BufferValue → ℕ → Type 0
IsBehindNewline s pos = (s.text.begin < pos) × (pos ≤ s.text.end) × (is_shown_newline s (pos - 1) ≡ true)

-- where a block starts behind the beginning of the text, a newline is shown before it
pub newline-before : (s : BufferValue) (from to : ℕ) → IsBlock s from to → (from ≡ s.text.begin → ⊥) → IsBehindNewline s from
newline-before s from to block later =
    let first = block.first in
    let some = block.some in
    let last = block.last in
    let less : s.text.begin < from = elim (cases_lt s.text.begin from) as (λ _. s.text.begin < from) [
      | inl less ↦ less
      | inr none ↦ absurd (later (omega (arith, none, first)))
    ] in (
      less,
      omega (arith, some, last),
      (elim block.begins as (λ _. is_shown_newline s (from - 1) ≡ true) [
        | inl begin ↦ absurd (later begin)
        | inr newline ↦ newline
      ]),
    )

module _ (classes : List Span) (s : BufferValue) where
  pub among-base : (b : Block) → IsAmong (blocks_in classes s) b → b.base ≡ block_base classes s b.start
  among-base b among =
      let found = get-map (block_in classes s) (blocks_of s) among.0 b among.1 in
      subst (λ (x : Block). x.base ≡ block_base classes s x.start) found.2 refl

module _ (classes : List Span) (s : BufferValue) (are : AreListed s) where
  -- the blocks start and end where the accessible text does, whose end counts as a position
  stand : StandFrom s.text.begin (blocks_in classes s)
  stand = stand-map classes s s.text.begin (s.text.end + 1) (blocks_of s) are.adjoin

  pub ends-of : s.text.begin ≤ s.text.end
      → (first_start (blocks_in classes s) ≡ s.text.begin) × (end_from 0 (blocks_in classes s) ≡ s.text.end + 1)
  ends-of order =
      let less : s.text.begin < s.text.end + 1 = omega (arith, order) in (
        first-is classes s s.text.begin (s.text.end + 1) (blocks_of s) are.adjoin less,
        end-is classes s s.text.begin (s.text.end + 1) 0 (blocks_of s) are.adjoin less,
      )

  -- the positions of the list's blocks are exactly the accessible ones
  pub within-accessible : s.text.begin ≤ s.text.end → (pos : ℕ) → IsWithin pos (blocks_in classes s) → IsAccessible s.text pos
  within-accessible order pos within = let is = ends-of order in (omega (arith, is.0, within.0), omega (arith, is.1, within.1))

  pub accessible-within : (pos : ℕ) → IsAccessible s.text pos → IsWithin pos (blocks_in classes s)
  accessible-within pos at = let is = ends-of (omega (arith, at.0, at.1)) in (omega (arith, is.0, at.0), omega (arith, is.1, at.1))

  -- each of the list is a block of the buffer
  pub among-block : (b : Block) → IsAmong (blocks_in classes s) b → IsBlock s b.start b.end
  among-block b among =
      let found = get-map (block_in classes s) (blocks_of s) among.0 b among.1 in
      subst (λ (x : Block). IsBlock s x.start x.end) found.2 (are.blocks among.0 found.0 found.1)

  -- no block of the list reaches 2^32
  pub among-small : IsText s.text → (b : Block) → IsAmong (blocks_in classes s) b → b.end < 2 ^ 32
  among-small text b among =
      let last = (among-block b among).last in
      let within = text.last in
      let short = text.short in
      omega arith

  -- each block of the buffer is in the list
  block-among : (b : Block) → IsBlock s b.start b.end → b.base ≡ block_base classes s b.start → IsAmong (blocks_in classes s) b
  block-among b block level =
      let found = are.every b.start b.end block in
      let based : Some (block_in classes s (b.start, b.end)) ≡ Some b =
      ap (λ (n : ℕ). let c : Block = record { start = b.start; end = b.end; base = n } in Some c) (sym level) in
      (found.0, slice_get-map (block_in classes s) (blocks_of s) found.0 ∙ ap (option_map (block_in classes s)) found.1 ∙ based)

  -- the block at a position is the one of the list that holds it
  pub holds-position : (pos : ℕ) (b : Block) → IsBlockAt s pos b.start b.end → b.base ≡ block_base classes s b.start
      → HoldsPosition pos (blocks_in classes s) b
  holds-position pos b at level = record { among = block-among b at.block level; from = at.before; below = at.behind }

  -- the block behind one
  pub next-block : (a b : Block) → a.end ≡ b.start → IsBlock s b.start b.end → b.base ≡ block_base classes s b.start
      → (k : ℕ) → slice_get (blocks_in classes s) k ≡ Some a → Some b ≡ slice_get (blocks_in classes s) (k + 1)
  next-block a b meets block level k at =
      let there = block-among b block level in
      let behind = place-behind s.text.begin k there.0 (blocks_in classes s) a b stand at there.1 meets in
      let next : there.0 ≡ k + 1 = omega (arith, behind) in
      sym there.1 ∙ ap (slice_get (blocks_in classes s)) next

  pub next-none : (b : Block) → s.text.end < b.end
      → (k : ℕ) → slice_get (blocks_in classes s) k ≡ Some b → None ≡ slice_get (blocks_in classes s) (k + 1)
  next-none b past k at =
      let block = among-block b (k, at) in
      let end = (ends-of (omega (arith, block.first, block.some, block.last))).1 in
      let next : suc k ≡ k + 1 = omega arith in
      sym (none-behind s.text.begin 0 k (blocks_in classes s) b stand at (omega (arith, end, past)))
      ∙ ap (slice_get (blocks_in classes s)) next

  -- the block before one
  pub prev-block : (a b : Block) → a.end ≡ b.start → IsBlock s a.start a.end → a.base ≡ block_base classes s a.start
      → (k : ℕ) → slice_get (blocks_in classes s) k ≡ Some b → Some a ≡ block_before (blocks_in classes s) k
  prev-block a b meets block level k at =
      let there = block-among a block level in
      sym there.1
      ∙ ap (block_before (blocks_in classes s)) (sym (place-behind s.text.begin there.0 k (blocks_in classes s) a b stand there.1 at meets))

  pub prev-none : (b : Block) → b.start ≡ s.text.begin
      → (k : ℕ) → slice_get (blocks_in classes s) k ≡ Some b → None ≡ block_before (blocks_in classes s) k
  prev-none b begins k at = ap (block_before (blocks_in classes s)) (sym (first-place s.text.begin k (blocks_in classes s) b stand at begins))

-- Each position is covered by one item.
use Rattle.std.proofs.Common.{◌≡◌, ℕ, suc, ◌+◌, ◌^◌, ◌<◌, ◌≤◌, Bool, true, cond, List, [], ◌∷◌, ◌++◌, length, map, All, inr, Some, refl, sym, ap, subst, ◌∙◌, arith}
use Rattle.std.specs.Prelude.{count_by, slice_get}
use Rattle.std.specs.List.{flat_map}
use Rattle.std.proofs.lemmas.Bool.Decides.{nat_tests}
use Rattle.rd_base.specs.Lists.{Follow}
use Rattle.rd_base.proofs.Choices.{one-at-most}
use Rattle.rd_base.proofs.Lists.{count-append, count-cons, each-append, follow-once}
use Rattle.rd_ucd.specs.Data.{Data}
use Rattle.rd_objects.specs.Things.{ObjectLists}
use Rattle.rd_text.specs.Texts.{IsText, IsAccessible}
use Rattle.rd_props.specs.Buffers.{BufferValue}
use Rattle.rd_items.specs.Blocks.{Adjoin, AreBlocksOf, blocks_of}
use Rattle.rd_items.specs.Items.{items_of}
use Rattle.rd_items.specs.Pieces.{scene_in}
use Rattle.rd_items.specs.Readings.{reading}
use Rattle.rd_items.specs.declared.item.Item.{Item}
use Rattle.rd_levels.specs.declared.turn.Turn.{Turn}
use Rattle.rd_matrix.specs.Blocks.{IsAmong}
use Rattle.rd_matrix.specs.declared.block.Block.{Block}
use Rattle.rd_stack.specs.Lines.{item_turns}
use Rattle.rd_blocks.proofs.Listed.{among-block}
use Rattle.rd_blocks.proofs.Within.{items-within}
use Rattle.rd_blocks.specs.Bases.{block_in, blocks_in}
use Rattle.rd_visual.specs.Motion.{all_ranges, block_ranges, holds, range_by, ranges_in_turn}
use Rattle.rd_visual.specs.Order.{StandBetween, block_items, ordered_ranges}
use Rattle.rd_visual.specs.Tiles.{AreTiled, IsTiled}
use Rattle.rd_visual.specs.declared.range.Range.{Range}
use Rattle.rd_visual.proofs.Neighbours.{AreSome}
use Rattle.rd_visual.proofs.Reordered.{order-stands, range-has, turns-permute}

-- each range of an item has a position

some-append : (xs ys : List Range) → AreSome xs → AreSome ys → AreSome (xs ++ ys)
some-append xs ys some more = each-append (λ (r : Range). r.from < r.to) xs ys some more

turns-some : (start : ℕ) (items : List Item) (ts : List Turn) → AreSome (ranges_in_turn start items ts)
turns-some start items [] = tt
turns-some start items (t ∷ ts) =
    some-append (range_by start (slice_get items t.index)) (ranges_in_turn start items ts)
    (range-has (λ (r : Range). r.from < r.to) start (slice_get items t.index) (λ x at less. omega (arith, less))) (turns-some start items ts)

block-some : (s : BufferValue) (objects : ObjectLists) (files : Data) (b : Block) → AreSome (block_ranges s objects files b)
block-some s objects files b =
    let scene = scene_in s.settings objects files in
    let items = items_of scene (reading s objects b.start) in
    turns-some b.start items (item_turns scene b.base items)

blocks-some : (s : BufferValue) (objects : ObjectLists) (files : Data) (bs : List Block) → AreSome (flat_map (block_ranges s objects files) bs)
blocks-some s objects files [] = tt
blocks-some s objects files (b ∷ bs) = some-append (block_ranges s objects files b) (flat_map (block_ranges s objects files) bs) (block-some s objects files b) (blocks-some s objects files bs)

pub all-some : (s : BufferValue) (objects : ObjectLists) (files : Data) → AreSome (all_ranges s objects files)
all-some s objects files = blocks-some s objects files (blocks_in files.classes s)

-- ranges that stand one behind the other hold each position between their ends once, and no other

stand-follow : (from to : ℕ) (rs : List Range) → StandBetween from to rs → Follow (λ (r : Range). r.from) (λ (r : Range). r.to) from to rs
stand-follow from to [] stand = stand
stand-follow from to (r ∷ rs) stand = let at = stand.0 in let some = stand.1 in inr (at, omega (arith, at, some), stand-follow r.to to rs stand.2)

stand-count : (pos from to : ℕ) (rs : List Range) → StandBetween from to rs → count_by (holds pos) rs ≡ cond (holds pos (record { from = from; to = to })) 1 0
stand-count pos from to rs stand = (follow-once (λ (r : Range). r.from) (λ (r : Range). r.to) pos from to rs (stand-follow from to rs stand)).1

-- the ranges of a block that its items tile
module _ (s : BufferValue) (objects : ObjectLists) (files : Data) (b : Block) (tiles : IsTiled s objects files b) where
  pub ranges-stand : StandBetween b.start b.end (ordered_ranges s objects files b)
  ranges-stand =
      let start : b.start + 0 ≡ b.start = omega arith in
      subst (λ (n : ℕ). StandBetween n b.end (ordered_ranges s objects files b)) start
      (subst (λ (n : ℕ). StandBetween (b.start + 0) n (ordered_ranges s objects files b)) tiles.size
      (order-stands b.start 0 (length (reading s objects b.start)) (block_items s objects files b) tiles.items.tile))

  block-count : (pos : ℕ) → count_by (holds pos) (block_ranges s objects files b) ≡ cond (holds pos (record { from = b.start; to = b.end })) 1 0
  block-count pos =
      turns-permute (holds pos) (scene_in s.settings objects files) b.start b.base (reading s objects b.start)
      ∙ stand-count pos b.start b.end (ordered_ranges s objects files b) ranges-stand

-- the blocks of a text
module _ (s : BufferValue) (objects : ObjectLists) (files : Data) (are : AreTiled s) where
  -- the ranges of blocks
  abbrev pub covered : List (ℕ × ℕ) → List Range
  covered bs = map (λ (b : ℕ × ℕ). record { from = b.0; to = b.1 }) bs

  abbrev pub ranges-in : List (ℕ × ℕ) → List Range
  ranges-in bs = flat_map (block_ranges s objects files) (map (block_in files.classes s) bs)

  blocks-count : (pos : ℕ) (bs : List (ℕ × ℕ)) → AreBlocksOf s bs → count_by (holds pos) (ranges-in bs) ≡ count_by (holds pos) (covered bs)
  blocks-count pos [] blocks = refl
  blocks-count pos (b ∷ bs) blocks =
      let at = block_in files.classes s b in
      count-append (holds pos) (block_ranges s objects files at) (ranges-in bs)
      ∙ ap (λ n. n + count_by (holds pos) (ranges-in bs)) (block-count s objects files at (are.tiled objects files at (blocks 0 b refl)) pos)
      ∙ ap (λ n. cond (holds pos (record { from = b.0; to = b.1 })) 1 0 + n) (blocks-count pos bs (λ k c there. blocks (suc k) c there))
      ∙ sym (count-cons (holds pos) (record { from = b.0; to = b.1 }) (covered bs))

  covered-stand : (from to : ℕ) (bs : List (ℕ × ℕ)) → Adjoin from to bs → StandBetween from to (covered bs)
  covered-stand from to [] adjoin = adjoin
  covered-stand from to (b ∷ bs) adjoin = (adjoin.0, adjoin.1, covered-stand b.1 to bs adjoin.2)

  all-count : (pos : ℕ) → count_by (holds pos) (all_ranges s objects files) ≡ cond (holds pos (record { from = s.text.begin; to = s.text.end + 1 })) 1 0
  all-count pos = blocks-count pos (blocks_of s) are.listed.blocks ∙ stand-count pos s.text.begin (s.text.end + 1) (covered (blocks_of s)) (covered-stand s.text.begin (s.text.end + 1) (blocks_of s) are.listed.adjoin)

  pub every : (pos : ℕ) → IsAccessible s.text pos → count_by (holds pos) (all_ranges s objects files) ≡ 1
  every pos place =
      let low = place.0 in
      let high = place.1 in
      let r : Range = record { from = s.text.begin; to = s.text.end + 1 } in
      let here : holds pos r ≡ true = grind (arith, nat_tests) in
      all-count pos ∙ ap (λ (t : Bool). cond t 1 0) here

  pub at-most : (pos : ℕ) → count_by (holds pos) (all_ranges s objects files) ≤ 1
  at-most pos = omega (arith, all-count pos, one-at-most (holds pos (record { from = s.text.begin; to = s.text.end + 1 })))

  pub tiled-block : (b : Block) → IsAmong (blocks_in files.classes s) b → IsTiled s objects files b
  tiled-block b among = are.tiled objects files b (among-block files.classes s are.listed b among)

  pub block : (b : Block) (pos : ℕ) → IsAmong (blocks_in files.classes s) b → b.start ≤ pos → pos < b.end → count_by (holds pos) (block_ranges s objects files b) ≡ 1
  block b pos among low high =
      let r : Range = record { from = b.start; to = b.end } in
      let here : holds pos r ≡ true = grind (arith, nat_tests) in
      block-count s objects files b (tiled-block b among) pos ∙ ap (λ (t : Bool). cond t 1 0) here

  pub start-in : (b : Block) → IsAmong (blocks_in files.classes s) b → IsAccessible s.text b.start
  start-in b among =
      let is = among-block files.classes s are.listed b among in
      let some = is.some in
      let last = is.last in
      (is.first, omega (arith, some, last))

  pub items-fit : IsText s.text → (b : Block) → IsAmong (blocks_in files.classes s) b → All (λ (x : Item). x.from < x.to → b.start + x.to < 2 ^ 32) (block_items s objects files b)
  items-fit text b among =
      let is = among-block files.classes s are.listed b among in
      let es = reading s objects b.start in
      let size = (are.tiled objects files b is).size in
      let last = is.last in
      let more = text.last in
      let short = text.short in
      λ k x at some.
      let within = items-within (length es) (scene_in s.settings objects files) es (omega arith) k x at in
      omega (arith, within, size, last, more, short)

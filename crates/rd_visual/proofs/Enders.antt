-- The ender of a block has the last range, in visual order and in order of position.
use Rattle.std.proofs.Common.{◌≡◌, inl, inr, ℕ, ◌+◌, ◌<◌, ◌≤◌, nat_lt, true, if◌then◌else◌, List, [], ◌∷◌, ◌++◌, length, All, Some, ap, subst, ◌∙◌, arith, append-nil}
use Rattle.std.specs.Prelude.{slice_get}
use Rattle.std.specs.List.{flat_map}
use Rattle.std.proofs.lemmas.Bool.Decides.{nat_tests}
use Rattle.std.proofs.lemmas.Grind.{flat_map-append}
use Rattle.std.proofs.lemmas.List.Elements.{All-nil, All-cons, All-append, All-from_recursion, All-head, All-tail}
use Rattle.rd_base.proofs.Lists.{all-at, at-seam, get-first}
use Rattle.rd_objects.specs.Things.{ObjectLists}
use Rattle.rd_ucd.specs.Data.{Data}
use Rattle.rd_props.specs.Buffers.{BufferValue}
use Rattle.rd_items.specs.Covers.{Tile}
use Rattle.rd_items.specs.Pieces.{Scene, scene_in}
use Rattle.rd_items.specs.Readings.{reading}
use Rattle.rd_items.proofs.Ended.{Ended, ended}
use Rattle.rd_items.specs.declared.item.Item.{Item}
use Rattle.rd_levels.specs.declared.turn.Turn.{Turn}
use Rattle.rd_matrix.specs.declared.block.Block.{Block}
use Rattle.rd_stack.specs.Lines.{item_turns}
use Rattle.rd_stack.proofs.LineEnds.{LastLaw, ender-last}
use Rattle.rd_visual.specs.Motion.{range_by, ranges_in_turn}
use Rattle.rd_visual.specs.Order.{EndsWithEnder, block_items, ordered_ranges, range_of, ranges_in_order}
use Rattle.rd_visual.specs.Tiles.{IsTiled}
use Rattle.rd_visual.specs.declared.range.Range.{Range}
use Rattle.rd_visual.proofs.Reordered.{range-has}

-- ---- what the others cover lies before it

abbrev LiesBefore : ℕ → Item → Type 0
LiesBefore place x = x.from < x.to → x.to ≤ place

tiled : (since to : ℕ) (others : List Item) (ender : Item) → Tile since to (others ++ ender ∷ []) → ender.from < ender.to
    → (ender.to ≡ to) × (since ≤ ender.from) × All (LiesBefore ender.from) others
tiled since to [] ender (inl empty) some = absurd (omega (arith, empty.0, some))
tiled since to [] ender (inr next) some = (next.2, omega (arith, next.0), All-nil (LiesBefore ender.from))
tiled since to (x ∷ xs) ender (inl empty) some =
    let rest = tiled since to xs ender empty.1 some in
    (rest.0, rest.1, All-cons (LiesBefore ender.from) x xs (λ less. absurd (omega (arith, empty.0, less))) rest.2)
tiled since to (x ∷ xs) ender (inr next) some =
    let rest = tiled x.to to xs ender next.2 some in
    let low : since ≤ ender.from = omega (arith, next.1, rest.1) in
    (rest.0, low, All-cons (LiesBefore ender.from) x xs (λ less. rest.1) rest.2)

abbrev EndsBy : ℕ → Range → Type 0
EndsBy place r = r.to ≤ place

range-before : (start place : ℕ) (others : List Item) (k : ℕ) → All (LiesBefore place) others → All (EndsBy (start + place)) (range_by start (slice_get others k))
range-before start place others k lie =
    All-from_recursion (EndsBy (start + place)) (range_by start (slice_get others k))
    (range-has (EndsBy (start + place)) start (slice_get others k) (λ x there less. omega (arith, all-at (LiesBefore place) others k x lie there less)))

order-before : (start place : ℕ) (others : List Item) → All (LiesBefore place) others → All (EndsBy (start + place)) (ranges_in_order start others)
order-before start place [] lie = All-nil (EndsBy (start + place))
order-before start place (x ∷ xs) lie =
    All-append (EndsBy (start + place)) (range_by start (Some x)) (ranges_in_order start xs)
    (range-before start place (x ∷ xs) 0 lie) (order-before start place xs (All-tail (LiesBefore place) x xs lie))

turns-before : (start place : ℕ) (others : List Item) (ender : Item) (ts : List Turn) → All (LiesBefore place) others → All (λ t. t.index < length others) ts
    → All (EndsBy (start + place)) (ranges_in_turn start (others ++ ender ∷ []) ts)
turns-before start place others ender [] lie low = All-nil (EndsBy (start + place))
turns-before start place others ender (t ∷ ts) lie low =
    All-append (EndsBy (start + place)) (range_by start (slice_get (others ++ ender ∷ []) t.index)) (ranges_in_turn start (others ++ ender ∷ []) ts)
    (rw (get-first others (ender ∷ []) t.index (All-head (λ u. u.index < length others) t ts low)) (range-before start place others t.index lie))
    (turns-before start place others ender ts lie (All-tail (λ u. u.index < length others) t ts low))

-- ---- the ender's range comes last

ender-range : (start : ℕ) (x : Item) → x.from < x.to → range_by start (Some x) ≡ range_of start x ∷ []
ender-range start x less =
    let covers : nat_lt x.from x.to ≡ true = grind (arith, nat_tests) in
    ap (λ t. if t then range_of start x ∷ [] else []) covers

-- a block that its items tile
module _ (s : BufferValue) (objects : ObjectLists) (files : Data) (b : Block) (tiles : IsTiled s objects files b) where
  abbrev pub scene : Scene
  scene = scene_in s.settings objects files

  abbrev pub items : List Item
  items = block_items s objects files b

  e : Ended items
  e = ended items tiles.items.end

  cut : (e.ender.to ≡ length (reading s objects b.start)) × (0 ≤ e.ender.from) × All (LiesBefore e.ender.from) e.others
  cut =
      let size = length (reading s objects b.start) in
      tiled 0 size e.others e.ender (subst (Tile 0 size) e.whole tiles.items.tile) e.is.some

  ends-by : (front ranges : List Range) → ranges ≡ front ++ range_of b.start e.ender ∷ [] → All (EndsBy (b.start + e.ender.from)) front → EndsWithEnder b.start b.end items ranges
  ends-by front ranges whole before = record {
    others = e.others;
    ender = e.ender;
    listed = e.whole;
    is = e.is.kind;
    front = front;
    whole = whole;
    last = ap (λ n. b.start + n) cut.0 ∙ tiles.size;
    before = before;
  }

  pub order-ends : EndsWithEnder b.start b.end items (ordered_ranges s objects files b)
  order-ends =
      ends-by (ranges_in_order b.start e.others) (ranges_in_order b.start items)
      (ap (ranges_in_order b.start) e.whole ∙ flat_map-append (λ x. range_by b.start (Some x)) e.others (e.ender ∷ [])
      ∙ ap (λ l. ranges_in_order b.start e.others ++ l) (append-nil (range_by b.start (Some e.ender)) ∙ ender-range b.start e.ender e.is.some))
      (order-before b.start e.ender.from e.others cut.2)

  pub turns-end : LastLaw → (base : ℕ) → EndsWithEnder b.start b.end items (ranges_in_turn b.start items (item_turns scene base items))
  turns-end law base =
      let comes = ender-last law scene base items e in
      let f : Turn → List Range = λ t. range_by b.start (slice_get (e.others ++ e.ender ∷ []) t.index) in
      ends-by (ranges_in_turn b.start (e.others ++ e.ender ∷ []) comes.front) (ranges_in_turn b.start items (item_turns scene base items))
      (ap (λ l. ranges_in_turn b.start l (item_turns scene base items)) e.whole ∙ ap (flat_map f) comes.whole ∙ flat_map-append f comes.front (comes.last ∷ [])
      ∙ ap (λ l. flat_map f comes.front ++ l)
      (append-nil (f comes.last) ∙ ap (λ k. range_by b.start (slice_get (e.others ++ e.ender ∷ []) k)) comes.index ∙ ap (range_by b.start) (at-seam e.others e.ender []) ∙ ender-range b.start e.ender e.is.some))
      (turns-before b.start e.ender.from e.others e.ender comes.front cut.2 comes.others)

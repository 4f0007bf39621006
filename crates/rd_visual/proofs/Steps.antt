-- Steps from block to block.
use Rattle.std.proofs.Common.{◌≡◌, ℕ, zero, suc, ◌+◌, ◌<◌, ◌≤◌, nat_lt, Bool, true, false, ◌==◌, if◌then◌else◌, List, [], ◌∷◌, ◌++◌, length, take, drop, Option, None, Some, refl, sym, ap, subst, ◌∙◌, arith}
use Rattle.std.specs.Prelude.{count_by, reverse, slice_get}
use Rattle.std.specs.List.{flat_map}
use Rattle.std.proofs.lemmas.Bool.Decides.{nat_tests}
use Rattle.std.proofs.lemmas.Grind.{flat_map-append}
use Rattle.std.proofs.lemmas.List.{append-nil, append_assoc, reverse-append, take-append-drop}
use Rattle.std.proofs.lemmas.Option.{slice_get_within}
use Rattle.rd_ucd.specs.Data.{Data}
use Rattle.rd_objects.specs.Things.{ObjectLists}
use Rattle.rd_text.specs.Texts.{IsAccessible}
use Rattle.rd_props.specs.Buffers.{BufferValue, files_of, meaning}
use Rattle.rd_props.specs.declared.state.View.{View}
use Rattle.rd_matrix.proofs.HeldLemmas.{later-start}
use Rattle.rd_matrix.specs.Blocks.{HoldsPosition, IsAmong, StandFrom, block_before, first_start}
use Rattle.rd_matrix.specs.declared.block.Block.{Block}
use Rattle.rd_visual.specs.Motion.{base_in, base_of, behind, first, holds, view_blocks, view_ranges}
use Rattle.rd_visual.specs.Tiles.{CoverOnce}
use Rattle.rd_visual.specs.Ways.{along, beside, block_beside, entered, opposite, sideways, stepped, way_in}
use Rattle.rd_visual.specs.declared.range.Range.{Range}
use Rattle.rd_visual.specs.declared.way.Way.{Way}
use Rattle.rd_visual.specs.declared.way.Way.TheVariants.{Forward, Backward}
use Rattle.rd_base.proofs.Choices.{of-choice}
use Rattle.rd_base.proofs.Lists.{drop-at, none-left, count-append, element-at, take-at}
use Rattle.rd_visual.proofs.Neighbours.{behind-front, behind-none, behind-some, count-reverse, first-append}

-- blocks that stand one behind the other

pub base-is : (from k pos : ℕ) (bs : List Block) (b : Block) → StandFrom from bs → slice_get bs k ≡ Some b → b.start ≤ pos → pos < b.end → base_of bs pos ≡ b.base
base-is from k pos [] b stand there low high = absurd cc
base-is from zero pos (x ∷ bs) b stand there low high =
    let same : x ≡ b = cc in
    let inside : nat_lt pos b.end ≡ true = grind (arith, nat_tests) in
    let here : nat_lt pos x.end ≡ true = subst (λ (y : Block). nat_lt pos y.end ≡ true) (sym same) inside in
    ap (λ (t : Bool). if t then x.base else base_of bs pos) here ∙ ap (λ (y : Block). y.base) same
base-is from (suc k) pos (x ∷ bs) b stand there low high =
    let later = (later-start x.end k bs b stand.2 there).0 in
    let out : nat_lt pos x.end ≡ false = grind (arith, nat_tests) in
    ap (λ (t : Bool). if t then x.base else base_of bs pos) out ∙ base-is x.end k pos bs b stand.2 there low high

pub base-holds : (bs : List Block) (pos : ℕ) (b : Block) → StandFrom (first_start bs) bs → HoldsPosition pos bs b → base_of bs pos ≡ b.base
base-holds bs pos b stand h = base-is (first_start bs) h.among.0 pos bs b stand h.among.1 h.from h.below

-- a step to a side, by the base of the block that holds a position

pub sideways-is : (way : Way) (s : BufferValue) (objects : ObjectLists) (files : Data) (pos : ℕ) → sideways way s objects files pos ≡ stepped (way_in way (base_in s files pos)) s objects files pos
sideways-is Forward s objects files pos = sym (of-choice (λ (w : Way). stepped w s objects files pos) (base_in s files pos == 0) Forward Backward)
sideways-is Backward s objects files pos = sym (of-choice (λ (w : Way). stepped w s objects files pos) (base_in s files pos == 0) Backward Forward)

pub side-step : (way there : Way) (s : BufferValue) (objects : ObjectLists) (files : Data) (pos base : ℕ) → there ≡ way_in way base → base_in s files pos ≡ base
    → stepped there s objects files pos ≡ sideways way s objects files pos
side-step way there s objects files pos base is at =
    ap (λ (w : Way). stepped w s objects files pos) (is ∙ ap (way_in way) (sym at)) ∙ sym (sideways-is way s objects files pos)

pub opposite-in : (way : Way) (base : ℕ) → opposite (way_in way base) ≡ way_in (opposite way) base
opposite-in way base = of-choice opposite (base == 0) way (opposite way)

among-beside : (way : Way) (k : ℕ) (bs : List Block) (x : Block) → block_beside way bs k ≡ Some x → IsAmong bs x
among-beside Forward k bs x at = (k + 1, at)
among-beside Backward zero bs x at = absurd cc
among-beside Backward (suc k) bs x at = (k, at)

-- the ranges of all blocks, seen from one that holds a position
module _ (f : Block → List Range) (bs : List Block) (pos k : ℕ) (b : Block) (there : slice_get bs k ≡ Some b) (every : count_by (holds pos) (flat_map f bs) ≡ 1) (here : count_by (holds pos) (f b) ≡ 1) where
  abbrev front : List Range
  front = flat_map f (take k bs)

  abbrev back : List Range
  back = flat_map f (drop (k + 1) bs)

  whole : flat_map f bs ≡ front ++ (f b ++ back)
  whole =
      ap (flat_map f) (sym (take-append-drop k bs) ∙ ap (λ xs. take k bs ++ xs) (drop-at bs k b there)) ∙ flat_map-append f (take k bs) (b ∷ drop (k + 1) bs)

  apart : (count_by (holds pos) front ≡ 0) × (count_by (holds pos) back ≡ 0)
  apart =
      let all = ap (count_by (holds pos)) whole in
      let two = count-append (holds pos) front (f b ++ back) in
      let more = count-append (holds pos) (f b) back in
      (omega (arith, every, here, all, two, more), omega (arith, every, here, all, two, more))

  -- what of all ranges comes on the way before those of the block, and what behind them
  abbrev nearer : Way → List Range
  nearer Forward = front
  nearer Backward = reverse back

  abbrev further : Way → List Range
  further Forward = back
  further Backward = reverse front

  along-whole : (way : Way) → along way (flat_map f bs) ≡ nearer way ++ (along way (f b) ++ further way)
  along-whole Forward = whole
  along-whole Backward =
      ap reverse whole ∙ reverse-append front (f b ++ back) ∙ ap (λ (xs : List Range). xs ++ reverse front) (reverse-append (f b) back)
      ∙ append_assoc (reverse back) (reverse (f b)) (reverse front)

  none-nearer : (way : Way) → count_by (holds pos) (nearer way) ≡ 0
  none-nearer Forward = apart.0
  none-nearer Backward = count-reverse pos back ∙ apart.1

  one-along : (way : Way) → count_by (holds pos) (along way (f b)) ≡ 1
  one-along Forward = here
  one-along Backward = count-reverse pos (f b) ∙ here

  from-block : (way : Way) → beside way pos (flat_map f bs) ≡ behind pos (along way (f b) ++ further way)
  from-block way = ap (behind pos) (along-whole way) ∙ behind-front pos (nearer way) (along way (f b) ++ further way) (none-nearer way)

  way-end : (way : Way) → beside way pos (f b) ≡ None → beside way pos (flat_map f bs) ≡ first (further way)
  way-end way none = from-block way ∙ behind-none pos (along way (f b)) (further way) none (omega (arith, one-along way))

  first-by : (j p : ℕ) (prev : Block) → block_before bs j ≡ Some prev → count_by (holds p) (f prev) ≡ 1 → first (reverse (flat_map f (take j bs))) ≡ first (reverse (f prev))
  first-by zero p prev at some = absurd cc
  first-by (suc j) p prev at some =
      let one : suc j ≡ j + 1 = omega arith in
      let rest = flat_map f (take j bs) in
      ap (λ n. first (reverse (flat_map f (take n bs)))) one
      ∙ ap (λ xs. first (reverse (flat_map f xs))) (take-at bs j prev at)
      ∙ ap (λ (xs : List Range). first (reverse xs)) (flat_map-append f (take j bs) (prev ∷ []) ∙ ap (λ (xs : List Range). rest ++ xs) (append-nil (f prev)))
      ∙ ap first (reverse-append rest (f prev))
      ∙ first-append (reverse (f prev)) (reverse rest) p (omega (arith, count-reverse p (f prev), some))

  none-by : (j : ℕ) → j ≤ length bs → block_before bs j ≡ None → first (reverse (flat_map f (take j bs))) ≡ None
  none-by zero low at = refl
  none-by (suc j) low at = absurd (let q = element-at bs j (omega (arith, low)) in let x = q.1 in cc)

  within-block : (way : Way) (q : ℕ) → beside way pos (f b) ≡ Some q → beside way pos (flat_map f bs) ≡ Some q
  within-block way q found = from-block way ∙ behind-some pos q (along way (f b)) (further way) found

  into-block : (way : Way) (p : ℕ) (x : Block) → beside way pos (f b) ≡ None → block_beside way bs k ≡ Some x → count_by (holds p) (f x) ≡ 1 → beside way pos (flat_map f bs) ≡ entered way (f x)
  into-block Forward p x none at some =
      way-end Forward none ∙ ap (λ xs. first (flat_map f xs)) (drop-at bs (k + 1) x at) ∙ first-append (f x) (flat_map f (drop (k + 1 + 1) bs)) p (omega (arith, some))
  into-block Backward p x none at some = way-end Backward none ∙ first-by k p x at some

  out-of-blocks : (way : Way) → beside way pos (f b) ≡ None → block_beside way bs k ≡ None → beside way pos (flat_map f bs) ≡ None
  out-of-blocks Forward none at = way-end Forward none ∙ ap (λ xs. first (flat_map f xs)) (none-left bs (k + 1) at)
  out-of-blocks Backward none at = let inside = slice_get_within bs k b there in way-end Backward none ∙ none-by k (omega (arith, inside)) at

-- a step from a block of a view that holds a position
module _ (v : View) (once : CoverOnce (meaning v.state.now) v.objects.now (files_of v)) (pos : ℕ) (b : Block) (place : IsAccessible (meaning v.state.now).text pos) (held : HoldsPosition pos (view_blocks v) b) (way : Way) (ranges : List Range) (are : ranges ≡ view_ranges v b) where
  abbrev pub landing : Option ℕ
  landing = stepped way (meaning v.state.now) v.objects.now (files_of v) pos

  all : count_by (holds pos) (flat_map (view_ranges v) (view_blocks v)) ≡ 1
  all = once.every pos place

  mine : count_by (holds pos) (view_ranges v b) ≡ 1
  mine = once.block b pos held.among held.from held.below

  beside-is : (o : Option ℕ) → beside way pos ranges ≡ o → beside way pos (view_ranges v b) ≡ o
  beside-is o is = sym (ap (beside way pos) are) ∙ is

  abbrev pub GivesBeside : List Block → Option Block → Type 0
  GivesBeside bs other = (k : ℕ) → slice_get bs k ≡ Some b → other ≡ block_beside way bs k

  block-is : (bs : List Block) (other o : Option Block) → bs ≡ view_blocks v → GivesBeside bs other → other ≡ o → block_beside way (view_blocks v) held.among.0 ≡ o
  block-is bs other o same gives is = sym (subst (λ (xs : List Block). GivesBeside xs other) same gives held.among.0 held.among.1) ∙ is

  pub goes-beside : (q : ℕ) → beside way pos ranges ≡ Some q → Some q ≡ landing
  goes-beside q found =
      sym (within-block (view_ranges v) (view_blocks v) pos held.among.0 b held.among.1 all mine way q (beside-is (Some q) found))

  pub goes-nowhere : (bs : List Block) (other : Option Block) → bs ≡ view_blocks v → GivesBeside bs other → beside way pos ranges ≡ None → other ≡ None → None ≡ landing
  goes-nowhere bs other same gives none is =
      sym (out-of-blocks (view_ranges v) (view_blocks v) pos held.among.0 b held.among.1 all mine way (beside-is None none) (block-is bs other None same gives is))

  pub goes-on : (bs : List Block) (other : Option Block) (x : Block) → bs ≡ view_blocks v → GivesBeside bs other → beside way pos ranges ≡ None → other ≡ Some x → StandFrom (first_start bs) bs
      → entered way (view_ranges v x) ≡ landing
  goes-on bs other x same gives none is stand =
      let at = block-is bs other (Some x) same gives is in
      let among = among-beside way held.among.0 (view_blocks v) x at in
      let low : x.start ≤ x.start = omega arith in
      let some = (later-start (first_start (view_blocks v)) among.0 (view_blocks v) x (subst (λ (xs : List Block). StandFrom (first_start xs) xs) same stand) among.1).1 in
      sym (into-block (view_ranges v) (view_blocks v) pos held.among.0 b held.among.1 all mine way x.start x (beside-is None none) at (once.block x x.start among low some))

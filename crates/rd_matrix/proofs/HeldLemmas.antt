-- Blocks with their lines, as a source; and when rows are those of a block.
use Rattle.std.proofs.Common.{◌≡◌, ℕ, zero, suc, ◌+◌, ◌-◌, ◌<◌, ◌≤◌, ◌&&◌, nat_le, nat_lt, nat_eq, Bool, true, false, IsTrue, List, [], ◌∷◌, ◌++◌, length, take, get_or, map, All, inl, inr, Option, None, Some, refl, ap, sym, ◌∙◌, subst, arith}
use Rattle.std.specs.Prelude.{count_by, slice_get, option_map}
use Rattle.std.proofs.lemmas.Bool.Decides.{nat_tests}
use Rattle.std.proofs.lemmas.Bool.{and_parts, cases_lt}
use Rattle.std.proofs.lemmas.Option.{slice_get-map, slice_get_within, slice_get_read, get_or_from_slice_get}
use Rattle.std.proofs.lemmas.List.{take_all, length-map, map-append}
use Rattle.std.proofs.lemmas.List.Elements.{All-cons, All-map, All-nil, All-head, All-tail, All-more, All-append}
use Rattle.std.proofs.lemmas.Simd.{map-map}
use Rattle.rd_base.specs.Elements.{ends_once}
use Rattle.rd_base.specs.declared.cell.Glyph.{Glyph}
use Rattle.rd_base.specs.declared.element.Element.{Element}
use Rattle.rd_base.proofs.Lists.{all-at, count-cons, get-map}
use Rattle.rd_matrix.specs.Blocks.{IsAmong, IsWithin, MayBeAsked, HoldsPosition, StandFrom, first_start, end_from, block_before}
use Rattle.rd_matrix.specs.Columns.{covers}
use Rattle.rd_matrix.specs.Held.{blocks_held, laid_at, laid_from, source_of, in_range, covers_each, are_inside, IsHeld, AreHeld}
use Rattle.rd_matrix.specs.Sources.{SourceValues, IsSource, AreRowsOf, IsInBlock}
use Rattle.rd_matrix.specs.declared.block.Block.{Block}
use Rattle.rd_matrix.specs.declared.held.HeldBlock.{HeldBlock}
use Rattle.rd_rows.specs.declared.begin.Begin.{Begin}
use Rattle.rd_rows.specs.declared.cutting.Cutting.{Cutting}
use Rattle.rd_rows.specs.Copies.{shown_rows, made_rows}
use Rattle.rd_rows.specs.Laws.{seen_rows, ends_last, begins_of, range_of, ranges_of}
use Rattle.rd_rows.specs.Leads.{HasLeads}
use Rattle.rd_rows.specs.Prefixes.{IsPrefix}
use Rattle.rd_rows.specs.Rows.{RowMeaning, LaidRow, cutting_of, rows_of}
use Rattle.rd_rows.specs.Shapes.{ShapeValues}

-- places of blocks that stand one behind the other

pub later-start : (from k : ℕ) (bs : List Block) (b : Block) → StandFrom from bs → slice_get bs k ≡ Some b → (from ≤ b.start) × (b.start < b.end)
later-start from k [] b h i = absurd cc
later-start from zero (a ∷ bs) b h i = let same : a ≡ b = cc in let start = h.0 in subst (λ (x : Block). (from ≤ x.start) × (x.start < x.end)) same (omega (arith, start), h.1)
later-start from (suc k) (a ∷ bs) b h i =
    let rest = later-start a.end k bs b h.2 i in
    let low = rest.0 in
    let start = h.0 in
    let some = h.1 in
    (omega (arith, low, start, some), rest.1)

pub same-holder : (from k j : ℕ) (bs : List Block) (a b : Block) → StandFrom from bs → slice_get bs k ≡ Some a → slice_get bs j ≡ Some b → a.start ≤ b.start → b.start < a.end → k ≡ j
same-holder from k j [] a b h i g low high = absurd cc
same-holder from zero zero (c ∷ bs) a b h i g low high = refl
same-holder from zero (suc j) (c ∷ bs) a b h i g low high =
    let same : c ≡ a = cc in
    let end = ap (λ (x : Block). x.end) same in
    let later = (later-start c.end j bs b h.2 g).0 in
    absurd (omega (arith, end, later, high))
same-holder from (suc k) zero (c ∷ bs) a b h i g low high =
    let same : c ≡ b = cc in
    let start = ap (λ (x : Block). x.start) same in
    let some = h.1 in
    let later = (later-start c.end k bs a h.2 i).0 in
    absurd (omega (arith, start, some, later, low))
same-holder from (suc k) (suc j) (c ∷ bs) a b h i g low high = ap suc (same-holder c.end k j bs a b h.2 i g low high)

pub same-place : (from k j : ℕ) (bs : List Block) (a b : Block) → StandFrom from bs → slice_get bs k ≡ Some a → slice_get bs j ≡ Some b → a.start ≡ b.start → k ≡ j
same-place from k j bs a b h i g s = let some = (later-start from k bs a h i).1 in same-holder from k j bs a b h i g (omega (arith, s)) (omega (arith, s, some))

end-least : (from : ℕ) (bs : List Block) → StandFrom from bs → from ≤ end_from from bs
end-least from [] h = omega arith
end-least from (b ∷ bs) h = let start = h.0 in let some = h.1 in let rest = end-least b.end bs h.2 in omega (arith, start, some, rest)

-- the place of the one that starts where they all start
pub first-place : (from k : ℕ) (bs : List Block) (b : Block) → StandFrom from bs → slice_get bs k ≡ Some b → b.start ≡ from → k ≡ 0
first-place from k [] b h i first = absurd cc
first-place from zero (a ∷ bs) b h i first = refl
first-place from (suc k) (a ∷ bs) b h i first = let later = later-start a.end k bs b h.2 i in absurd (omega (arith, first, h.0, h.1, later.0))

-- the place of the one that starts where another ends
pub place-behind : (from k j : ℕ) (bs : List Block) (a b : Block) → StandFrom from bs → slice_get bs k ≡ Some a → slice_get bs j ≡ Some b
    → a.end ≡ b.start → j ≡ suc k
place-behind from k j [] a b h i g meets = absurd cc
place-behind from k zero (c ∷ bs) a b h i g meets =
    let same : c ≡ b = cc in
    let start = ap (λ (x : Block). x.start) same in
    let later = later-start from k (c ∷ bs) a h i in
    absurd (omega (arith, start, h.0, later.0, later.1, meets))
place-behind from zero (suc j) (c ∷ bs) a b h i g meets =
    let same : c ≡ a = cc in
    ap suc (first-place c.end j bs b h.2 g (sym (ap (λ (x : Block). x.end) same ∙ meets)))
place-behind from (suc k) (suc j) (c ∷ bs) a b h i g meets = ap suc (place-behind c.end k j bs a b h.2 i g meets)

-- none stands behind the one that ends where they all end
pub none-behind : (from last k : ℕ) (bs : List Block) (b : Block) → StandFrom from bs → slice_get bs k ≡ Some b → end_from last bs ≤ b.end
    → slice_get bs (suc k) ≡ None
none-behind from last k [] b h i past = absurd cc
none-behind from last zero (a ∷ []) b h i past = refl
none-behind from last zero (a ∷ c ∷ bs) b h i past =
    let same : a ≡ b = cc in
    let end = ap (λ (x : Block). x.end) same in
    absurd (omega (arith, end, h.2.0, h.2.1, end-least c.end bs h.2.2, past))
none-behind from last (suc k) (a ∷ bs) b h i past = none-behind a.end a.end k bs b h.2 i past

-- where there is a block, the end of the blocks does not depend on the position from which they are followed
pub end-any : (x y : ℕ) (bs : List Block) → 0 < length bs → end_from x bs ≡ end_from y bs
end-any x y [] some = absurd (omega arith)
end-any x y (b ∷ bs) some = refl

pub laid-there : (from k : ℕ) (hs : List HeldBlock) (h : HeldBlock) (shape : ShapeValues) → StandFrom from (blocks_held hs) → slice_get hs k ≡ Some h → laid_from shape h.block.start hs ≡ laid_at shape h
laid-there from k [] h shape stand i = absurd cc
laid-there from zero (g ∷ hs) h shape stand i =
    let same : g ≡ h = cc in
    let b : nat_eq g.block.start h.block.start ≡ true = let start = ap (λ (x : HeldBlock). x.block.start) same in grind (arith, nat_tests) in
    rw b (ap (laid_at shape) same)
laid-there from (suc k) (g ∷ hs) h shape stand i =
    let block : slice_get (blocks_held hs) k ≡ Some h.block = slice_get-map (λ (x : HeldBlock). x.block) hs k ∙ ap (option_map (λ (x : HeldBlock). x.block)) i in
    let later = (later-start g.block.end k (blocks_held hs) h.block stand.2 block).0 in
    let some = stand.1 in
    let b : nat_eq g.block.start h.block.start ≡ false = grind (arith, nat_tests) in
    rw b (laid-there g.block.end k hs h shape stand.2 i)

-- the items of a block

count-same : (p : Begin → Bool) (q : ℕ × ℕ → Bool) (bs : List Begin) → ((b : Begin) → p b ≡ q (range_of b)) → count_by p bs ≡ count_by q (map range_of bs)
count-same p q [] h = refl
count-same p q (b ∷ bs) h = count-cons p b bs ∙ (rw (h b, count-same p q bs h) refl ∙ sym (count-cons q (range_of b) (map range_of bs)))

moved-le : (b : Bool) (start f k : ℕ) → nat_le f k ≡ b → nat_le (start + f) (start + k) ≡ b
moved-le true start f k h = grind (arith, nat_tests)
moved-le false start f k h = grind (arith, nat_tests)

moved-lt : (b : Bool) (start k t : ℕ) → nat_lt k t ≡ b → nat_lt (start + k) (start + t) ≡ b
moved-lt true start k t h = grind (arith, nat_tests)
moved-lt false start k t h = grind (arith, nat_tests)

-- an item covers a position of a block where it has the position's offset
pub covers-moved : (start k : ℕ) (b : Begin) → covers start (start + k) b ≡ in_range k (range_of b)
covers-moved start k b = rw (moved-le (nat_le b.from k) start b.from k refl, moved-lt (nat_lt k b.to) start k b.to refl) refl

covered-at : (n k : ℕ) (rs : List (ℕ × ℕ)) → covers_each n rs ≡ true → k < n → count_by (in_range k) rs ≡ 1
covered-at zero k rs h below = absurd (omega arith)
covered-at (suc n) k rs h below =
    let both = and_parts _ (covers_each n rs) h in
    elim (cases_lt k n) as (λ _. count_by (in_range k) rs ≡ 1) [
      | inl less ↦ covered-at n k rs both.1 less
      | inr last ↦ let same : k ≡ n = omega (arith, last, below) in rw same (let one = both.0 in grind (arith, nat_tests))
    ]

inside-all : (start end size : ℕ) (bs : List Begin) → start + size ≡ end → are_inside size (map range_of bs) ≡ true → All (IsInBlock start end) bs
inside-all start end size [] e h = All-nil (IsInBlock start end)
inside-all start end size (b ∷ bs) e h =
    let both = and_parts (nat_le b.from b.to && nat_le b.to size) (are_inside size (map range_of bs)) h in
    let parts = and_parts (nat_le b.from b.to) (nat_le b.to size) both.0 in
    let order : b.from ≤ b.to = let o = parts.0 in grind (arith, nat_tests) in
    let within : b.to ≤ size = let o = parts.1 in grind (arith, nat_tests) in
    All-cons (IsInBlock start end) b bs (order, omega (arith, e, within)) (inside-all start end size bs e both.1)

-- rows are those of a block of this size where the items that begin in them have these ranges, which lie within it and hold each of its
-- offsets once
pub are-rows : (start end size : ℕ) (rows : List RowMeaning) (rs : List (ℕ × ℕ)) → start + size ≡ end → IsTrue (ends_last rows) → map range_of (begins_of rows) ≡ rs
    → are_inside size rs ≡ true → ((k : ℕ) → k < size → count_by (in_range k) rs ≡ 1) → AreRowsOf start end rows
are-rows start end size rows rs whole last begun inside once = record {
  ends = last;
  inside = inside-all start end size (begins_of rows) whole (ap (are_inside size) begun ∙ inside);
  once = λ point low high.
      let k : ℕ = point - start in
      let at : start + k ≡ point = omega (arith, low) in
      subst (λ (p : ℕ). count_by (covers start p) (begins_of rows) ≡ 1) at
      (count-same (covers start (start + k)) (in_range k) (begins_of rows) (covers-moved start k) ∙ (ap (count_by (in_range k)) begun ∙ once k (omega (arith, low, high, whole))));
}

pub source-right : (hs : List HeldBlock) → AreHeld hs → 0 < length hs
    → ((c : Cutting) (es : List Element) → HasLeads c → IsTrue (ends_once es) → IsTrue (ends_last (seen_rows (rows_of c es))))
    → ((c : Cutting) (es : List Element) → HasLeads c → IsTrue (ends_once es) → map range_of (begins_of (seen_rows (rows_of c es))) ≡ ranges_of None es)
    → ((shape : ShapeValues) (base : ℕ) (first wrap : List Element) (truncation continuation : Glyph) → shape.width ≤ 400 → IsPrefix first → IsPrefix wrap → HasLeads (cutting_of shape base first wrap truncation continuation))
    → IsSource (source_of hs)
source-right hs held some last begun leads = record {
  blocks = record {
    some = let size = length-map hs (λ (h : HeldBlock). h.block) in omega (arith, size, some);
    stand = held.stand;
    bases = All-map (λ (b : Block). b.base ≤ 1) (λ (h : HeldBlock). h.block) hs (λ k d inside. (held.lines k d inside).base);
  };
  rows = λ b shape among good.
      let found = get-map (λ (h : HeldBlock). h.block) hs among.0 b among.1 in
      let h = found.0 in
      let is = all-at IsHeld hs among.0 h held.lines found.1 in
      let lead = leads shape h.block.base h.first h.wrap h.truncation h.continuation good.most is.first is.wrap in
      let there = laid-there (first_start (blocks_held hs)) among.0 hs h shape held.stand found.1 in
      let size : ℕ = h.block.end - h.block.start in
      let some = is.some in
      subst (λ (x : Block). AreRowsOf x.start x.end (seen_rows (laid_from shape x.start hs))) found.2
      (subst (λ (rs : List LaidRow). AreRowsOf h.block.start h.block.end (seen_rows rs)) (sym there)
      (are-rows h.block.start h.block.end size (seen_rows (laid_at shape h)) (ranges_of None h.elements) (omega (arith, some)) (last _ h.elements lead is.end) (begun _ h.elements lead is.end)
      is.inside (λ k. covered-at size k (ranges_of None h.elements) is.covers)));
}

-- held blocks with one block more

stand-more : (from : ℕ) (bs : List Block) (b : Block) → StandFrom from bs → b.start ≡ end_from from bs → b.start < b.end → StandFrom from (bs ++ b ∷ [])
stand-more from [] b h next some = (next, some, tt)
stand-more from (a ∷ bs) b h next some = (h.0, h.1, stand-more a.end bs b h.2 next some)

first-more : (bs : List Block) (b : Block) → StandFrom (first_start bs) bs → b.start ≡ end_from b.start bs → b.start < b.end → StandFrom (first_start (bs ++ b ∷ [])) (bs ++ b ∷ [])
first-more [] b h next some = (refl, some, tt)
first-more (a ∷ bs) b h next some = stand-more a.start (a ∷ bs) b h next some

pub held-more : (hs all : List HeldBlock) (h : HeldBlock) → AreHeld hs → IsHeld h → h.block.start ≡ end_from h.block.start (blocks_held hs) → all ≡ hs ++ h ∷ [] → AreHeld all
held-more hs all h held one next push = rw push (record {
  stand = rw (map-append (λ (x : HeldBlock). x.block) hs (h ∷ [])) (first-more (blocks_held hs) h.block held.stand next one.some);
  lines = All-append IsHeld hs (h ∷ []) held.lines (All-cons IsHeld h [] one (All-nil IsHeld));
})

-- what the calls answer

pub shown-made : (rs : List LaidRow) → shown_rows (made_rows rs) ≡ seen_rows rs
shown-made rs = map-map _ _ rs

pub next-place : (hs : List HeldBlock) (b : Block) (place : ℕ) (result : Option Block) → AreHeld hs → slice_get (blocks_held hs) place ≡ Some b → result ≡ slice_get (blocks_held hs) (place + 1)
    → (k : ℕ) → slice_get (blocks_held hs) k ≡ Some b → result ≡ slice_get (blocks_held hs) (k + 1)
next-place hs b place result held there is k h =
    is ∙ ap (λ (n : ℕ). slice_get (blocks_held hs) (n + 1)) (same-place (first_start (blocks_held hs)) place k (blocks_held hs) b b held.stand there h refl)

pub prev-place : (hs : List HeldBlock) (b : Block) (place : ℕ) (result : Option Block) → AreHeld hs → slice_get (blocks_held hs) place ≡ Some b → result ≡ block_before (blocks_held hs) place
    → (k : ℕ) → slice_get (blocks_held hs) k ≡ Some b → result ≡ block_before (blocks_held hs) k
prev-place hs b place result held there is k h =
    is ∙ ap (block_before (blocks_held hs)) (same-place (first_start (blocks_held hs)) place k (blocks_held hs) b b held.stand there h refl)

pub before-is : (bs : List Block) (k : ℕ) → 0 < k → block_before bs k ≡ slice_get bs (k - 1)
before-is bs zero h = absurd (omega arith)
before-is bs (suc k) h = let e : suc k - 1 ≡ k = omega arith in rw e refl

-- the search for a position

abbrev EndsBy : ℕ → HeldBlock → Type 0
EndsBy pos h = h.block.end ≤ pos

abbrev pub Passed : List HeldBlock → ℕ → ℕ → Type 0
Passed hs pos n = All (EndsBy pos) (take n hs)

pub passed-more : (hs : List HeldBlock) (pos n : ℕ) (g : HeldBlock) → Passed hs pos n → slice_get hs n ≡ Some g → g.block.end ≤ pos → Passed hs pos (n + 1)
passed-more hs pos n g passed at past =
    All-more (EndsBy pos) hs n g (slice_get_within hs n g at) passed (subst (EndsBy pos) (sym (get_or_from_slice_get hs n g g at)) past)

start-before : (from pos k : ℕ) (hs : List HeldBlock) (h : HeldBlock) → StandFrom from (blocks_held hs) → from ≤ pos → Passed hs pos k → slice_get hs k ≡ Some h → h.block.start ≤ pos
start-before from pos k [] h stand low passed there = absurd cc
start-before from pos zero (g ∷ hs) h stand low passed there = let same : g ≡ h = cc in let start = ap (λ (x : HeldBlock). x.block.start) same in let first = stand.0 in omega (arith, start, first, low)
start-before from pos (suc k) (g ∷ hs) h stand low passed there =
    start-before g.block.end pos k hs h stand.2 (All-head (EndsBy pos) g (take k hs) passed) (All-tail (EndsBy pos) g (take k hs) passed) there

pub block-there : (hs : List HeldBlock) (n : ℕ) (h : HeldBlock) → slice_get hs n ≡ Some h → slice_get (blocks_held hs) n ≡ Some h.block
block-there hs n h there = slice_get-map (λ (x : HeldBlock). x.block) hs n ∙ ap (option_map (λ (x : HeldBlock). x.block)) there

pub holds-found : (hs : List HeldBlock) (pos n : ℕ) (h : HeldBlock) → AreHeld hs → IsWithin pos (blocks_held hs) → Passed hs pos n → slice_get hs n ≡ Some h → pos < h.block.end → HoldsPosition pos (blocks_held hs) h.block
holds-found hs pos n h held within passed there below = record {
  among = (n, block-there hs n h there);
  from = start-before (first_start (blocks_held hs)) pos n hs h held.stand within.0 passed there;
  below = below;
}

end-passed : (from pos : ℕ) (hs : List HeldBlock) → from ≤ pos → All (EndsBy pos) hs → end_from from (blocks_held hs) ≤ pos
end-passed from pos [] low passed = low
end-passed from pos (h ∷ hs) low passed = end-passed h.block.end pos hs (All-head (EndsBy pos) h hs passed) (All-tail (EndsBy pos) h hs passed)

pub passed-all : (hs : List HeldBlock) (pos n : ℕ) → Passed hs pos n → length hs ≤ n → IsWithin pos (blocks_held hs) → ⊥
passed-all hs pos n passed all within =
    let end = end-passed 0 pos hs (omega arith) (rw (take_all n hs all) at passed) in
    let high = within.1 in
    absurd (omega (arith, end, high))

-- a block is found by its start

end-behind : (from last k : ℕ) (bs : List Block) (b : Block) → StandFrom from bs → slice_get bs k ≡ Some b → b.end ≤ end_from last bs
end-behind from last k [] b h i = absurd cc
end-behind from last zero (a ∷ bs) b h i = let same : a ≡ b = cc in subst (λ (x : Block). x.end ≤ end_from a.end bs) same (end-least a.end bs h.2)
end-behind from last (suc k) (a ∷ bs) b h i = end-behind a.end a.end k bs b h.2 i

-- a position of a block is one of the blocks
pub among-within : (bs : List Block) (b : Block) (p : ℕ) → StandFrom (first_start bs) bs → IsAmong bs b → b.start ≤ p → p < b.end → IsWithin p bs
among-within bs b p stand among low high =
    let first = (later-start (first_start bs) among.0 bs b stand among.1).0 in
    let last = end-behind (first_start bs) 0 among.0 bs b stand among.1 in
    (omega (arith, first, low), omega (arith, last, high))

-- a block begins within the blocks that it is among
pub start-within : (bs : List Block) (b : Block) → StandFrom (first_start bs) bs → IsAmong bs b → IsWithin b.start bs
start-within bs b stand among = among-within bs b b.start stand among (omega arith) (later-start (first_start bs) among.0 bs b stand among.1).1

-- a position of which a source is asked is one of its blocks
pub asked-within : (m : SourceValues) (pos : ℕ) → IsSource m → MayBeAsked pos m.blocks → IsWithin pos m.blocks
asked-within m pos source (inl within) = within
asked-within m pos source (inr starts) = subst (λ (p : ℕ). IsWithin p m.blocks) starts.2 (start-within m.blocks starts.0 source.blocks.stand starts.1)

pub place-found : (hs : List HeldBlock) (n : ℕ) (g b : Block) → AreHeld hs → IsAmong (blocks_held hs) b → slice_get (blocks_held hs) n ≡ Some g → HoldsPosition b.start (blocks_held hs) g → slice_get (blocks_held hs) n ≡ Some b
place-found hs n g b held among there holds =
    ap (slice_get (blocks_held hs)) (same-holder (first_start (blocks_held hs)) n among.0 (blocks_held hs) g b held.stand there among.1 holds.from holds.below) ∙ among.1

-- held blocks among which some block is, or that hold some position, are one or more

pub among-some : (hs : List HeldBlock) (b : Block) → IsAmong (blocks_held hs) b → 0 < length hs
among-some hs b among = let found = get-map (λ (h : HeldBlock). h.block) hs among.0 b among.1 in let below = slice_get_within hs among.0 found.0 found.1 in omega (arith, below)

within-some : (hs : List HeldBlock) (pos : ℕ) → IsWithin pos (blocks_held hs) → 0 < length hs
within-some [] pos within = let high = within.1 in absurd (omega (arith, high))
within-some (h ∷ hs) pos within = omega arith

pub asked-some : (hs : List HeldBlock) (pos : ℕ) → MayBeAsked pos (blocks_held hs) → 0 < length hs
asked-some hs pos (inl within) = within-some hs pos within
asked-some hs pos (inr starts) = among-some hs starts.0 starts.1

pub rows-there : (b : Block) (shape : ShapeValues) (now items : List HeldBlock) (n : ℕ) (h : HeldBlock) → AreHeld now → items ≡ now → slice_get (blocks_held now) n ≡ Some b → n < length now → h ≡ get_or items n h
    → laid_from shape b.start now ≡ laid_at shape h
rows-there b shape now items n h held same block below read =
    let there = slice_get_read now (length now) n h refl below (read ∙ ap (λ xs. get_or xs n h) same) in
    let both : Some b ≡ Some h.block = sym block ∙ block-there now n h there in
    let is : b ≡ h.block = cc in
    ap (λ (x : Block). laid_from shape x.start now) is ∙ laid-there (first_start (blocks_held now)) n now h shape held.stand there

-- Rows that a block keeps are its rows.
use Rattle.std.proofs.Common.{◌≡◌, ◌⊎◌, inl, inr, ℕ, zero, suc, ◌+◌, ◌<◌, ◌≤◌, ◌==◌, nat_le, Bool, true, false, not, if◌then◌else◌, List, [], ◌∷◌, length, Option, None, Some, refl, sym, ap, subst, ◌∙◌, arith}
use Rattle.std.specs.Prelude.{pos, ◌-ℤ◌, slice_get}
use Rattle.std.specs.List.{list_all}
use Rattle.std.specs.Ordering.{int_eq}
use Rattle.std.proofs.lemmas.Bool.{and_parts, leb-true, or_cases}
use Rattle.std.proofs.lemmas.Bool.Decides.{nat_tests, Decides-eqb, Decides-int_eq}
use Rattle.std.proofs.lemmas.Int.{ints}
use Rattle.std.proofs.lemmas.Option.{same_Some}
use Rattle.rd_base.proofs.Lists.{all-at, found-passes}
use Rattle.rd_base.specs.Settings.{SettingValues}
use Rattle.rd_base.specs.declared.element.Element.{Element}
use Rattle.rd_text.specs.Texts.{IsText}
use Rattle.rd_ucd.specs.Data.{Data}
use Rattle.rd_objects.specs.Things.{ObjectLists}
use Rattle.rd_props.specs.Buffers.{BufferValue}
use Rattle.rd_items.specs.Blocks.{IsBlock, ListedLaw}
use Rattle.rd_items.specs.Pieces.{scene_in}
use Rattle.rd_items.specs.Readings.{reading}
use Rattle.rd_matrix.proofs.Counting.{behind-first, ends-alone}
use Rattle.rd_matrix.specs.Blocks.{IsAmong, first_start}
use Rattle.rd_matrix.specs.Entries.{shown_entry}
use Rattle.rd_matrix.specs.Sources.{IsSource}
use Rattle.rd_matrix.specs.declared.block.Block.{Block}
use Rattle.rd_matrix.specs.declared.matrix.Entry.{Entry}
use Rattle.rd_reuse.specs.Keeping.{AreRight, are_whole, entry_under, has_base, is_outside, is_under, started_at, taken, taken_from, up_to_end}
use Rattle.rd_reuse.specs.declared.change.Change.{Change}
use Rattle.rd_rows.specs.Copies.{RowValues, shown_rows}
use Rattle.rd_rows.specs.Laws.{seen_rows, ends_last}
use Rattle.rd_rows.specs.Rows.{RowMeaning, rows_of}
use Rattle.rd_rows.specs.Shapes.{ShapeValues, IsShape}
use Rattle.rd_rows.specs.declared.cutting.Cutting.{Cutting}
use Rattle.rd_stack.specs.Lines.{line_elements}
use Rattle.rd_blocks.specs.Kept.{Follows, AreRowsAt}
use Rattle.rd_blocks.specs.Rows.{block_cutting}
use Rattle.rd_blocks.specs.Sources.{text_source}
use Rattle.rd_blocks.proofs.EntryBlocks.{IsRowOf, row-block, same-start}
use Rattle.rd_blocks.proofs.Listed.{among-block}
use Rattle.rd_blocks.proofs.Local.{ReadLaw, rows-local}
use Rattle.rd_blocks.proofs.SameReading.{reads-before, reads-behind}

-- ---- rows up to the first that ends the block

-- each older row that is found stands at its number among these
abbrev AreFound : List Entry → Change → ℕ → ℕ → List RowMeaning → Type 0
AreFound es c start k rest = (j i : ℕ) (e : Entry) → i ≡ k + j → entry_under es c start i ≡ Some e → slice_get rest j ≡ Some e.row.shown

one-more : (e : Entry) (r : RowMeaning) (rs : List RowMeaning) (older : List RowValues) (ends : Bool) → e.row.shown ≡ r → r.ends_block ≡ ends → ends_last (r ∷ rs) ≡ true
    → ends_last (shown_rows (e.row ∷ (if ends then [] else older))) ≡ true → (ends_last rs ≡ true → ends_last (shown_rows older) ≡ true → shown_rows older ≡ rs)
    → shown_rows (e.row ∷ (if ends then [] else older)) ≡ r ∷ rs
one-more e r rs older true same ends last whole later =
    ap (λ (x : RowMeaning). x ∷ []) same ∙ ap (λ (xs : List RowMeaning). r ∷ xs) (sym (ends-alone r rs ends last))
one-more e r rs older false same ends last whole later =
    let here : e.row.shown.ends_block ≡ false = ap (λ (x : RowMeaning). x.ends_block) same ∙ ends in
    let rest = later (behind-first r rs ends last) (behind-first e.row.shown (shown_rows older) here whole) in
    ap (λ (x : RowMeaning). x ∷ shown_rows older) same ∙ ap (λ (xs : List RowMeaning). r ∷ xs) rest

found-or-not : (es : List Entry) (c : Change) (start k : ℕ) (rest : List RowMeaning) (older : List RowValues) (o : Option Entry) → entry_under es c start k ≡ o → AreFound es c start k rest → ends_last rest ≡ true
    → ends_last (shown_rows (up_to_end o older)) ≡ true
    → ((rs : List RowMeaning) → AreFound es c start (k + 1) rs → ends_last rs ≡ true → ends_last (shown_rows older) ≡ true → shown_rows older ≡ rs)
    → shown_rows (up_to_end o older) ≡ rest
found-or-not es c start k rest older None e at last whole later = absurd cc
found-or-not es c start k [] older (Some x) e at last whole later = absurd cc
found-or-not es c start k (r ∷ rs) older (Some x) e at last whole later =
    let same : x.row.shown ≡ r = sym (same_Some r x.row.shown (at 0 k x (omega arith) e)) in
    let ends : x.row.shown.ends_block ≡ r.ends_block = ap (λ (y : RowMeaning). y.ends_block) same in
    let P : Bool → Type 0 = λ b. ends_last (shown_rows (x.row ∷ (if b then [] else older))) ≡ true in
    let Q : Bool → Type 0 = λ b. shown_rows (x.row ∷ (if b then [] else older)) ≡ r ∷ rs in
    subst Q (sym ends)
    (one-more x r rs older r.ends_block same refl last (subst P ends whole) (λ a b. later rs (λ j i y f g. at (suc j) i y (omega arith) g) a b))

-- the older rows that are taken are all of these
all-taken : (n : ℕ) (es : List Entry) (c : Change) (start k : ℕ) (rest : List RowMeaning) → AreFound es c start k rest → ends_last rest ≡ true → ends_last (shown_rows (taken_from n es c start k)) ≡ true
    → shown_rows (taken_from n es c start k) ≡ rest
all-taken zero es c start k rest at last whole = absurd cc
all-taken (suc n) es c start k rest at last whole =
    found-or-not es c start k rest (taken_from n es c start (k + 1)) (entry_under es c start k) refl at last whole (λ rs f a b. all-taken n es c start (k + 1) rs f a b)

-- where rows of a block are taken from older ones, one of these has number 0
first-by : (es : List Entry) (c : Change) (start : ℕ) (older : List RowValues) (o : Option Entry) → entry_under es c start 0 ≡ o → ends_last (shown_rows (up_to_end o older)) ≡ true → (e : Entry) × (entry_under es c start 0 ≡ Some e)
first-by es c start older None found whole = absurd cc
first-by es c start older (Some e) found whole = (e, found)

first-taken : (n : ℕ) (es : List Entry) (c : Change) (start : ℕ) → ends_last (shown_rows (taken_from n es c start 0)) ≡ true → (e : Entry) × (entry_under es c start 0 ≡ Some e)
first-taken zero es c start whole = absurd cc
first-taken (suc n) es c start whole = first-by es c start (taken_from n es c start 1) (entry_under es c start 0) refl whole

-- ---- base levels

based-by : (t reversed : Bool) → (if t then reversed else not reversed) ≡ true → t ≡ reversed
based-by true true e = refl
based-by true false e = cc
based-by false true e = cc
based-by false false e = refl

first-reversed : (c : Cutting) (es : List Element) (r : RowMeaning) (rs : List RowMeaning) → seen_rows (rows_of c es) ≡ r ∷ rs → c.reversed ≡ r.reversed
first-reversed c [] r rs e = absurd cc
first-reversed c (x ∷ es) r rs e = ap (head c.reversed) e where
  head : Bool → List RowMeaning → Bool
  head other [] = other
  head other (y ∷ ys) = y.reversed

same-base : (a b : ℕ) → a ≤ 1 → b ≤ 1 → (a == 1) ≡ (b == 1) → a ≡ b
same-base a b low small e = grind (arith, nat_tests)

rows-base : (a : ℕ) (c : Cutting) (es : List Element) (rows : List RowMeaning) → are_whole a rows ≡ true → rows ≡ seen_rows (rows_of c es) → (a == 1) ≡ c.reversed
rows-base a c es [] whole same = absurd cc
rows-base a c es (r ∷ rs) whole same =
    let based = (and_parts (has_base a r) (list_all (has_base a) rs) (and_parts (ends_last (r ∷ rs)) (list_all (has_base a) (r ∷ rs)) whole).1).0 in
    based-by (a == 1) r.reversed based ∙ sym (first-reversed c es r rs (sym same))

-- ---- where a block started

-- a block starts at the tail or later, and stood elsewhere by what was added, or it starts before the tail, where it stood
abbrev HasStarted : Change → ℕ → ℕ → Type 0
HasStarted c start before = ((c.tail ≤ start) × (pos start -ℤ pos before ≡ c.added)) ⊎ ((start < c.tail) × (before ≡ start))

started-by : (c : Change) (start before : ℕ) (t : Bool) → nat_le c.tail start ≡ t → (if t then int_eq (pos start -ℤ pos before) c.added else before == start) ≡ true → HasStarted c start before
started-by c start before true e same =
    let above : c.tail ≤ start = grind (arith, nat_tests) in
    inl (above, (Decides-int_eq (pos start -ℤ pos before) c.added).0 same)
started-by c start before false e same =
    let below : start < c.tail = grind (arith, nat_tests) in
    inr (below, (Decides-eqb before start).0 same)

one-start : (c : Change) (start a b : ℕ) → HasStarted c start a → HasStarted c start b → a ≡ b
one-start c start a b (inl x) (inl y) = let first = x.1 in let last = y.1 in omega (arith, ints, first, last)
one-start c start a b (inl x) (inr y) = let above = x.0 in let below = y.0 in absurd (omega arith)
one-start c start a b (inr x) (inl y) = let below = x.0 in let above = y.0 in absurd (omega arith)
one-start c start a b (inr x) (inr y) = x.1 ∙ sym y.1

-- what a row that is found under a start and a number is
record IsUnder (es : List Entry) (c : Change) (start n : ℕ) (e : Entry) : Type 0 where
  started : HasStarted c start e.start
  number : e.number ≡ n
  place : ℕ
  at : slice_get es place ≡ Some e

is-under : (es : List Entry) (c : Change) (start number : ℕ) (e : Entry) → entry_under es c start number ≡ Some e → IsUnder es c start number e
is-under es c start n e found =
    let passes = found-passes (is_under c start n) es e found in
    let parts = and_parts (started_at c start e.start) (e.number == n) passes.0 in
    record {
      started = started-by c start e.start (nat_le c.tail start) refl parts.0;
      number = (Decides-eqb e.number n).0 parts.1;
      place = passes.1;
      at = passes.2;
    }

-- ---- a block that keeps its rows

-- what lower layers promise, and what this one does
pub record FreshLaws : Type 0 where
  pub listed : ListedLaw
  pub source : (s : BufferValue) (objects : ObjectLists) (files : Data) → IsText s.text → IsSource (text_source s objects files)
  pub read : ReadLaw

module _ (laws : FreshLaws) (old new : BufferValue) (made objects : ObjectLists) (files : Data) (c : Change) (shape : ShapeValues) (es : List Entry) (right : IsText old.text) (text : IsText new.text) (is : IsShape shape)
    (follows : Follows old made new objects c) (rows : AreRowsAt (text_source old made files) shape es) where
  older : IsSource (text_source old made files)
  older = laws.source old made files right

  newer : IsSource (text_source new objects files)
  newer = laws.source new objects files text

  -- the rows of an older block, and the older block of a row with the row's place there
  abbrev rows_before : Block → List RowMeaning
  rows_before a = (text_source old made files).rows_of a shape

  abbrev IsOf : Entry → Type 0
  IsOf e = IsRowOf (λ a. (text_source old made files).rows_of a shape) (text_source old made files).blocks (shown_entry e)

  of-entry : (e : Entry) (k : ℕ) → slice_get es k ≡ Some e → IsOf e
  of-entry e k found = row-block (text_source old made files) shape es k e rows found

  module _ (b : Block) (among : IsAmong (text_source new objects files).blocks b) (outside : is_outside c b ≡ true) (whole : are_whole b.base (shown_rows (taken es c b.start)) ≡ true) where
    all-ends : ends_last (shown_rows (taken es c b.start)) ≡ true
    all-ends = (and_parts (ends_last (shown_rows (taken es c b.start))) (list_all (has_base b.base) (shown_rows (taken es c b.start))) whole).0

    first : (e : Entry) × (entry_under es c b.start 0 ≡ Some e)
    first = first-taken (length es) es c b.start all-ends

    under : IsUnder es c b.start 0 first.0
    under = is-under es c b.start 0 first.0 first.1

    -- the older block
    of : IsOf first.0
    of = of-entry first.0 under.place under.at

    -- each row that is found is one of the older block
    are-found : AreFound es c b.start 0 (rows_before of.0)
    are-found j i e place found =
        let this = is-under es c b.start i e found in
        let there = of-entry e this.place this.at in
        let start : there.0.start ≡ of.0.start = there.2 ∙ one-start c b.start e.start first.0.start this.started under.started ∙ sym of.2 in
        let same : there.0 ≡ of.0 =
        same-start (first_start (text_source old made files).blocks) there.1.0 of.1.0 (text_source old made files).blocks there.0 of.0 older.blocks.stand there.1.1 of.1.1 start in
        let number : e.number ≡ j = (let n = this.number in omega (arith, n, place)) in
        ap (λ (n : ℕ). slice_get (rows_before of.0) n) (sym number) ∙ ap (λ (d : Block). slice_get (rows_before d) e.number) (sym same) ∙ there.3

    taken-rows : shown_rows (taken es c b.start) ≡ rows_before of.0
    taken-rows = all-taken (length es) es c b.start 0 (rows_before of.0) are-found (older.rows of.0 shape of.1 is).ends all-ends

    bases : of.0.base ≡ b.base
    bases =
        let es_old = reading old made of.0.start in
        let scene = scene_in old.settings made files in
        let flips = rows-base b.base (block_cutting scene of.0.base shape es_old) (line_elements scene of.0.base es_old) (shown_rows (taken es c b.start)) whole taken-rows in
        let mine = all-at (λ (x : Block). x.base ≤ 1) (text_source new objects files).blocks among.0 b newer.blocks.bases among.1 in
        let its = all-at (λ (x : Block). x.base ≤ 1) (text_source old made files).blocks of.1.0 of.0 older.blocks.bases of.1.1 in
        same-base of.0.base b.base its mine (sym flips)

    is-block : IsBlock new b.start b.end
    is-block = among-block files.classes new (laws.listed new text.ordered) b among

    setting : old.settings.invisible ≡ new.settings.invisible
    setting = ap (λ (s : SettingValues). s.invisible) (sym follows.settings)

    reads-from : HasStarted c b.start of.0.start → reading old made of.0.start ≡ reading new objects b.start
    reads-from (inl later) = reads-behind old made new objects setting c follows.unchanged b.start b.end is-block of.0.start later.0 later.1
    reads-from (inr here) = by-side (or_cases (nat_le b.end c.head) (nat_le c.tail b.start) outside) where
      by-side : (nat_le b.end c.head ≡ true) ⊎ (nat_le c.tail b.start ≡ true) → reading old made of.0.start ≡ reading new objects b.start
      by-side (inl below) =
          ap (λ (p : ℕ). reading old made p) here.1 ∙ reads-before old made new objects setting c follows.unchanged b.start b.end is-block (leb-true b.end c.head below)
      by-side (inr above) = let from = leb-true c.tail b.start above in let below = here.0 in absurd (omega arith)

    reads : reading old made of.0.start ≡ reading new objects b.start
    reads = reads-from (subst (λ (p : ℕ). HasStarted c b.start p) (sym of.2) under.started)

    fresh : shown_rows (taken es c b.start) ≡ (text_source new objects files).rows_of b shape
    fresh =
        taken-rows
        ∙ ap seen_rows (sym (rows-local laws.read old new made objects files of.0 b shape follows.settings follows.closed follows.named follows.extends bases reads))

  pub rows-fresh : AreRight (text_source new objects files) es c shape
  rows-fresh b among kept =
      let parts = and_parts (is_outside c b) (are_whole b.base (shown_rows (taken es c b.start))) kept in
      fresh b among parts.0 parts.1

-- Older rows that are a block's own.
use Rattle.std.proofs.Common.{◌≡◌, ℕ, zero, suc, ◌+◌, ◌<◌, Bool, true, false, if◌then◌else◌, List, [], ◌∷◌, length, slice_get, Option, None, Some, refl, sym, ap, ◌∙◌, subst, arith}
use Rattle.std.proofs.lemmas.Bool.{and_parts}
use Rattle.std.specs.Cmp.Derive.{both_true}
use Rattle.std.specs.List.{list_all}
use Rattle.rd_matrix.proofs.Counting.{behind-first, ends-alone}
use Rattle.rd_matrix.specs.declared.block.Block.{Block}
use Rattle.rd_matrix.specs.declared.matrix.Entry.{Entry}
use Rattle.rd_reuse.specs.Keeping.{are_whole, entry_under, has_base, is_kept, is_outside, taken, taken_from, up_to_end}
use Rattle.rd_reuse.specs.declared.change.Change.{Change}
use Rattle.rd_rows.specs.Copies.{shown_rows}
use Rattle.rd_rows.specs.Laws.{ends_last}
use Rattle.rd_rows.specs.Rows.{RowMeaning}

-- what holds of the entry that was found holds of each that was
pub of-found : (P : Entry → Type 0) (o : Option Entry) (x e : Entry) → o ≡ Some x → P x → o ≡ Some e → P e
of-found P o x e here holds there = let same : x ≡ e = cc in subst P same holds

whole-rest : (base : ℕ) (r : RowMeaning) (rs : List RowMeaning) → r.ends_block ≡ false → are_whole base (r ∷ rs) ≡ true → are_whole base rs ≡ true
whole-rest base r rs t whole =
    let parts = and_parts (ends_last (r ∷ rs)) (list_all (has_base base) (r ∷ rs)) whole in
    both_true (behind-first r rs t parts.0) (and_parts (has_base base r) (list_all (has_base base) rs) parts.1).1

-- each older row of a block from a number on that has the block's base level is the row there
abbrev pub AreOwn : List Entry → Change → ℕ → ℕ → ℕ → List RowMeaning → Type 0
AreOwn old c start base number rs = (j : ℕ) (e : Entry) → entry_under old c start (number + j) ≡ Some e → has_base base e.row.shown ≡ true → j < length rs → slice_get rs j ≡ Some e.row.shown

own-rest : (old : List Entry) (c : Change) (start base number : ℕ) (r : RowMeaning) (rs : List RowMeaning) → AreOwn old c start base number (r ∷ rs) → AreOwn old c start base (number + 1) rs
own-rest old c start base number r rs own j e at is low =
    let next : number + suc j ≡ number + 1 + j = omega arith in
    own (suc j) e (ap (entry_under old c start) next ∙ at) is (omega (arith, low))

-- what is to be shown of the rows that are taken from a number on
abbrev pub AreTaken : List Entry → Change → ℕ → ℕ → ℕ → ℕ → List RowMeaning → Type 0
AreTaken old c start base n number rs = AreOwn old c start base number rs → ends_last rs ≡ true
    → are_whole base (shown_rows (taken_from n old c start number)) ≡ true → shown_rows (taken_from n old c start number) ≡ rs

-- the rows that are taken from a number on are the block's, by whether the first of them ends the block
own-by : (old : List Entry) (c : Change) (start base n number : ℕ) (r : RowMeaning) (rs : List RowMeaning) (e : Entry) (last : Bool) → e.row.shown.ends_block ≡ last → r ≡ e.row.shown
    → AreTaken old c start base n (number + 1) rs → AreOwn old c start base number (r ∷ rs) → ends_last (r ∷ rs) ≡ true
    → are_whole base (shown_rows (e.row ∷ (if last then [] else taken_from n old c start (number + 1)))) ≡ true
    → shown_rows (e.row ∷ (if last then [] else taken_from n old c start (number + 1))) ≡ r ∷ rs
own-by old c start base n number r rs e true last same behind own ends whole =
    let none = ends-alone r rs (ap (λ (x : RowMeaning). x.ends_block) same ∙ last) ends in
    ap (λ x. x ∷ []) (sym same) ∙ ap (λ xs. r ∷ xs) (sym none)
own-by old c start base n number r rs e false last same behind own ends whole =
    let ends-not = ap (λ (x : RowMeaning). x.ends_block) same ∙ last in
    let left = taken_from n old c start (number + 1) in
    let rest = behind (own-rest old c start base number r rs own) (behind-first r rs ends-not ends) (whole-rest base e.row.shown (shown_rows left) last whole) in
    ap (λ x. x ∷ shown_rows left) (sym same) ∙ ap (λ xs. r ∷ xs) rest

-- the rows that are taken from a number on are the block's, by whether there is one of that number
own-at : (old : List Entry) (c : Change) (start base n number : ℕ) (rs : List RowMeaning) (o : Option Entry) → entry_under old c start number ≡ o
    → ((xs : List RowMeaning) → AreTaken old c start base n (number + 1) xs) → AreOwn old c start base number rs → ends_last rs ≡ true
    → are_whole base (shown_rows (up_to_end o (taken_from n old c start (number + 1)))) ≡ true → shown_rows (up_to_end o (taken_from n old c start (number + 1))) ≡ rs
own-at old c start base n number rs None at behind own ends whole = absurd cc
own-at old c start base n number [] (Some e) at behind own ends whole = absurd cc
own-at old c start base n number (r ∷ rs) (Some e) at behind own ends whole =
    let rest = if e.row.shown.ends_block then [] else taken_from n old c start (number + 1) in
    let parts = and_parts (ends_last (shown_rows (e.row ∷ rest))) (list_all (has_base base) (shown_rows (e.row ∷ rest))) whole in
    let based = (and_parts (has_base base e.row.shown) (list_all (has_base base) (shown_rows rest)) parts.1).0 in
    let here : number ≡ number + 0 = omega arith in
    let is = own 0 e (sym (ap (entry_under old c start) here) ∙ at) based (omega arith) in
    let same : r ≡ e.row.shown = cc in
    own-by old c start base n number r rs e e.row.shown.ends_block refl same (behind rs) own ends whole

-- the rows of a block that are taken from an older layout are its own
own-rows : (old : List Entry) (c : Change) (start base n number : ℕ) (rs : List RowMeaning) → AreTaken old c start base n number rs
own-rows old c start base zero number rs own ends whole = absurd cc
own-rows old c start base (suc n) number rs own ends whole =
    own-at old c start base n number rs (entry_under old c start number) refl (λ xs. own-rows old c start base n (number + 1) xs) own ends whole

-- a block that keeps its older rows keeps its own
pub own-block : (old : List Entry) (c : Change) (b : Block) (rs : List RowMeaning)
    → ((j : ℕ) (e : Entry) → j < length rs → entry_under old c b.start j ≡ Some e → has_base b.base e.row.shown ≡ true → slice_get rs j ≡ Some e.row.shown)
    → ends_last rs ≡ true → is_kept old c b ≡ true → shown_rows (taken old c b.start) ≡ rs
own-block old c b rs own ends kept =
    own-rows old c b.start b.base (length old) 0 rs
    (λ j e at is low. let same : 0 + j ≡ j = omega arith in own j e low (sym (ap (entry_under old c b.start) same) ∙ at) is) ends
    (and_parts (is_outside c b) (are_whole b.base (shown_rows (taken old c b.start))) kept).1

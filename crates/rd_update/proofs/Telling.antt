-- The words of two rows tell where their cells differ.
use Rattle.std.proofs.Common.{◌≡◌, inl, inr, if◌then◌else◌, cond, ◌*◌, ℕ, zero, suc, ◌+◌, ◌-◌, ◌/◌, ◌<◌, ◌≤◌, ◌==◌, ◌&&◌, not, nat_lt, Bool, true, false, List, [], ◌∷◌, ◌++◌, length, get_or, All, Option, None, Some, refl, sym, ap, ap₂, subst, ◌∙◌, arith, take, append-nil}
use Rattle.std.specs.Cmp.Derive.{one_truth}
use Rattle.std.specs.List.{AllByRecursion, position_or_len, suffix_len}
use Rattle.std.specs.Prelude.{zip}
use Rattle.std.proofs.lemmas.Bool.{cases_eq}
use Rattle.std.proofs.lemmas.Bool.Decides.{nat_tests, Decides-and, Decides-eqb}
use Rattle.std.proofs.lemmas.List.{take_more}
use Rattle.std.proofs.lemmas.List.Concat.{flat_map-append}
use Rattle.std.proofs.lemmas.List.Elements.{All-append, All-from_recursion, recursion_from_All}
use Rattle.std.proofs.lemmas.List.Sums.{suffix_len_is}
use Rattle.std.proofs.lemmas.Option.{cond_some}
use Rattle.std.proofs.lemmas.Slice.Zip.{get_or-zip, length-zip}
use Rattle.rd_base.proofs.Choices.{none-chosen}
use Rattle.rd_lanes.specs.Kernels.{differs as words_differ, first_difference as first_word, last_difference as last_word}
use Rattle.rd_base.specs.Cells.{words_of, IsColoured, IsSmall, AreOnlyOf}
use Rattle.rd_base.specs.Equals.{same_cell}
use Rattle.rd_base.specs.declared.cell.Cell.{Cell}
use Rattle.rd_base.specs.declared.cell.Cell.TheVariants.{Blank, First, Rest}
use Rattle.rd_update.specs.Updates.{first_difference, end_before, end_unlike, end_of_differences}
use Rattle.rd_update.specs.Words.{row_words, AreTold, columns_from, columns_of_words, differing_columns}
use Rattle.rd_update.specs.declared.span.Columns.{Columns}
use Rattle.rd_base.proofs.Equals.{cell-told, cell-itself}
use Rattle.rd_update.proofs.Intervals.{behind-last, last-differs}
use Rattle.rd_update.proofs.Spans.{first_before, end_within}

-- ---- the words of two cells

abbrev word : Cell → ℕ → ℕ
word x i = get_or (words_of x) i 0

pub three-words : (x : Cell) → words_of x ≡ word x 0 ∷ word x 1 ∷ word x 2 ∷ []
three-words (Blank f) = refl
three-words (First g f) = refl
three-words Rest = refl

-- a small cell that its words tell
abbrev pub IsTold : Cell → Type 0
IsTold x = IsSmall x × AreOnlyOf x (words_of x)

words-same : (x y : Cell) → IsTold x → IsSmall y → (word x 0 == word y 0 && word x 1 == word y 1 && word x 2 == word y 2) ≡ same_cell x y
words-same x y told small =
    let one = Decides-and _ _ (Decides-eqb (word x 0) (word y 0)) (Decides-eqb (word x 1) (word y 1)) in
    let all = Decides-and _ _ one (Decides-eqb (word x 2) (word y 2)) in
    one_truth (word x 0 == word y 0 && word x 1 == word y 1 && word x 2 == word y 2) (same_cell x y)
    (λ e.
    let is = all.0 e in
    let words : words_of y ≡ words_of x = three-words y ∙ rw (sym is.0.0, sym is.0.1, sym is.1) (sym (three-words x)) in
    subst (λ z. same_cell x z ≡ true) (sym (told.1 y told.0 small words)) (cell-itself x))
    (λ e. let same = cell-told x y e in all.1 ((ap (λ z. word z 0) same, ap (λ z. word z 1) same), ap (λ z. word z 2) same))

length-row : (cells : List Cell) → length (row_words cells) ≡ 3 * length cells
length-row [] = omega arith
length-row (x ∷ cells) = ap (λ ws. length (ws ++ row_words cells)) (three-words x) ∙ omega (arith, length-row cells)

-- rows of one width have as many words
pub words-even : (xs ys : List Cell) (olds news : List ℕ) → length xs ≡ length ys → olds ≡ row_words xs → news ≡ row_words ys → length olds ≡ length news
words-even xs ys olds news n a b = ap length a ∙ length-row xs ∙ ap (λ k. 3 * k) n ∙ sym (ap length b ∙ length-row ys)

-- ---- the first word that differs

first-chosen : (a b c : Bool) (r f : ℕ) → r / 3 ≡ f
    → cond (not (not a)) (1 + cond (not (not b)) (1 + cond (not (not c)) (1 + r) 0) 0) 0 / 3 ≡ (if a && b && c then suc f else 0)
first-chosen true true true r f e = omega (arith, e)
first-chosen true true false r f e = omega arith
first-chosen true false c r f e = omega arith
first-chosen false b c r f e = omega arith

first-words : (xs ys : List Cell) → length xs ≡ length ys → AllByRecursion IsTold xs → AllByRecursion IsSmall ys
    → position_or_len words_differ (zip (row_words xs) (row_words ys)) / 3 ≡ first_difference xs ys
first-words [] [] n p q = omega arith
first-words [] (y ∷ ys) n p q = absurd (omega arith)
first-words (x ∷ xs) [] n p q = absurd (omega arith)
first-words (x ∷ xs) (y ∷ ys) n p q =
    ap₂ (λ ws vs. position_or_len words_differ (zip (ws ++ row_words xs) (vs ++ row_words ys)) / 3) (three-words x) (three-words y)
    ∙ first-chosen (word x 0 == word y 0) (word x 1 == word y 1) (word x 2 == word y 2) (position_or_len words_differ (zip (row_words xs) (row_words ys))) (first_difference xs ys)
    (first-words xs ys (omega arith) p.1 q.1)
    ∙ ap (λ b. if b then suc (first_difference xs ys) else 0) (words-same x y p.0 q.0)

-- ---- the last word that differs

-- the place after the last word that differs, and 0 where none does
abbrev end_of_words : List ℕ → List ℕ → ℕ
end_of_words = end_unlike (λ a b. a == b)

end-chosen : (a b c : Bool) (r f : ℕ) → (r + 2) / 3 ≡ f → (end_before a (end_before b (end_before c r)) + 2) / 3 ≡ end_before (a && b && c) f
end-chosen a b c (suc r) (suc f) e = omega (arith, e)
end-chosen a b c (suc r) zero e = absurd (omega (arith, e))
end-chosen a b c zero (suc f) e = absurd (omega (arith, e))
end-chosen true true true zero zero e = omega arith
end-chosen true true false zero zero e = omega arith
end-chosen true false true zero zero e = omega arith
end-chosen true false false zero zero e = omega arith
end-chosen false true true zero zero e = omega arith
end-chosen false true false zero zero e = omega arith
end-chosen false false true zero zero e = omega arith
end-chosen false false false zero zero e = omega arith

end-words : (xs ys : List Cell) → length xs ≡ length ys → AllByRecursion IsTold xs → AllByRecursion IsSmall ys
    → (end_of_words (row_words xs) (row_words ys) + 2) / 3 ≡ end_of_differences xs ys
end-words [] [] n p q = omega arith
end-words [] (y ∷ ys) n p q = absurd (omega arith)
end-words (x ∷ xs) [] n p q = absurd (omega arith)
end-words (x ∷ xs) (y ∷ ys) n p q =
    ap₂ (λ ws vs. (end_of_words (ws ++ row_words xs) (vs ++ row_words ys) + 2) / 3) (three-words x) (three-words y)
    ∙ end-chosen (word x 0 == word y 0) (word x 1 == word y 1) (word x 2 == word y 2) (end_of_words (row_words xs) (row_words ys)) (end_of_differences xs ys)
    (end-words xs ys (omega arith) p.1 q.1)
    ∙ ap (λ b. end_before b (end_of_differences xs ys)) (words-same x y p.0 q.0)

-- the last pair of words that differs tells the same
suffix-words : (xs ys : List Cell) → length xs ≡ length ys → AllByRecursion IsTold xs → AllByRecursion IsSmall ys → let ps = zip (row_words xs) (row_words ys) in
    (length ps - suffix_len (λ p. not (words_differ p)) ps + 2) / 3 ≡ end_of_differences xs ys
suffix-words xs ys n p q =
    let ws = row_words xs in
    let vs = row_words ys in
    let even = words-even xs ys ws vs n refl refl in
    let le = end_within (λ a b. a == b) ws vs in
    let long = length-zip ws vs in
    let pair = λ (k : ℕ) (lt : k < length vs). ap (λ p. not (words_differ p)) (get_or-zip ws vs k (0, 0) (omega (arith, lt, even)) lt) in
    let suffix = suffix_len_is (λ p. not (words_differ p)) (zip ws vs) (end_of_words ws vs) (0, 0) (omega (arith, le, long, even))
    (λ k from lt. let past : k < length vs = omega (arith, lt, long, even) in pair k past ∙ ap (λ b. not (not b)) (behind-last (λ a b. a == b) k 0 ws vs even past from))
    (λ some. pair (end_of_words ws vs - 1) (omega (arith, some, le)) ∙ ap (λ b. not (not b)) (last-differs (λ a b. a == b) 0 ws vs (end_of_words ws vs - 1) (omega (arith, some)))) in
    omega (arith, suffix, le, long, even, end-words xs ys n p q)

-- ---- the columns

columns-some : (xs ys : List Cell) → length xs ≡ length ys → AllByRecursion IsTold xs → AllByRecursion IsSmall ys
    → (first last : ℕ) → Some first ≡ first_word (row_words xs) (row_words ys) → Some last ≡ last_word (row_words xs) (row_words ys)
    → let found : Columns = record { from = first / 3; end = last / 3 + 1 } in Some found ≡ differing_columns xs ys
columns-some xs ys n p q first last f l =
    let ps = zip (row_words xs) (row_words ys) in
    let from = cond_some (nat_lt (position_or_len words_differ ps) (length ps)) (position_or_len words_differ ps) first (sym f) in
    let behind = cond_some (nat_lt (suffix_len (λ p. not (words_differ p)) ps) (length ps)) (length ps - suffix_len (λ p. not (words_differ p)) ps - 1) last (sym l) in
    let lt : suffix_len (λ p. not (words_differ p)) (zip (row_words xs) (row_words ys)) < length (zip (row_words xs) (row_words ys)) = grind (arith, nat_tests) in
    let end = suffix-words xs ys n p q in
    let e : last / 3 + 1 ≡ end_of_differences xs ys = omega (arith, behind.1, end, lt) in
    let b : first / 3 ≡ first_difference xs ys = ap (λ k. k / 3) (sym from.1) ∙ first-words xs ys n p q in
    let differ : nat_lt 0 (end_of_differences xs ys) ≡ true = grind (arith, nat_tests) in
    rw differ (λ i. Some (record { from = b i; end = e i }))

none-differ : (xs ys : List Cell) → end_of_differences xs ys ≡ 0 → None ≡ differing_columns xs ys
none-differ xs ys e = rw e refl

columns-none-last : (xs ys : List Cell) → length xs ≡ length ys → AllByRecursion IsTold xs → AllByRecursion IsSmall ys
    → None ≡ last_word (row_words xs) (row_words ys) → None ≡ differing_columns xs ys
columns-none-last xs ys n p q l =
    let ps = zip (row_words xs) (row_words ys) in
    let none = (none-chosen (nat_lt (suffix_len (λ p. not (words_differ p)) ps) (length ps)) (length ps - suffix_len (λ p. not (words_differ p)) ps - 1) None (sym l)).0 in
    let ge : length (zip (row_words xs) (row_words ys)) ≤ suffix_len (λ p. not (words_differ p)) (zip (row_words xs) (row_words ys)) = grind (arith, nat_tests) in
    none-differ xs ys (omega (arith, ge, suffix-words xs ys n p q))

columns-none-first : (xs ys : List Cell) → length xs ≡ length ys → AllByRecursion IsTold xs → AllByRecursion IsSmall ys
    → None ≡ first_word (row_words xs) (row_words ys) → None ≡ differing_columns xs ys
columns-none-first xs ys n p q f =
    let ps = zip (row_words xs) (row_words ys) in
    let none = (none-chosen (nat_lt (position_or_len words_differ ps) (length ps)) (position_or_len words_differ ps) None (sym f)).0 in
    let ge : length (zip (row_words xs) (row_words ys)) ≤ position_or_len words_differ (zip (row_words xs) (row_words ys)) = grind (arith, nat_tests) in
    let first : length ys ≤ first_difference xs ys = omega (arith, ge, length-zip (row_words xs) (row_words ys), length-row xs, length-row ys, first-words xs ys n p q, n) in
    elim (cases_eq (end_of_differences xs ys) 0) [
      | inl same ↦ none-differ xs ys same
      | inr some ↦ absurd (omega (arith, first, end_within same_cell xs ys, first_before xs ys (omega (arith, some))))
    ]

columns-chosen : (xs ys : List Cell) → length xs ≡ length ys → AllByRecursion IsTold xs → AllByRecursion IsSmall ys
    → (first last : Option ℕ) → first ≡ first_word (row_words xs) (row_words ys) → last ≡ last_word (row_words xs) (row_words ys) → columns_from first last ≡ differing_columns xs ys
columns-chosen xs ys n p q (Some first) (Some last) f l = columns-some xs ys n p q first last f l
columns-chosen xs ys n p q (Some first) None f l = columns-none-last xs ys n p q l
columns-chosen xs ys n p q None last f l = columns-none-first xs ys n p q f

-- the words tell the columns
pub columns-told : (xs ys : List Cell) (olds news : List ℕ) → length xs ≡ length ys → olds ≡ row_words xs → news ≡ row_words ys
    → AreTold xs → All IsSmall xs → All IsSmall ys → columns_of_words olds news ≡ differing_columns xs ys
columns-told xs ys olds news n a b told small other =
    let each = recursion_from_All IsTold xs (λ k d lt. (small k d lt, (told k d lt).1)) in
    ap₂ columns_of_words a b
    ∙ columns-chosen xs ys n each (recursion_from_All IsSmall ys other) (first_word (row_words xs) (row_words ys)) (last_word (row_words xs) (row_words ys)) refl refl

-- ---- words that are read one after another

-- the words of one more cell
pub read-more : (cells : List Cell) (i : ℕ) (x : Cell) (words before after : List ℕ) → i < length cells → x ≡ get_or cells i x → words ≡ words_of x
    → before ≡ row_words (take i cells) → after ≡ before ++ words → after ≡ row_words (take (i + 1) cells)
read-more cells i x words before after lt here w b e =
    e
    ∙ ap₂ (λ ws vs. ws ++ vs) b w
    ∙ ap (λ ws. row_words (take i cells) ++ ws) (sym (append-nil (words_of x)))
    ∙ sym (flat_map-append words_of (take i cells) (x ∷ []))
    ∙ ap (λ y. row_words (take i cells ++ y ∷ [])) here
    ∙ ap row_words (sym (take_more cells i x lt))

-- one more cell that its words tell
pub told-more : (cells : List Cell) (i : ℕ) (x : Cell) → i < length cells → x ≡ get_or cells i x → AreTold (take i cells) → IsColoured x × AreOnlyOf x (words_of x) → AreTold (take (i + 1) cells)
told-more cells i x lt here before told =
    let IsOwn : Cell → Type 0 = λ c. IsColoured c × AreOnlyOf c (words_of c) in
    let all = All-append IsOwn (take i cells) (x ∷ []) before (All-from_recursion IsOwn (x ∷ []) (told, tt)) in
    subst (λ cs. AreTold cs) (ap (λ y. take i cells ++ y ∷ []) here ∙ sym (take_more cells i x lt)) all

-- Texts and ops that are added one by one.
use Rattle.std.proofs.Common.{◌≡◌, append-nil, ℕ, zero, suc, ◌+◌, ◌*◌, ◌%◌, List, [], ◌∷◌, ◌++◌, refl, sym, ap, ◌∙◌, arith, append_assoc, replicate, get_or, codes}
use Rattle.std.specs.Char.{encode_utf8}
use Rattle.std.specs.List.{flat_map, range_with_len}
use Rattle.std.proofs.lemmas.Grind.{flat_map-append}
use Rattle.std.proofs.lemmas.List.{flat_map_more, replicate_more}
use Rattle.rd_base.proofs.Lists.{range-more}
use Rattle.rd_generate.specs.Generated.{after, choice, templates, number, text_line, lines_from, spelled, spelling, hundred, insertion, hundreds, shown, redisplay}

-- what was added for one more number
pub more : {A : Type 0} (f : ℕ → List A) (old now new : List A) (n : ℕ) → now ≡ old ++ flat_map f (range_with_len 0 n) → new ≡ now ++ f n
    → new ≡ old ++ flat_map f (range_with_len 0 (n + 1))
more f old now new n was is =
    is ∙ (ap (λ l. l ++ f n) was ∙ (flat_map_more f old (range_with_len 0 n) n ∙ ap (λ xs. old ++ flat_map f xs) (range-more 0 n n (omega arith))))

-- an op and a redisplay were added
pub shown-more : (op : List ℕ) (old now between new : List (List ℕ)) (n : ℕ) → now ≡ old ++ shown n op → between ≡ now ++ op ∷ [] → new ≡ between ++ redisplay ∷ []
    → new ≡ old ++ shown (n + 1) op
unfolding shown
shown-more op old now between new n was first second =
    let f : List ℕ → List (List ℕ) = λ line. line ∷ redisplay ∷ [] in
    second ∙ (ap (λ l. l ++ redisplay ∷ []) first ∙ (append_assoc now (op ∷ []) (redisplay ∷ []) ∙ (ap (λ l. l ++ op ∷ redisplay ∷ []) was
    ∙ (flat_map_more f old (replicate n op) op ∙ ap (λ xs. old ++ flat_map f xs) (replicate_more n op)))))

spelled-spaces : (n : ℕ) → spelling (replicate n 32) ≡ replicate n 32
unfolding encode_utf8
spelled-spaces zero = refl
spelled-spaces (suc n) = ap (λ l. 32 ∷ l) (spelled-spaces n)

-- a piece was added to what was added
glue : {A : Type 0} (old xs x now new : List A) → new ≡ now ++ x → now ≡ old ++ xs → new ≡ old ++ (xs ++ x)
glue old xs x now new e is = e ∙ (ap (λ l. l ++ x) is ∙ append_assoc old xs x)

-- a line of the text was added in three pieces
pub line-pieces : (k x : ℕ) (template old spaced chosen new : List ℕ) → spaced ≡ old ++ replicate (2 * (k % 5)) 32 → template ≡ spelling (get_or templates (choice x) [])
    → chosen ≡ spaced ++ template → new ≡ chosen ++ codes "\\n" → new ≡ old ++ spelling ((replicate (2 * (k % 5)) 32 ++ get_or templates (choice x) []) ++ 10 ∷ [])
line-pieces k x template old spaced chosen new first is second third =
    let spaces : List ℕ = replicate (2 * (k % 5)) 32 in
    let letters : List ℕ = get_or templates (choice x) [] in
    let end : List ℕ = 10 ∷ [] in
    let whole : spelling ((spaces ++ letters) ++ end) ≡ (spaces ++ template) ++ codes "\\n" =
    flat_map-append spelled (spaces ++ letters) end
    ∙ ap (λ l. l ++ codes "\\n") (flat_map-append spelled spaces letters ∙ (ap (λ l. l ++ spelling letters) (spelled-spaces (2 * (k % 5))) ∙ ap (λ l. spaces ++ l) (sym is))) in
    glue old (spaces ++ template) (codes "\\n") chosen new third (glue old spaces template spaced chosen second first) ∙ ap (λ l. old ++ l) (sym whole)

-- one more line of a text was added
pub lines-more : (k x n : ℕ) (old now new : List ℕ) → now ≡ old ++ spelling (lines_from k x n) → new ≡ now ++ spelling (text_line (k + n) (number x (n + 1)))
    → new ≡ old ++ spelling (lines_from k x (n + 1))
unfolding lines_from
lines-more k x n old now new was is =
    let line = text_line (k + n) (number x (n + 1)) in
    let whole : lines_from k x n ++ line ≡ lines_from k x (n + 1) =
    flat_map_more (λ i. text_line (k + i) (number x (i + 1))) [] (range_with_len 0 n) n ∙ ap (flat_map (λ i. text_line (k + i) (number x (i + 1)))) (range-more 0 n n (omega arith)) in
    is ∙ (ap (λ l. l ++ spelling line) was ∙ (append_assoc old (spelling (lines_from k x n)) (spelling line)
    ∙ ap (λ l. old ++ l) (sym (flat_map-append spelled (lines_from k x n) line) ∙ ap spelling whole)))

-- the numbers behind a later one
number-later : (seed m n : ℕ) → number (number seed m) n ≡ number seed (m + n)
unfolding number
number-later seed m zero = let e : m ≡ m + 0 = omega arith in ap (number seed) e
number-later seed m (suc n) = let e : suc (m + n) ≡ m + suc n = omega arith in ap after (number-later seed m n) ∙ ap (number seed) e

pub number-hundred : (seed j x : ℕ) → x ≡ number seed (100 * j) → number x 100 ≡ number seed (100 * (j + 1))
number-hundred seed j x is =
    let e : 100 * j + 100 ≡ 100 * (j + 1) = omega arith in
    ap (λ x. number x 100) is ∙ (number-later seed (100 * j) 100 ∙ ap (number seed) e)

-- one more hundred of lines was added
pub insertions-more : (seed j x : ℕ) (line : List ℕ) (old now between new : List (List ℕ)) → x ≡ number seed (100 * j)
    → line ≡ insertion j (lines_from (100 * j) x 100) → now ≡ old ++ hundreds seed j → between ≡ now ++ line ∷ [] → new ≡ between ++ redisplay ∷ []
    → new ≡ old ++ hundreds seed (j + 1)
unfolding hundreds
insertions-more seed j x line old now between new is made was first second =
    let same : line ≡ insertion j (hundred seed j) = made ∙ ap (λ x. insertion j (lines_from (100 * j) x 100)) is in
    more (λ j. insertion j (hundred seed j) ∷ redisplay ∷ []) old now new j was
    (second ∙ (ap (λ l. l ++ redisplay ∷ []) first ∙ (append_assoc now (line ∷ []) (redisplay ∷ []) ∙ ap (λ line. now ++ line ∷ redisplay ∷ []) same)))

-- the first of no lines, and the next number
pub none-from : (k x : ℕ) (line : List ℕ) → line ≡ line ++ spelling (lines_from k x 0)
unfolding lines_from
none-from k x line = sym (append-nil line)

pub number-zero : (x : ℕ) → x ≡ number x 0
unfolding number
number-zero x = refl

pub number-next : (x n last next : ℕ) → last ≡ number x n → next ≡ after last → next ≡ number x (n + 1)
unfolding number
number-next x n last next was is = let e : suc n ≡ n + 1 = omega arith in is ∙ (ap after was ∙ ap (number x) e)

pub none-hundred : (seed : ℕ) (lines : List (List ℕ)) → lines ≡ lines ++ hundreds seed 0
unfolding hundreds
none-hundred seed lines = sym (append-nil lines)

pub none-shown : (op : List ℕ) (lines : List (List ℕ)) → lines ≡ lines ++ shown 0 op
unfolding shown
none-shown op lines = sym (append-nil lines)

-- a text that was made in five pieces
pub five-made : (l0 l1 l2 l3 l4 l5 a b c d e : List ℕ) → l1 ≡ l0 ++ a → l2 ≡ l1 ++ b → l3 ≡ l2 ++ c → l4 ≡ l3 ++ d → l5 ≡ l4 ++ e → l5 ≡ l0 ++ ((((a ++ b) ++ c) ++ d) ++ e)
five-made l0 l1 l2 l3 l4 l5 a b c d e p q r s t =
    glue l0 (((a ++ b) ++ c) ++ d) e l4 l5 t (glue l0 ((a ++ b) ++ c) d l3 l4 s (glue l0 (a ++ b) c l2 l3 r (glue l0 a b l1 l2 q p)))

-- a script that was made in eight pieces
pub script-made : (l0 l1 l2 l3 l4 l5 l6 l7 l8 m n o p q : List (List ℕ)) (a b c : List ℕ)
    → l0 ≡ [] → l1 ≡ l0 ++ a ∷ [] → l2 ≡ l1 ++ b ∷ [] → l3 ≡ l2 ++ c ∷ [] → l4 ≡ l3 ++ m → l5 ≡ l4 ++ n → l6 ≡ l5 ++ o → l7 ≡ l6 ++ p → l8 ≡ l7 ++ q
    → l8 ≡ ((a ∷ b ∷ c ∷ []) ++ m) ++ (((n ++ o) ++ p) ++ q)
script-made l0 l1 l2 l3 l4 l5 l6 l7 l8 m n o p q a b c e0 e1 e2 e3 e4 e5 e6 e7 e8 =
    let first : l3 ≡ a ∷ b ∷ c ∷ [] = e3 ∙ ap (λ l. l ++ c ∷ []) (e2 ∙ ap (λ l. l ++ b ∷ []) (e1 ∙ ap (λ l. l ++ a ∷ []) e0)) in
    let fourth : l4 ≡ (a ∷ b ∷ c ∷ []) ++ m = e4 ∙ ap (λ l. l ++ m) first in
    glue l4 ((n ++ o) ++ p) q l7 l8 e8 (glue l4 (n ++ o) p l6 l7 e7 (glue l4 n o l5 l6 e6 e5)) ∙ ap (λ l. l ++ (((n ++ o) ++ p) ++ q)) fourth

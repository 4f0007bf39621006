-- Texts that are put into a buffer one behind the other.
use Rattle.std.proofs.Common.{◌≡◌, ◌⊎◌, ℕ, ◌+◌, ◌-◌, ◌<◌, ◌≤◌, Bool, true, false, Some, None, List, [], ◌∷◌, ◌++◌, length, append_assoc, length-append, length-drop, take, drop, map, get_or, set, refl, sym, ap, ◌∙◌, arith, min, inl, inr}
use Rattle.std.specs.Prelude.{nat_le, if◌then◌else◌, slice_get}
use Rattle.std.specs.List.{concat}
use Rattle.std.proofs.lemmas.Bool.Decides.{nat_tests}
use Rattle.std.proofs.lemmas.List.{length-take, length-map, take-append-le, take-append-drop, take-map, take_more, take_more_set, drop-append-le, drop-drop, drop-set-lt, length-take-le, drop_all, append-nil, map_push}
use Rattle.std.proofs.lemmas.List.Folds.{concat-append}
use Rattle.std.proofs.Math.Seq.{take-length, drop-append-add, take-append-add, take-append_seam, drop-append_seam}
use Rattle.rd_base.proofs.Choices.{by-range, either}
use Rattle.rd_base.proofs.Lists.{drop-at, take-at}
use Rattle.rd_embed.specs.Fills.{Fills, FillsWhole, fitted, fitting}

-- ---- a list at a seam

seam-take : (at : ℕ) (xs ys : List ℕ) → length xs ≡ at → take at (xs ++ ys) ≡ xs
seam-take at xs ys e = ap (λ n. take n (xs ++ ys)) (sym e) ∙ take-append_seam xs ys

seam-drop : (at n : ℕ) (xs ys : List ℕ) → length xs ≡ at → drop (at + n) (xs ++ ys) ≡ drop n ys
seam-drop at n xs ys e = ap (λ m. drop (m + n) (xs ++ ys)) (sym e) ∙ drop-append-add xs ys n

-- a piece that was put over a list's rest from a seam on
over-seam : (at : ℕ) (front rest piece out : List ℕ) → length front ≡ at → out ≡ front ++ rest
    → take at out ++ (piece ++ drop (at + length piece) out) ≡ (front ++ piece) ++ drop (length piece) rest
over-seam at front rest piece out e is =
    (λ i. take at (is i) ++ (piece ++ drop (at + length piece) (is i)))
    ∙ (λ i. seam-take at front rest e i ++ (piece ++ seam-drop at (length piece) front rest e i))
    ∙ sym (append_assoc front piece (drop (length piece) rest))

-- ---- as far as there is room

none-more : (at : ℕ) (text bytes : List ℕ) → at ≤ length text → take (at + 0) (text ++ bytes) ≡ take at text ++ []
none-more at text bytes within =
    let e : at + 0 ≡ at = omega arith in
    ap (λ n. take n (text ++ bytes)) e ∙ take-append-le at text bytes within ∙ sym (append-nil (take at text))

-- what more of a text gives, where all of its first part is there or no more is taken
more-taken : (at count : ℕ) (text bytes : List ℕ) → at ≤ length text → (at < length text → count ≡ 0) → take (at + count) (text ++ bytes) ≡ take at text ++ take count bytes
more-taken at count text bytes within none = by-range at (length text) at
    (λ p. absurd (omega arith))
    (λ p q. ap (λ n. take (at + n) (text ++ bytes)) (none q) ∙ none-more at text bytes within ∙ ap (λ n. take at text ++ take n bytes) (sym (none q)))
    (λ p q. let e : length text ≡ at = omega arith in
    ap (λ n. take (n + count) (text ++ bytes)) (sym e) ∙ take-append-add text bytes count ∙ ap (λ xs. xs ++ take count bytes) (sym (take-length text) ∙ ap (λ n. take n text) e))

pub filled-behind : (at count : ℕ) (text before bytes mid after : List ℕ) → Fills at text before mid → count ≡ min (length bytes) (length mid - at)
    → after ≡ take at mid ++ (take count bytes ++ drop (at + length (take count bytes)) mid) → Fills (at + count) (text ++ bytes) before after
filled-behind at count text before bytes mid after old told new =
    let w : at ≤ length text = omega (arith, old.told) in
    let v : at ≤ length before = omega (arith, old.told) in
    let t : length (take at text) ≡ at = length-take-le at text w in
    let d : length (drop at before) ≡ length before - at = length-drop at before in
    let m : length mid ≡ at + (length before - at) = ap length old.front ∙ length-append (take at text) (drop at before) ∙ (λ i. t i + d i) in
    let few : count ≤ length bytes = omega (arith, told) in
    let c : length (take count bytes) ≡ count = length-take-le count bytes few in
    let none : at < length text → count ≡ 0 = λ p. omega (arith, old.told, told, m) in
    record {
      told = let l = length-append text bytes in omega (arith, old.told, told, m, l);
      front = new ∙ over-seam at (take at text) (drop at before) (take count bytes) mid t old.front
          ∙ (λ i. sym (more-taken at count text bytes w none) i ++ drop (c i) (drop at before))
          ∙ ap (λ xs. take (at + count) (text ++ bytes) ++ xs) (drop-drop count at before);
    }

-- ---- as many as fit whole

-- what was put in so far: so many texts with so many bytes, and the rest of the buffer is as it was
pub record IsFilled (texts : List (List ℕ)) (before : List ℕ) (count bytes : ℕ) (now : List ℕ) : Type 0 where
  pub within : count ≤ length texts
  pub room : bytes ≤ length before
  pub size : length (concat (take count texts)) ≡ bytes
  pub front : now ≡ concat (take count texts) ++ drop bytes before
  pub rest : fitting (length before) texts ≡ count + fitting (length before - bytes) (drop count texts)

fits : (room : ℕ) (text : List ℕ) (texts : List (List ℕ)) → length text ≤ room → fitting room (text ∷ texts) ≡ 1 + fitting (room - length text) texts
fits room text texts p = grind (arith, nat_tests)

fits-not : (room : ℕ) (text : List ℕ) (texts : List (List ℕ)) → room < length text → fitting room (text ∷ texts) ≡ 0
fits-not room text texts p = grind (arith, nat_tests)

more-bytes : (texts : List (List ℕ)) (k : ℕ) (text : List ℕ) → slice_get texts k ≡ Some text → concat (take (k + 1) texts) ≡ concat (take k texts) ++ text
more-bytes texts k text at = ap concat (take-at texts k text at) ∙ concat-append (take k texts) (text ∷ []) ∙ ap (λ xs. concat (take k texts) ++ xs) (append-nil text)

next : (count size bytes more : ℕ) (texts : List (List ℕ)) → count + (1 + fitting (size - bytes - more) texts) ≡ count + 1 + fitting (size - (bytes + more)) texts
next count size bytes more texts =
    let e : size - bytes - more ≡ size - (bytes + more) = omega arith in
    ap (λ n. count + (1 + fitting n texts)) e ∙ omega arith

pub one-more : (texts : List (List ℕ)) (before : List ℕ) (count bytes : ℕ) (now text new : List ℕ) → IsFilled texts before count bytes now
    → slice_get texts count ≡ Some text → count < length texts → length text ≤ length before - bytes
    → new ≡ take bytes now ++ (text ++ drop (bytes + length text) now) → IsFilled texts before (count + 1) (bytes + length text) new
one-more texts before count bytes now text new old at within fit is = record {
  within = omega arith;
  room = omega (arith, old.room);
  size = ap length (more-bytes texts count text at) ∙ length-append (concat (take count texts)) text ∙ ap (λ n. n + length text) old.size;
  front = is ∙ over-seam bytes (concat (take count texts)) (drop bytes before) text now old.size old.front
      ∙ (λ i. sym (more-bytes texts count text at) i ++ drop-drop (length text) bytes before i);
  rest = old.rest ∙ ap (λ xs. count + fitting (length before - bytes) xs) (drop-at texts count text at)
      ∙ ap (λ n. count + n) (fits (length before - bytes) text (drop (count + 1) texts) fit)
      ∙ next count (length before) bytes (length text) (drop (count + 1) texts);
}

pub none-fits : (texts : List (List ℕ)) (before : List ℕ) (count bytes : ℕ) (now text : List ℕ) → IsFilled texts before count bytes now
    → slice_get texts count ≡ Some text → length before - bytes < length text → fitting (length before) texts ≡ count
none-fits texts before count bytes now text old at over =
    let e = old.rest ∙ ap (λ xs. count + fitting (length before - bytes) xs) (drop-at texts count text at) ∙ ap (λ n. count + n) (fits-not (length before - bytes) text (drop (count + 1) texts) over) in
    omega (arith, e)

pub all-fit : (texts : List (List ℕ)) (before : List ℕ) (count bytes : ℕ) (now : List ℕ) → IsFilled texts before count bytes now
    → length texts ≤ count → fitting (length before) texts ≡ count
all-fit texts before count bytes now old past =
    let e : fitting (length before) texts ≡ count + 0 = old.rest ∙ ap (λ xs. count + fitting (length before - bytes) xs) (drop_all count texts past) in
    omega (arith, e)

pub whole-filled : (texts : List (List ℕ)) (before : List ℕ) (count bytes : ℕ) (now : List ℕ) → IsFilled texts before count bytes now
    → fitting (length before) texts ≡ count → FillsWhole bytes texts before now
whole-filled texts before count bytes now old is = record {
  told = sym old.size ∙ ap (λ n. length (concat (take n texts))) (sym is);
  front = old.front ∙ ap (λ n. concat (take n texts) ++ drop bytes before) (sym is);
}

-- no more texts fit than there are
pub fitting-few : (room : ℕ) (texts : List (List ℕ)) → fitting room texts ≤ length texts
fitting-few room [] = omega arith
fitting-few room (text ∷ texts) =
    let h = fitting-few (room - length text) texts in
    either (λ (n : ℕ). n ≤ length (text ∷ texts)) (nat_le (length text) room) (1 + fitting (room - length text) texts) 0 (omega (arith, h)) (omega arith)

-- ---- cells that are told one after the other

pub told-more : {X Y : Type 0} (f : X → Y) (xs : List X) (out before : List Y) (i : ℕ) (x : X) → i < length xs → i < length out → x ≡ get_or xs i x → take i out ≡ map f (take i xs)
    → take (i + 1) (set out i (f x)) ≡ map f (take (i + 1) xs)
told-more f xs out before i x within room is front =
    take_more_set out i (f x) room ∙ ap (λ ys. ys ++ f x ∷ []) front
    ∙ sym (ap (map f) (take_more xs i x within ∙ ap (λ y. take i xs ++ y ∷ []) (sym is)) ∙ map_push f (take i xs) x)

pub rest-more : {Y : Type 0} (out before : List Y) (i : ℕ) (y : Y) → drop i out ≡ drop i before → drop (i + 1) (set out i y) ≡ drop (i + 1) before
rest-more out before i y rest = drop-set-lt (i + 1) out i y (omega arith) ∙ sym (drop-drop 1 i out) ∙ ap (drop 1) rest ∙ drop-drop 1 i before

pub all-told : {X Y : Type 0} (f : X → Y) (xs : List X) (out before : List Y) (i count : ℕ) → i ≡ count → count ≡ min (length xs) (length before) → take i out ≡ map f (take i xs) → drop i out ≡ drop i before
    → Fills count (map f xs) before out
all-told f xs out before i count e told front rest = record {
  told = let l = length-map xs f in omega (arith, told, l);
  front = sym (take-append-drop i out) ∙ (λ j. front j ++ rest j) ∙ ap (λ n. map f (take n xs) ++ drop n before) e ∙ ap (λ ys. ys ++ drop count before) (sym (take-map f count xs));
}

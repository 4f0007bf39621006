-- Ranges of a list: where a gap is left out of it, by the parts that begin and end them, and what searches and counts find in them.
use Rattle.std.proofs.Common.{◌≡◌, ℕ, ◌+◌, ◌-◌, ◌<◌, ◌≤◌, Bool, List, [], ◌++◌, length, get_or, take, drop, refl, sym, ap, ◌∙◌, arith}
use Rattle.std.specs.Prelude.{slice_range}
use Rattle.std.specs.List.{count_by, prefix_len, suffix_len}
use Rattle.std.proofs.Math.Seq.{take-add}
use Rattle.std.proofs.lemmas.Bool.{eq-eqb, ne_eqb, cond-true, cond-false}
use Rattle.std.proofs.lemmas.List.{drop-drop, length-take-le, ext_get_or, get_or_append_left, get_or-append_right, get_or-take, get_or-drop, reverse-append, length-reverse}
use Rattle.std.proofs.lemmas.List.Edits.{length-between, get_or-between}
use Rattle.std.proofs.lemmas.List.Folds.{prefix_len-append}
use Rattle.std.proofs.Common.{reverse}
use Rattle.rd_base.proofs.Lists.{count-append, length-replaced}
use Rattle.rd_text.specs.Pieces.{IsPart}

pub range_split : (xs : List ℕ) (from mid to : ℕ) → from ≤ mid → mid ≤ to → slice_range xs from to ≡ slice_range xs from mid ++ slice_range xs mid to
range_split xs from mid to low high =
    let whole : to - from ≡ (mid - from) + (to - mid) = omega arith in
    let place : from + (mid - from) ≡ mid = omega arith in
    ap (λ (n : ℕ). take n (drop from xs)) whole ∙ take-add (mid - from) (to - mid) (drop from xs)
    ∙ ap (λ (ys : List ℕ). take (mid - from) (drop from xs) ++ take (to - mid) ys) (drop-drop (mid - from) from xs ∙ ap (λ (n : ℕ). drop n xs) place)

pub range_none : (xs : List ℕ) (from to : ℕ) → to ≤ from → slice_range xs from to ≡ []
range_none xs from to none = let e : to - from ≡ 0 = omega arith in ap (λ (n : ℕ). take n (drop from xs)) e

-- ranges of two lists that agree place by place
pub range_same : (xs ys : List ℕ) (a b c d : ℕ) → a ≤ b → b - a ≡ d - c → c ≤ d → b ≤ length xs → d ≤ length ys
    → ((k : ℕ) → a + k < b → get_or xs (a + k) 0 ≡ get_or ys (c + k) 0) → slice_range xs a b ≡ slice_range ys c d
range_same xs ys a b c d ab size cd bx dy same =
    let lx = length-between xs a b bx in
    let ly = length-between ys c d dy in
    ext_get_or 0 (slice_range xs a b) (slice_range ys c d) (omega arith)
    (λ k less. get_or-between xs a b k 0 (omega arith) ∙ same k (omega arith) ∙ sym (get_or-between ys c d k 0 (omega arith)))

-- a list without what stands at the places of a gap
module _ (xs : List ℕ) (front back : ℕ) (order : front ≤ back) (within : back ≤ length xs) where
  pub length-gap : length (take front xs ++ drop back xs) ≡ front + (length xs - back)
  length-gap = length-replaced front back [] xs ∙ omega arith

  pub gap_front : (k d : ℕ) → k < front → get_or (take front xs ++ drop back xs) k d ≡ get_or xs k d
  gap_front k d less =
      let b : length (take front xs) ≡ front = length-take-le front xs (omega arith) in
      get_or_append_left (take front xs) (drop back xs) d k (omega arith) ∙ get_or-take front xs k d less

  pub gap_back : (k d : ℕ) → front ≤ k → get_or (take front xs ++ drop back xs) k d ≡ get_or xs (back + (k - front)) d
  gap_back k d more =
      let b : length (take front xs) ≡ front = length-take-le front xs (omega arith) in
      get_or-append_right (take front xs) (drop back xs) front k d b more ∙ get_or-drop back xs (k - front) d

  pub range_front : (from to : ℕ) → from ≤ to → to ≤ front → slice_range (take front xs ++ drop back xs) from to ≡ slice_range xs from to
  range_front from to low high =
      let size = length-gap in
      range_same (take front xs ++ drop back xs) xs from to from to low refl low (omega arith) (omega arith) (λ k less. gap_front (from + k) 0 (omega arith))

  pub range_back : (from to : ℕ) → front ≤ from → from ≤ to → to ≤ front + (length xs - back)
      → slice_range (take front xs ++ drop back xs) from to ≡ slice_range xs (from + (back - front)) (to + (back - front))
  range_back from to low order' high =
      let size = length-gap in
      range_same (take front xs ++ drop back xs) xs from to (from + (back - front)) (to + (back - front)) order' (omega arith) (omega arith) (omega arith) (omega arith)
      (λ k less. gap_back (from + k) 0 (omega arith) ∙ (let e : back + (from + k - front) ≡ from + (back - front) + k = omega arith in ap (λ (n : ℕ). get_or xs n 0) e))

-- a part that begins a range of the text, and one that ends it
pub record IsFirstPiece (text : List ℕ) (from to : ℕ) (piece : List ℕ) : Type 0 where
  pub fits : from + length piece ≤ to
  pub same : piece ≡ slice_range text from (from + length piece)

pub record IsLastPiece (text : List ℕ) (from to : ℕ) (piece : List ℕ) : Type 0 where
  pub fits : from + length piece ≤ to
  pub same : piece ≡ slice_range text (to - length piece) to

-- the part around the first place of a range begins it, and the one around the last place ends it
pub first_part : {text : List ℕ} {from to : ℕ} {piece : List ℕ} → IsPart text from from to piece → IsFirstPiece text from to piece
first_part {text} {from} {to} {piece} is =
    let begin : is.start ≡ from = omega (arith, is.first, is.before) in
    record { fits = omega (arith, begin, is.last); same = is.same ∙ ap (λ (n : ℕ). slice_range text n (n + length piece)) begin }

pub last_part : {text : List ℕ} {from to : ℕ} {piece : List ℕ} → IsPart text (to - 1) from to piece → IsLastPiece text from to piece
last_part {text} {from} {to} {piece} is =
    let end : is.start + length piece ≡ to = omega (arith, is.before, is.behind, is.last) in
    let begin : is.start ≡ to - length piece = omega (arith, end) in
    record { fits = omega (arith, end, is.first); same = is.same ∙ (ap (slice_range text is.start) end ∙ ap (λ (n : ℕ). slice_range text n to) begin) }

-- a range as the part that begins it and what follows, and as the part that ends it behind the rest
pub first_range : (xs : List ℕ) (from to : ℕ) (piece : List ℕ) → IsFirstPiece xs from to piece → slice_range xs from to ≡ piece ++ slice_range xs (from + length piece) to
first_range xs from to piece is =
    let fits = is.fits in
    range_split xs from (from + length piece) to (omega arith) fits ∙ ap (λ (ys : List ℕ). ys ++ slice_range xs (from + length piece) to) (sym is.same)

pub last_range : (xs : List ℕ) (from to : ℕ) (piece : List ℕ) → IsLastPiece xs from to piece → slice_range xs from to ≡ slice_range xs from (to - length piece) ++ piece
last_range xs from to piece is =
    let fits = is.fits in
    range_split xs from (to - length piece) to (omega arith) (omega arith) ∙ ap (λ (ys : List ℕ). slice_range xs from (to - length piece) ++ ys) (sym is.same)

-- searches that go on over a part, and that stop in it, and a count that goes on over it
pub prefix_goes : (p : ℕ → Bool) (xs : List ℕ) (at to : ℕ) (piece : List ℕ) (n : ℕ) → IsFirstPiece xs at to piece → n ≡ prefix_len p piece → n ≡ length piece
    → prefix_len p (slice_range xs at to) ≡ n + prefix_len p (slice_range xs (at + n) to)
prefix_goes p xs at to piece n is count size =
    rw size (ap (prefix_len p) (first_range xs at to piece is) ∙ prefix_len-append p piece (slice_range xs (at + length piece) to) ∙ cond-true _ _ _ (eq-eqb _ _ (sym count ∙ size)))

pub prefix_stops : (p : ℕ → Bool) (xs : List ℕ) (at to : ℕ) (piece : List ℕ) (n : ℕ) → IsFirstPiece xs at to piece → n ≡ prefix_len p piece → n < length piece
    → prefix_len p (slice_range xs at to) ≡ n
prefix_stops p xs at to piece n is count less =
    let apart : prefix_len p piece ≡ length piece → ⊥ = λ e. absurd (omega arith) in
    ap (prefix_len p) (first_range xs at to piece is) ∙ prefix_len-append p piece (slice_range xs (at + length piece) to) ∙ cond-false _ _ _ (ne_eqb _ _ apart) ∙ sym count

pub suffix_goes : (p : ℕ → Bool) (xs : List ℕ) (from at : ℕ) (piece : List ℕ) (n : ℕ) → IsLastPiece xs from at piece → n ≡ suffix_len p piece → n ≡ length piece
    → suffix_len p (slice_range xs from at) ≡ n + suffix_len p (slice_range xs from (at - n))
suffix_goes p xs from at piece n is count size =
    let rest = slice_range xs from (at - length piece) in
    let turned = length-reverse piece in
    let whole : prefix_len p (reverse piece) ≡ length (reverse piece) = omega arith in
    rw size (ap (suffix_len p) (last_range xs from at piece is) ∙ ap (prefix_len p) (reverse-append rest piece) ∙ prefix_len-append p (reverse piece) (reverse rest)
    ∙ cond-true _ _ _ (eq-eqb _ _ whole) ∙ ap (λ (n : ℕ). n + prefix_len p (reverse rest)) turned)

pub suffix_stops : (p : ℕ → Bool) (xs : List ℕ) (from at : ℕ) (piece : List ℕ) (n : ℕ) → IsLastPiece xs from at piece → n ≡ suffix_len p piece → n < length piece
    → suffix_len p (slice_range xs from at) ≡ n
suffix_stops p xs from at piece n is count less =
    let rest = slice_range xs from (at - length piece) in
    let turned = length-reverse piece in
    let apart : prefix_len p (reverse piece) ≡ length (reverse piece) → ⊥ = λ e. absurd (omega arith) in
    ap (suffix_len p) (last_range xs from at piece is) ∙ ap (prefix_len p) (reverse-append rest piece) ∙ prefix_len-append p (reverse piece) (reverse rest)
    ∙ cond-false _ _ _ (ne_eqb _ _ apart) ∙ sym count

pub count_goes : (p : ℕ → Bool) (xs : List ℕ) (at to : ℕ) (piece : List ℕ) (n : ℕ) → IsPart xs at at to piece → n ≡ length piece
    → count_by p (slice_range xs at to) ≡ count_by p piece + count_by p (slice_range xs (at + n) to)
count_goes p xs at to piece n is size =
    rw size (ap (count_by p) (first_range xs at to piece (first_part is)) ∙ count-append p piece (slice_range xs (at + length piece) to))

-- a part that lies together at places before the gap, and behind it
module _ (xs : List ℕ) (front back at from to : ℕ) (piece : List ℕ) (order : front ≤ back) (within : back ≤ length xs)
    (last : to ≤ length (take front xs ++ drop back xs)) where
  pub part_front : (stop : ℕ) → stop ≤ to → stop ≤ front → IsPart xs at from stop piece → IsPart (take front xs ++ drop back xs) at from to piece
  part_front stop inside before is =
      let end = is.last in
      let part = range_front xs front back order within is.start (is.start + length piece) (omega arith) (omega arith) in
      record { start = is.start; first = is.first; before = is.before; behind = is.behind; last = omega arith; same = is.same ∙ sym part }

  pub part_back : (begin : ℕ) → from ≤ begin → front ≤ begin → IsPart xs (at + (back - front)) (begin + (back - front)) (to + (back - front)) piece
      → IsPart (take front xs ++ drop back xs) at from to piece
  part_back begin inside behind is =
      let size = length-gap xs front back order within in
      let start : ℕ = is.start - (back - front) in
      let low : start + (back - front) ≡ is.start = omega (arith, is.first) in
      let high : start + length piece + (back - front) ≡ is.start + length piece = omega (arith, low) in
      let first : begin ≤ start = omega (arith, is.first) in
      let end : start + length piece ≤ to = omega (arith, high, is.last) in
      let part = range_back xs front back order within start (start + length piece) (omega arith) (omega arith) (omega arith) in
      record {
        start = start;
        first = omega arith;
        before = omega (arith, low, is.before);
        behind = omega (arith, low, is.behind);
        last = end;
        same = is.same ∙ sym (part ∙ (ap (λ (n : ℕ). slice_range xs n (start + length piece + (back - front))) low ∙ ap (slice_range xs is.start) high));
      }

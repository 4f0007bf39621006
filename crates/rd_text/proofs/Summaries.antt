-- What is kept of a stretch, character by character and part by part.
use Rattle.std.proofs.Common.{◌≡◌, ℕ, zero, suc, ◌-◌, ◌<◌, ltb, length, get_or, None, arith, Bool, true, false, not, ◌&&◌, ◌||◌, List, [], ◌∷◌, ◌++◌, refl, sym, ap, ◌∙◌}
use Rattle.std.specs.List.{list_all, list_any, position, position_or_len, suffix_len}
use Rattle.std.proofs.lemmas.List.Sums.{position_or_len_is, suffix_len_is, prefix_len-le-length, suffix_len-le-length}
use Rattle.std.proofs.lemmas.Bool.{ltb-false, or_parts}
use Rattle.rd_base.proofs.Choices.{none-chosen}
use Rattle.rd_lanes.specs.Kernels.{last_position}
use Rattle.rd_text.specs.Texts.{is_newline, is_blank}
use Rattle.rd_text.specs.Stretches.{opens, closes, separated}

-- how lists that are joined begin
begin_cases : (nl blank first all rest : Bool) → (nl || (blank && (first || (all && rest)))) ≡ ((nl || (blank && first)) || ((blank && all) && rest))
begin_cases true blank first all rest = refl
begin_cases false true first all rest = refl
begin_cases false false first all rest = refl

pub opens-append : (xs ys : List ℕ) → opens (xs ++ ys) ≡ (opens xs || (list_all is_blank xs && opens ys))
opens-append [] ys = refl
opens-append (c ∷ cs) ys =
    ap (λ b. is_newline c || (is_blank c && b)) (opens-append cs ys)
    ∙ begin_cases (is_newline c) (is_blank c) (opens cs) (list_all is_blank cs) (opens ys)

-- the cases of blanks alone between two newlines, where texts are put together
gap_cases : (nl first all rest inside ends later : Bool)
    → ((nl && (first || (all && rest))) || ((inside || (ends && rest)) || later)) ≡ ((((nl && first) || inside) || (((nl && all) || ends) && rest)) || later)
gap_cases false first all rest inside ends later = refl
gap_cases true true all rest inside ends later = refl
gap_cases true false false rest inside ends later = refl
gap_cases true false true true true ends later = refl
gap_cases true false true true false ends later = refl
gap_cases true false true false inside true later = refl
gap_cases true false true false inside false later = refl

pub separated-append : (xs ys : List ℕ) → separated (xs ++ ys) ≡ ((separated xs || (closes xs && opens ys)) || separated ys)
separated-append [] ys = refl
separated-append (c ∷ cs) ys =
    ap (λ b. (is_newline c && b) || separated (cs ++ ys)) (opens-append cs ys)
    ∙ ap (λ b. (is_newline c && (opens cs || (list_all is_blank cs && opens ys))) || b) (separated-append cs ys)
    ∙ gap_cases (is_newline c) (opens cs) (list_all is_blank cs) (opens ys) (separated cs) (closes cs) (separated ys)

-- where no element of a list passes a test, none at any place does
pub none_seen : (p : ℕ → Bool) (xs : List ℕ) (k : ℕ) → list_any p xs ≡ false → k < length xs → p (get_or xs k 0) ≡ false
none_seen p [] k e less = absurd (omega arith)
none_seen p (x ∷ xs) zero e less = (or_parts (p x) (list_any p xs) e).0
none_seen p (x ∷ xs) (suc k) e less = none_seen p xs k (or_parts (p x) (list_any p xs) e).1 (omega arith)

-- a search passes over a list of which no element passes
pub prefix_passes : (p : ℕ → Bool) (xs : List ℕ) → ((k : ℕ) → k < length xs → p (get_or xs k 0) ≡ false) → length xs ≡ position_or_len p xs
prefix_passes p xs fails = sym (position_or_len_is p xs (length xs) 0 (omega arith) fails (λ h. absurd (omega arith)))

pub suffix_passes : (p : ℕ → Bool) (xs : List ℕ) → ((k : ℕ) → k < length xs → p (get_or xs k 0) ≡ false) → length xs ≡ suffix_len (λ c. not (p c)) xs
suffix_passes p xs fails =
    let e = suffix_len_is (λ c. not (p c)) xs 0 0 (omega arith) (λ k low less. ap not (fails k less)) (λ h. absurd (omega arith)) in
    sym (e ∙ (let z : length xs - 0 ≡ length xs = omega arith in z))

-- where a search finds no place, it passed over the whole list
pub prefix_absent : (p : ℕ → Bool) (xs : List ℕ) → None ≡ position p xs → length xs ≡ position_or_len p xs
prefix_absent p xs e =
    let past = ltb-false (position_or_len p xs) (length xs) (none-chosen (ltb (position_or_len p xs) (length xs)) (position_or_len p xs) None (sym e)).0 in
    let bound = prefix_len-le-length (λ x. not (p x)) xs in
    omega arith

pub suffix_absent : (p : ℕ → Bool) (xs : List ℕ) → None ≡ last_position p xs → length xs ≡ suffix_len (λ c. not (p c)) xs
suffix_absent p xs e =
    let s = suffix_len (λ c. not (p c)) xs in
    let past = ltb-false s (length xs) (none-chosen (ltb s (length xs)) (length xs - s - 1) None (sym e)).0 in
    let bound = suffix_len-le-length (λ c. not (p c)) xs in
    omega arith

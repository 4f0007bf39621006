-- Characters before and behind an edit.
use Rattle.std.proofs.Common.{◌≡◌, ℕ, ◌+◌, ◌-◌, ◌<◌, ◌≤◌, Bool, true, false, if◌then◌else◌, List, ◌++◌, length, append_assoc, take, drop, None, refl, sym, ap, ◌∙◌, arith}
use Rattle.std.specs.Prelude.{nat_lt, nat_le, slice_get}
use Rattle.std.proofs.lemmas.Bool.Decides.{nat_tests}
use Rattle.std.proofs.lemmas.List.{length-take, length-append}
use Rattle.rd_base.proofs.Lists.{get-first, get-second, get-take, get-drop}
use Rattle.rd_text.specs.Texts.{TextValue, char_at, inserted, deleted}
use Rattle.rd_props.specs.Seen.{accessible_char}

char-by : (xs ys : List ℕ) (x y : ℕ) → (1 ≤ x → 1 ≤ y) → (1 ≤ y → 1 ≤ x) → (1 ≤ x → slice_get xs (x - 1) ≡ slice_get ys (y - 1))
    → (if nat_le 1 x then slice_get xs (x - 1) else None) ≡ (if nat_le 1 y then slice_get ys (y - 1) else None)
char-by xs ys x y to from same = by (nat_le 1 x) (nat_le 1 y) refl refl where
  by : (t u : Bool) → nat_le 1 x ≡ t → nat_le 1 y ≡ u → (if t then slice_get xs (x - 1) else None) ≡ (if u then slice_get ys (y - 1) else None)
  by true true ht hu = same (grind (arith, nat_tests))
  by true false ht hu = absurd (grind (arith, nat_tests))
  by false true ht hu = absurd (grind (arith, nat_tests))
  by false false ht hu = refl

-- what stands before an edit is read in the text's front, what stands behind it from where the rest begins
same-before : (t u : TextValue) (place x : ℕ) (rest : List ℕ) → u.text ≡ take (place - 1) t.text ++ rest → place ≤ length t.text + 1 → x < place → char_at t x ≡ char_at u x
same-before t u place x rest is within less =
    char-by t.text u.text x x (λ h. h) (λ h. h) (λ some.
    let front = length-take (place - 1) t.text in
    sym (ap (λ (xs : List ℕ). slice_get xs (x - 1)) is
    ∙ (get-first (take (place - 1) t.text) rest (x - 1) (omega arith) ∙ get-take (place - 1) t.text (x - 1) (omega arith))))

same-behind : (t u : TextValue) (front : List ℕ) (to x y : ℕ) → u.text ≡ front ++ drop (to - 1) t.text → 1 ≤ to → to ≤ x → y + to ≡ x + length front + 1 → char_at t x ≡ char_at u y
same-behind t u front to x y is first less place =
    char-by t.text u.text x y (λ h. omega arith) (λ h. omega arith) (λ some.
    sym (ap (λ (xs : List ℕ). slice_get xs (y - 1)) is
    ∙ (get-second front (drop (to - 1) t.text) (y - 1) (x - to) (omega arith) ∙ get-drop (to - 1) t.text (x - 1) (x - to) (omega arith))))

-- what is accessible reads the same at two positions of two texts, and neither end lies between them
pub record ReadsAlike (t : TextValue) (x : ℕ) (u : TextValue) (y : ℕ) : Type 0 where
  pub inside : nat_lt x t.end ≡ nat_lt y u.end
  pub character : accessible_char t x ≡ accessible_char u y
  pub to : x ≤ t.end → y ≤ u.end
  pub from : y ≤ u.end → x ≤ t.end

reads-by : (t u : TextValue) (x y : ℕ) → nat_lt x t.end ≡ nat_lt y u.end → char_at t x ≡ char_at u y → (x ≤ t.end → y ≤ u.end) → (y ≤ u.end → x ≤ t.end)
    → ReadsAlike t x u y
reads-by t u x y inside same to from = record { inside = inside; character = rw (inside, same); to = to; from = from }

pub inserted-reads-before : (t : TextValue) (place x : ℕ) (new : List ℕ) → place ≤ length t.text + 1 → place ≤ t.end → x < place → ReadsAlike t x (inserted t place new) x
inserted-reads-before t place x new within last less =
    reads-by t (inserted t place new) x x (grind (arith, nat_tests))
    (same-before t (inserted t place new) place x _ (append_assoc (take (place - 1) t.text) new (drop (place - 1) t.text)) within less) (λ h. omega arith) (λ h. omega arith)

pub inserted-reads-behind : (t : TextValue) (place x y : ℕ) (new : List ℕ) → 1 ≤ place → place ≤ length t.text + 1 → place ≤ x → x + length new ≡ y
    → ReadsAlike t x (inserted t place new) y
inserted-reads-behind t place x y new first within less is =
    reads-by t (inserted t place new) x y (grind (arith, nat_tests))
    (same-behind t (inserted t place new) (take (place - 1) t.text ++ new) place x y refl first less (omega (arith, is, length-append (take (place - 1) t.text) new, length-take (place - 1) t.text)))
    (λ h. omega arith) (λ h. omega arith)

pub deleted-reads-before : (t : TextValue) (from to x : ℕ) → from ≤ length t.text + 1 → from ≤ to → to ≤ t.end → x < from → ReadsAlike t x (deleted t from to) x
deleted-reads-before t from to x within ordered last less =
    reads-by t (deleted t from to) x x (grind (arith, nat_tests)) (same-before t (deleted t from to) from x _ refl within less) (λ h. omega arith) (λ h. omega arith)

pub deleted-reads-behind : (t : TextValue) (from to x y : ℕ) → 1 ≤ from → from ≤ to → from ≤ length t.text + 1 → to ≤ t.end → from ≤ y → y + (to - from) ≡ x
    → ReadsAlike t x (deleted t from to) y
deleted-reads-behind t from to x y first ordered within last less is =
    reads-by t (deleted t from to) x y (grind (arith, nat_tests))
    (same-behind t (deleted t from to) (take (from - 1) t.text) to x y refl (omega arith) (omega arith) (omega (arith, is, length-take (from - 1) t.text))) (λ h. omega arith) (λ h. omega arith)

-- At so many positions as one likes stand at most two strings of each overlay.
use Rattle.std.proofs.Common.{◌≡◌, ℕ, zero, suc, ◌+◌, ◌*◌, ◌≤◌, ◌==◌, nat_le, Bool, true, false, if◌then◌else◌, List, [], ◌∷◌, ◌++◌, length, map, reverse, length-append, Option, None, Some, refl, ap, ◌∙◌, arith}
use Rattle.std.specs.Option.{option_to_list}
use Rattle.std.proofs.lemmas.Bool.Decides.{nat_tests}
use Rattle.std.proofs.lemmas.List.{reverse-append}
use Rattle.rd_base.proofs.Choices.{either}
use Rattle.rd_base.proofs.Lists.{total-append}
use Rattle.rd_base.specs.Lists.{total}
use Rattle.rd_overlays.specs.declared.overlay.Overlay.{Overlay}
use Rattle.rd_overlays.specs.declared.overlay.Kind.TheVariants.{Before, After}
use Rattle.rd_overlays.specs.Overlays.{overlay_at, starting, ending, placed, ranked_from, number_of_rank}
use Rattle.rd_overlays.proofs.Listed.{placed-by}
use Rattle.rd_props.specs.Buffers.{BufferValue}
use Rattle.rd_props.specs.Values.{value_of}
use Rattle.rd_props.specs.Strings.{is_empty, before_string, after_string, strings_put_in, strings_of, strings_at, strings_within}
use Rattle.rd_props.specs.declared.strings.StringPlace.{StringPlace}
use Rattle.rd_props.specs.declared.strings.StringPlace.TheVariants.{Closing, Between, Opening}

total-reverse : (w : ℕ → ℕ) (xs : List ℕ) → total w (reverse xs) ≡ total w xs
total-reverse w [] = refl
total-reverse w (x ∷ xs) =
    let turned : total w (reverse (x ∷ xs)) ≡ total w (reverse xs ++ x ∷ []) = ap (total w) (reverse-append (x ∷ []) xs) in
    let sum = total-append w (reverse xs) (x ∷ []) in
    let rest = total-reverse w xs in
    omega (arith, turned, sum, rest)

-- a number weighs the strings that a part of its overlay has
abbrev weight : StringPlace → List (Option Overlay) → ℕ → ℕ
weight part slots number = length (strings_put_in part (overlay_at slots number))

strings-weighed : (part : StringPlace) (slots : List (Option Overlay)) (ns : List ℕ) → length (strings_of part slots ns) ≡ total (weight part slots) ns
strings-weighed part slots [] = refl
strings-weighed part slots (n ∷ ns) = omega (arith, length-append (strings_put_in part (overlay_at slots n)) (strings_of part slots ns), strings-weighed part slots ns)

-- a listing weighs what the overlays in it weigh
placed-weighed : (w : ℕ → ℕ) (r : _) (rs : List _) → total w (map number_of_rank (placed r rs)) ≡ w r.number + total w (map number_of_rank rs)
placed-weighed w r =
    placed-by (λ old new. total w (map number_of_rank new) ≡ w r.number + total w (map number_of_rank old)) r (λ rs. refl) (λ x rs new same. omega (arith, same))

-- what the overlays weigh that pass a test
abbrev slot_weighs : (Overlay → Bool) → (ℕ → ℕ) → ℕ → Option Overlay → ℕ
slot_weighs test w n None = 0
slot_weighs test w n (Some o) = if test o then w n else 0

abbrev all_weigh : (Overlay → Bool) → (ℕ → ℕ) → ℕ → List (Option Overlay) → ℕ
all_weigh test w n [] = 0
all_weigh test w n (slot ∷ slots) = slot_weighs test w n slot + all_weigh test w (suc n) slots

listing-weighed : (test : Overlay → Bool) (w : ℕ → ℕ) (n : ℕ) (slots : List (Option Overlay)) → total w (map number_of_rank (ranked_from test n slots)) ≡ all_weigh test w n slots
listing-weighed test w n [] = refl
listing-weighed test w n (None ∷ slots) = omega (arith, listing-weighed test w (suc n) slots)
listing-weighed test w n (Some o ∷ slots) = by-test (listing-weighed test w (suc n) slots) (test o) where
  by-test : total w (map number_of_rank (ranked_from test (suc n) slots)) ≡ all_weigh test w (suc n) slots → (b : Bool)
      → total w (map number_of_rank (if b then placed (record { priority = o.priority; number = n }) (ranked_from test (suc n) slots) else ranked_from test (suc n) slots))
      ≡ (if b then w n else 0) + all_weigh test w (suc n) slots
  by-test rest true =
      let more = placed-weighed w (record { priority = o.priority; number = n }) (ranked_from test (suc n) slots) in
      omega (arith, more, rest)
  by-test rest false = omega (arith, rest)

-- the overlays with an edge at a position, and at it or behind it
abbrev all_at : (Overlay → ℕ) → (ℕ → ℕ) → ℕ → ℕ → List (Option Overlay) → ℕ
all_at edge w p = all_weigh (λ o. edge o == p) w

abbrev all_from : (Overlay → ℕ) → (ℕ → ℕ) → ℕ → ℕ → List (Option Overlay) → ℕ
all_from edge w p = all_weigh (λ o. nat_le p (edge o)) w

edge-step : (e p x : ℕ) → (if e == p then x else 0) + (if nat_le (suc p) e then x else 0) ≡ (if nat_le p e then x else 0)
edge-step e p x = by-tests (e == p) (nat_le (suc p) e) (nat_le p e) refl refl refl where
  by-tests : (here behind from : Bool) → (e == p) ≡ here → nat_le (suc p) e ≡ behind → nat_le p e ≡ from → (if here then x else 0) + (if behind then x else 0) ≡ (if from then x else 0)
  by-tests true true from a b c = absurd (grind (arith, nat_tests))
  by-tests true false true a b c = omega arith
  by-tests true false false a b c = absurd (grind (arith, nat_tests))
  by-tests false true true a b c = omega arith
  by-tests false true false a b c = absurd (grind (arith, nat_tests))
  by-tests false false true a b c = absurd (grind (arith, nat_tests))
  by-tests false false false a b c = omega arith

slot-step : (edge : Overlay → ℕ) (w : ℕ → ℕ) (p n : ℕ) (slot : Option Overlay)
    → slot_weighs (λ o. edge o == p) w n slot + slot_weighs (λ o. nat_le (suc p) (edge o)) w n slot ≡ slot_weighs (λ o. nat_le p (edge o)) w n slot
slot-step edge w p n None = refl
slot-step edge w p n (Some o) = edge-step (edge o) p (w n)

all-step : (edge : Overlay → ℕ) (w : ℕ → ℕ) (p n : ℕ) (slots : List (Option Overlay)) → all_at edge w p n slots + all_from edge w (suc p) n slots ≡ all_from edge w p n slots
all-step edge w p n [] = refl
all-step edge w p n (slot ∷ slots) = omega (arith, slot-step edge w p n slot, all-step edge w p (suc n) slots)

-- an overlay has two strings at most
slot-least : (test : Overlay → Bool) (w : ℕ → ℕ) (n : ℕ) (slot : Option Overlay) → slot_weighs test w n slot ≤ w n
slot-least test w n None = omega arith
slot-least test w n (Some o) = either (λ (k : ℕ). k ≤ w n) (test o) _ _ (omega arith) (omega arith)

from-few : (to from : Overlay → ℕ) (a b c : ℕ → ℕ) → ((n : ℕ) → a n + b n + c n ≤ 2) → (p n : ℕ) (slots : List (Option Overlay))
    → all_from to a p n slots + all_from from b p n slots + all_from from c p n slots ≤ 2 * length slots
from-few to from a b c two p n [] = omega arith
from-few to from a b c two p n (slot ∷ slots) =
    omega (arith, slot-least (λ o. nat_le p (to o)) a n slot, slot-least (λ o. nat_le p (from o)) b n slot, slot-least (λ o. nat_le p (from o)) c n slot, two n, from-few to from a b c two p (suc n) slots)

one : (o : Option ℕ) → length (option_to_list o) ≤ 1
one None = omega arith
one (Some x) = omega arith

two : (slots : List (Option Overlay)) (n : ℕ) → weight Closing slots n + weight Between slots n + weight Opening slots n ≤ 2
two slots n = by-slot (overlay_at slots n) where
  before : Overlay → List ℕ
  before o = before_string o

  after : Overlay → List ℕ
  after o = after_string o

  by-empty : (o : Overlay) (b : Bool) → length (if b then [] else after o) + length (if b then before o ++ after o else []) + length (if b then [] else before o) ≤ 2
  by-empty o true = omega (arith, length-append (before o) (after o), one (value_of Before (Some o)), one (value_of After (Some o)))
  by-empty o false = omega (arith, one (value_of Before (Some o)), one (value_of After (Some o)))

  by-slot : (slot : Option Overlay) → length (strings_put_in Closing slot) + length (strings_put_in Between slot) + length (strings_put_in Opening slot) ≤ 2
  by-slot None = omega arith
  by-slot (Some o) = by-empty o (is_empty o)

-- the strings of the overlays with an edge at a position or behind it
abbrev left : BufferValue → ℕ → ℕ
left s pos =
    all_from (λ o. o.to) (weight Closing s.overlays) pos 0 s.overlays + all_from (λ o. o.from) (weight Between s.overlays) pos 0 s.overlays
    + all_from (λ o. o.from) (weight Opening s.overlays) pos 0 s.overlays

strings-left : (s : BufferValue) (pos : ℕ) → length (strings_at s pos) + left s (suc pos) ≡ left s pos
strings-left s pos =
    let slots = s.overlays in
    let to : Overlay → ℕ = λ o. o.to in
    let from : Overlay → ℕ = λ o. o.from in
    let closing = strings_of Closing slots (reverse (ending pos slots)) in
    let between = strings_of Between slots (starting pos slots) in
    let opening = strings_of Opening slots (starting pos slots) in
    let all : length (strings_at s pos) ≡ length closing + length between + length opening
    = length-append (closing ++ between) opening ∙ ap (λ n. n + length opening) (length-append closing between) in
    let a : length closing ≡ all_at to (weight Closing slots) pos 0 slots
    = strings-weighed Closing slots (reverse (ending pos slots)) ∙ total-reverse (weight Closing slots) (ending pos slots) ∙ listing-weighed (λ o. o.to == pos) (weight Closing slots) 0 slots in
    let b : length between ≡ all_at from (weight Between slots) pos 0 slots = strings-weighed Between slots (starting pos slots) ∙ listing-weighed (λ o. o.from == pos) (weight Between slots) 0 slots in
    let c : length opening ≡ all_at from (weight Opening slots) pos 0 slots = strings-weighed Opening slots (starting pos slots) ∙ listing-weighed (λ o. o.from == pos) (weight Opening slots) 0 slots in
    let here : left s pos ≡ all_from to (weight Closing slots) pos 0 slots + all_from from (weight Between slots) pos 0 slots + all_from from (weight Opening slots) pos 0 slots = refl in
    let behind : left s (suc pos) ≡ all_from to (weight Closing slots) (suc pos) 0 slots + all_from from (weight Between slots) (suc pos) 0 slots + all_from from (weight Opening slots) (suc pos) 0 slots = refl in
    let d = all-step to (weight Closing slots) pos 0 slots in
    let e = all-step from (weight Between slots) pos 0 slots in
    let f = all-step from (weight Opening slots) pos 0 slots in
    omega (arith, all, a, b, c, d, e, f, here, behind)

within-left : (s : BufferValue) (pos n : ℕ) → strings_within s pos n ≤ left s pos
within-left s pos zero = omega arith
within-left s pos (suc n) = omega (arith, strings-left s pos, within-left s (suc pos) n)

pub within-few : (s : BufferValue) (pos n : ℕ) → strings_within s pos n ≤ 2 * length s.overlays
within-few s pos n =
    let slots = s.overlays in
    let own : left s pos ≤ 2 * length slots = from-few (λ o. o.to) (λ o. o.from) (weight Closing slots) (weight Between slots) (weight Opening slots) (two slots) pos 0 slots in
    let all = within-left s pos n in
    omega (arith, own, all)

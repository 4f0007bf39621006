-- What an option holds, and choices of options.
use Rattle.std.proofs.Common.{◌≡◌, ℕ, ◌<◌, Bool, true, false, if◌then◌else◌, Option, None, Some, ap, refl, sym, List, length, nat_lt, arith}
use Rattle.std.proofs.lemmas.Bool.{ltb-true}
use Rattle.std.proofs.lemmas.Option.{cond_some}
use Rattle.std.specs.List.{position_or_len}
use Rattle.std.specs.Prelude.{option_map, position}
use Rattle.std.specs.Option.{option_or, ok_or}
use Rattle.rd_state.specs.declared.refused.Refused.{Refused}
use Rattle.rd_state.specs.Answers.{Finds}

pub one-value : {X : Type 0} (o : Option X) (x y : X) → o ≡ Some x → o ≡ Some y → x ≡ y
one-value o x y h k = cc

pub or-none : {X : Type 0} (o : Option X) → option_or o None ≡ o
or-none None = refl
or-none (Some x) = refl

pub map-map : {X Y Z : Type 0} (f : X → Y) (g : Y → Z) (h : X → Z) (o : Option X) → ((x : X) → g (f x) ≡ h x) → option_map g (option_map f o) ≡ option_map h o
map-map f g h None e = refl
map-map f g h (Some x) e = ap (λ z. Some z) (e x)

-- the place that a search finds, and what is answered of it
pub position-is : {X : Type 0} (p : X → Bool) (xs : List X) (i : ℕ) → position p xs ≡ Some i → (i ≡ position_or_len p xs) × (i < length xs)
position-is p xs i h =
    let n = position_or_len p xs in
    let found = cond_some (nat_lt n (length xs)) n i h in
    (sym found.1, omega (arith, found.1, ltb-true n (length xs) found.0))

pub finds : {X : Type 0} (o : Option X) (refusal : Refused) (Found : X → Type 0) (Absent : Type 0) → ((x : X) → o ≡ Some x → Found x) → (o ≡ None → Absent)
    → Finds (ok_or o refusal) Found Absent refusal
finds None refusal Found Absent there none = (none refl, refl)
finds (Some x) refusal Found Absent there none = there x refl

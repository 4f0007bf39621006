-- Two changes one after the other.
use Rattle.std.proofs.Common.{◌≡◌, inl, inr, ℕ, ◌<◌, ◌≤◌, min, max, ◌∙◌, refl, arith}
use Rattle.std.specs.Prelude.{ℤ, pos, negsuc, ◌+ℤ◌, ◌≤ℤ◌}
use Rattle.std.proofs.lemmas.Int.{ints}
use Rattle.rd_objects.specs.Things.{ObjectLists}
use Rattle.rd_props.specs.Buffers.{BufferValue}
use Rattle.rd_props.specs.Agreement.{IsInReach, IsSame, Unchanged}

-- sameness goes through a third position
through : (old changed new : BufferValue) (a b c : ObjectLists) (x m y : ℕ)
    → (IsInReach old x changed m → IsSame old a x changed b m) → (IsInReach changed m new y → IsSame changed b m new c y)
    → IsInReach old x new y → IsSame old a x new c y
through old changed new a b c x m y first second (inl within) =
    let one = first (inl within) in
    let two = second (inl one.new_within) in
    record { old_within = within; new_within = two.new_within; agree = one.agree ∙ two.agree }
through old changed new a b c x m y first second (inr within) =
    let two = second (inr within) in
    let one = first (inr two.old_within) in
    record { old_within = one.old_within; new_within = within; agree = one.agree ∙ two.agree }

-- where a position stood between two changes, of which the second leaves it behind its own tail
between : (x y tail begin : ℕ) (d e : ℤ) → pos x +ℤ (d +ℤ e) ≡ pos y → (pos tail +ℤ e) ≤ℤ pos y → (pos begin +ℤ e) ≤ℤ pos y
    → (m : ℕ) × (tail ≤ m) × (begin ≤ m) × (pos x +ℤ d ≡ pos m) × (pos m +ℤ e ≡ pos y)
between x y tail begin d e is behind low = by (pos x +ℤ d) refl where
  by : (z : ℤ) → pos x +ℤ d ≡ z → (m : ℕ) × (tail ≤ m) × (begin ≤ m) × (pos x +ℤ d ≡ pos m) × (pos m +ℤ e ≡ pos y)
  by (pos m) same = (m, omega (arith, ints), omega (arith, ints), same, omega (arith, ints))
  by (negsuc m) same = absurd (omega (arith, ints))

module _ (old changed new : BufferValue) (a b c : ObjectLists) (head later_head tail later_tail both_tail : ℕ) (d e : ℤ)
    (one : Unchanged old a changed b head tail d) (two : Unchanged changed b new c later_head later_tail e) (low : (pos changed.text.begin +ℤ e) ≤ℤ pos (max changed.text.begin later_tail))
    (first : (pos tail +ℤ e) ≤ℤ pos both_tail) (second : later_tail ≤ both_tail) where
  both-before : (x : ℕ) → new.text.begin ≤ x → x < min head later_head → IsInReach old x new x → IsSame old a x new c x
  both-before x begin less =
      let same = two.begin in
      through old changed new a b c x x x (one.before x (omega arith) (omega arith)) (two.before x begin (omega arith))

  both-behind : (x y : ℕ) → new.text.begin ≤ y → both_tail ≤ y → pos x +ℤ (d +ℤ e) ≡ pos y → IsInReach old x new y → IsSame old a x new c y
  both-behind x y begin more is =
      let same = two.begin in
      let most : max changed.text.begin later_tail ≤ y = omega arith in
      let found = between x y tail changed.text.begin d e is (omega (arith, ints)) (omega (arith, ints)) in
      let m = found.0 in
      through old changed new a b c x m y (one.behind x m found.2 found.1 found.3) (two.behind m y begin (omega arith) found.4)

  pub join : Unchanged old a new c (min head later_head) both_tail (d +ℤ e)
  join = record { begin = two.begin ∙ one.begin; before = both-before; behind = both-behind }

pub widen : (old new : BufferValue) (a b : ObjectLists) (head tail lesser greater : ℕ) (added : ℤ) → Unchanged old a new b head tail added → lesser ≤ head → tail ≤ greater
    → Unchanged old a new b lesser greater added
widen old new a b head tail lesser greater added same less more = record {
  begin = same.begin;
  before = λ x low before reach. same.before x low (omega arith) reach;
  behind = λ x y low behind is reach. same.behind x y low (omega arith) is reach;
}

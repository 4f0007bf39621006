-- Changes that are none, and that may be of anything; and that what is made of a change's parts is one.
use Rattle.std.proofs.Common.{◌≡◌, ℕ, ◌≤◌, nat_le, Bool, true, false, ◌&&◌, ◌==◌, if◌then◌else◌, ℤ, refl, arith}
use Rattle.std.proofs.lemmas.Bool.{and_parts, eqb-true, leb-true}
use Rattle.std.proofs.lemmas.Bool.Decides.{Decides-int_eq}
use Rattle.std.specs.Ordering.{int_eq}
use Rattle.rd_reuse.specs.Changes.{IsChange, all, is_all, is_none, is_small, none}
use Rattle.rd_reuse.specs.declared.change.Change.{Change}

-- changes of the same parts are the same
same-parts : (a b : Change) → ((a.head == b.head) && (a.tail == b.tail) && int_eq a.added b.added) ≡ true → a ≡ b
same-parts a b e =
    let both = and_parts ((a.head == b.head) && (a.tail == b.tail)) (int_eq a.added b.added) e in
    let places = and_parts (a.head == b.head) (a.tail == b.tail) both.0 in
    λ i. record { head = eqb-true a.head b.head places.0 i; tail = eqb-true a.tail b.tail places.1 i; added = (Decides-int_eq a.added b.added).0 both.1 i }

pub none-is : (c : Change) → is_none c ≡ true → c ≡ none
none-is c e = same-parts c none e

pub all-is : (c : Change) → is_all c ≡ true → c ≡ all
all-is c e = same-parts c all e

pub all-is-change : IsChange all
all-is-change = record { head = omega arith; tail = omega arith; added = refl }

-- parts of which the tail and the number are tested make a change
pub change-by : (b : Bool) (head tail : ℕ) (added : ℤ) → (nat_le tail 4294967295 && is_small added) ≡ b → head ≤ 4294967295 → IsChange (if b then record { head = head; tail = tail; added = added } else all)
change-by true head tail added e low =
    let both = and_parts (nat_le tail 4294967295) (is_small added) e in
    record { head = low; tail = leb-true tail 4294967295 both.0; added = both.1 }
change-by false head tail added e low = all-is-change

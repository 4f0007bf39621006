-- No more is read of a buffer than a text and its overlays have.
use Rattle.std.proofs.Common.{ℕ, zero, suc, ◌-◌, ◌*◌, ◌≤◌, [], length, arith}
use Rattle.rd_base.proofs.Choices.{either}
use Rattle.rd_base.specs.declared.limits.TheConstants.{OVERLAYS}
use Rattle.rd_text.specs.Texts.{IsText, IsAccessible}
use Rattle.rd_objects.specs.Things.{ObjectLists}
use Rattle.rd_props.specs.Buffers.{BufferValue}
use Rattle.rd_props.specs.Strings.{strings_within}
use Rattle.rd_items.specs.Readings.{ends_block, reading_from, reading}
use Rattle.rd_stack.specs.Limits.{strings_in, AreFew}

read-short : (s : BufferValue) (objects : ObjectLists) (n p : ℕ) → length (reading_from s objects n p) ≤ suc n
read-short s objects zero p = omega arith
read-short s objects (suc n) p =
    let rest = either (λ es. length es ≤ suc n) (ends_block s p) [] (reading_from s objects n (suc p)) (omega arith) (read-short s objects n (suc p)) in
    omega (arith, rest)

read-few : (s : BufferValue) (objects : ObjectLists) (n p : ℕ) → strings_in (reading_from s objects n p) ≤ strings_within s p (suc n)
read-few s objects zero p = omega arith
read-few s objects (suc n) p =
    let rest = either (λ es. strings_in es ≤ strings_within s (suc p) (suc n)) (ends_block s p) [] (reading_from s objects n (suc p)) (omega arith) (read-few s objects n (suc p)) in
    omega (arith, rest)

pub reading-few : ((s : BufferValue) (p n : ℕ) → strings_within s p n ≤ 2 * length s.overlays)
    → (s : BufferValue) (objects : ObjectLists) (p : ℕ) → IsText s.text → IsAccessible s.text p → length s.overlays ≤ OVERLAYS → AreFew (reading s objects p)
reading-few within s objects p text place overlays =
    let n = s.text.end - p in
    let positions = read-short s objects n p in
    let strings = read-few s objects n p in
    let all = within s p (suc n) in
    let first = text.first in
    let last = text.last in
    let short = text.short in
    let from = place.0 in
    let to = place.1 in
    omega (arith, positions, strings, all, first, last, short, from, to, overlays)

-- How far the reading of a block goes.
use Rattle.std.proofs.Common.{◌≡◌, inl, inr, ℕ, ◌+◌, ◌-◌, ◌≤◌, Bool, true, false, List, [], ◌∷◌, length, refl, sym, ap, ◌∙◌, arith}
use Rattle.std.specs.Prelude.{zero, suc}
use Rattle.std.proofs.lemmas.Bool.{cases_lt, cond-true, cond-false}
use Rattle.rd_props.specs.Buffers.{BufferValue}
use Rattle.rd_base.specs.declared.settings.Invisible.{Invisible}
use Rattle.rd_objects.specs.Things.{ObjectLists}
use Rattle.rd_props.specs.Seen.{Seen, seen_at}
use Rattle.rd_items.specs.Readings.{is_ender, ends_block, reading_from, reading, IsReading}
use Rattle.rd_items.specs.Blocks.{IsBlock, IsFirstEnd}
use Rattle.rd_items.proofs.Readings.{end-ends, newline-ends, block-ends, reads-one}

read-more : (s : BufferValue) (o : ObjectLists) (n p : ℕ) → ends_block s p ≡ false → length (reading_from s o (suc n) p) ≡ suc (length (reading_from s o n (suc p)))
read-more s o n p ender = ap (λ (es : List Seen). suc (length es)) (cond-false (ends_block s p) [] (reading_from s o n (suc p)) ender)

-- from a position of a block on as many positions are read as there are up to the block's end
reach : (s : BufferValue) (o : ObjectLists) (n p to : ℕ) → p + n ≡ s.text.end → IsFirstEnd s p to → p + length (reading_from s o n p) ≡ to
reach s o zero p to far rest = omega (arith, rest.first, rest.last)
reach s o (suc n) p to far rest = elim (cases_lt (suc p) to) [
  | inl more ↦
      let goes : ends_block s p ≡ false = sym (newline-ends s p (omega arith)) ∙ rest.inside p (omega arith) more in
      let one = read-more s o n p goes in
      let left : IsFirstEnd s (suc p) to = record { first = more; last = rest.last; inside = λ q a b. rest.inside q (omega arith) b; ends = rest.ends } in
      let all = reach s o n (suc p) to (omega arith) left in
      omega arith
  | inr least ↦
      let some = rest.first in
      let one = ap length (reads-one s o (suc n) p (block-ends s o p to (omega arith) rest.ends)) in
      omega arith
]

-- the reading of a block has one entry for each of its positions
pub block-read : (s : BufferValue) (o : ObjectLists) (from to : ℕ) → IsBlock s from to → from + length (reading s o from) ≡ to
block-read s o from to block =
    let some = block.some in
    let last = block.last in
    reach s o (s.text.end - from) from to (omega arith) (record { first = some; last = last; inside = block.inside; ends = block.ends })

-- what is read of a block ends with its ender, and has none before
reading-cons : (setting : Invisible) (e : Seen) (es : List Seen) → is_ender setting e ≡ false → IsReading setting es → IsReading setting (e ∷ es)
reading-cons setting e [] none rest = absurd rest
reading-cons setting e (f ∷ es) none rest = (none, rest)

whole-by : (s : BufferValue) (o : ObjectLists) (n p : ℕ) → IsReading s.settings.invisible (reading_from s o n (suc p)) → (ender : Bool) → ends_block s p ≡ ender → IsReading s.settings.invisible (reading_from s o (suc n) p)
whole-by s o n p rest true e = rw (cond-true (ends_block s p) [] (reading_from s o n (suc p)) e) e
whole-by s o n p rest false e =
    rw (cond-false (ends_block s p) [] (reading_from s o n (suc p)) e) (reading-cons s.settings.invisible (seen_at s o p) (reading_from s o n (suc p)) e rest)

whole-from : (s : BufferValue) (o : ObjectLists) (n p : ℕ) → p + n ≡ s.text.end → IsReading s.settings.invisible (reading_from s o n p)
whole-from s o zero p far =
    let here : p ≡ s.text.end = omega arith in
    ap (ends_block s) here ∙ end-ends s o
whole-from s o (suc n) p far = whole-by s o n p (whole-from s o n (suc p) (omega arith)) (ends_block s p) refl

pub reading-whole : (s : BufferValue) (o : ObjectLists) (p : ℕ) → p ≤ s.text.end → IsReading s.settings.invisible (reading s o p)
reading-whole s o p within = whole-from s o (s.text.end - p) p (omega arith)

-- Positions up to the next stop are shown alike, and so are those from the last.
use Rattle.std.proofs.Common.{◌≡◌, inl, inr, ℕ, ◌+◌, ◌-◌, ◌<◌, ◌≤◌, sym, ap, ◌∙◌, arith}
use Rattle.std.proofs.lemmas.Bool.{cases_lt}
use Rattle.rd_objects.specs.Things.{ObjectLists}
use Rattle.rd_props.specs.Buffers.{BufferValue}
use Rattle.rd_props.specs.Stops.{IsNextStop, IsLastStop, LookAlike}
use Rattle.rd_items.specs.Readings.{showing_at, showing_by}
use Rattle.rd_items.specs.AlikeRanges.{IsAlikeRange, IsStopBehind}
use Rattle.rd_items.specs.declared.showing.Showing.{Showing}

module _ (s : BufferValue) (o : ObjectLists) (first stop : ℕ) (look : LookAlike s o first stop) where
  -- the positions up to a stop are shown as the first is
  as-first : (q : ℕ) → first ≤ q → q < stop → showing_at s o q ≡ showing_at s o first
  as-first q low before = elim (cases_lt first q) [
    | inl later ↦ ap (showing_by s.settings.invisible) (look.appearance q later before)
    | inr here ↦ let same : q ≡ first = omega arith in ap (showing_at s o) same
  ]

  -- positions of a range are shown alike as any of them is
  alike-within : (p : ℕ) (showing : Showing) → first ≤ p → p < stop → (first < s.text.end → stop ≤ s.text.end) → showing ≡ showing_at s o p → IsAlikeRange s o (record { from = first; until = stop; showing = showing })
  alike-within p showing low before within same = record {
    within = within;
    alike = λ q a b. as-first q a b ∙ (sym (as-first p low before) ∙ sym same);
    bare = look.strings;
  }

-- what is known of the positions before the next stop
abbrev StopLaw : Type 0
StopLaw = (s : BufferValue) (objects : ObjectLists) (pos stop : ℕ) → IsNextStop s pos stop → LookAlike s objects pos stop

-- the positions up to where a range from a position ends
pub range-from : StopLaw → (s : BufferValue) (o : ObjectLists) (p stop : ℕ) → IsStopBehind s p stop → (showing : Showing) → showing ≡ showing_at s o p → IsAlikeRange s o (record { from = p; until = stop; showing = showing })
range-from law s o p stop (inl next) showing same =
    let later = next.later in
    alike-within s o p stop (law s o p stop next) p showing (omega arith) later (λ less. next.within) same
range-from law s o p stop (inr end) showing same =
    let one = end.1 in
    alike-within s o p stop (record { appearance = λ q later before. absurd (omega arith); strings = λ q later before. absurd (omega arith) }) p showing (omega arith) (omega arith) (λ less. absurd (omega arith)) same

-- what is known of the positions from the last stop on
abbrev LastLaw : Type 0
LastLaw = (s : BufferValue) (objects : ObjectLists) (pos stop : ℕ) → pos < s.text.end → IsLastStop s pos stop → LookAlike s objects stop (pos + 1)

-- the positions from where a range before a position begins
pub range-before : LastLaw → (s : BufferValue) (o : ObjectLists) (until from : ℕ) → s.text.begin < until → until ≤ s.text.end → IsLastStop s (until - 1) from → (showing : Showing) → showing ≡ showing_at s o (until - 1) → IsAlikeRange s o (record { from = from; until = until; showing = showing })
range-before law s o until from low high last showing same =
    let before = last.before in
    let place : until - 1 + 1 ≡ until = omega arith in
    let look = rw place at (law s o (until - 1) from (omega arith) last) in
    alike-within s o from until look (until - 1) showing before (omega arith) (λ less. high) same

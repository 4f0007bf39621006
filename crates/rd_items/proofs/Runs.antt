-- Runs of replaced and hidden positions.
use Rattle.std.proofs.Common.{◌≡◌, ℕ, ◌+◌, ◌-◌, ◌<◌, ◌≤◌, true, false, List, [], ◌∷◌, drop, Option, Some, None, refl, ap, ◌∙◌, arith, add-one}
use Rattle.std.specs.Prelude.{zero, suc, not, is_some}
use Rattle.std.proofs.lemmas.Bool.{and_parts, and_left, and_right, or_from, not-true, both_ways, cond-false, false_from_ne_true}
use Rattle.rd_props.specs.Buffers.{BufferValue}
use Rattle.rd_items.specs.declared.showing.Showing.{Showing}
use Rattle.rd_items.specs.declared.alike_range.AlikeRange.{AlikeRange}
use Rattle.rd_items.specs.AlikeRanges.{IsAlikeRange}
use Rattle.rd_objects.specs.Things.{ObjectLists}
use Rattle.rd_base.specs.declared.settings.Invisible.{Invisible}
use Rattle.rd_props.specs.Seen.{Seen, accessible_char}
use Rattle.rd_items.specs.Readings.{showing_of, showing_at, is_hidden, is_open, ends_block, ends_line, reading}
use Rattle.rd_items.specs.Pieces.{same_spec, goes_on, run_length}
use Rattle.rd_items.proofs.Readings.{end-open, reading-more, reading-step}

spec-stops : (spec other : Option ℕ) → is_some other ≡ false → same_spec spec other ≡ false
spec-stops None other none = refl
spec-stops (Some n) None none = refl
spec-stops (Some n) (Some m) none = cc

spec-alone : (spec other : Option ℕ) → is_some spec ≡ false → same_spec spec other ≡ false
spec-alone None other none = refl
spec-alone (Some n) other none = cc

-- an open position belongs to no run
pub open-stops : (first next : Showing) → is_open next ≡ true → goes_on first next ≡ false
open-stops first next shown =
    let parts = and_parts (not (is_some next.display)) (not (is_hidden next.hidden)) shown in
    let hides = and_right (is_hidden first.hidden) (is_hidden next.hidden) (not-true (is_hidden next.hidden) parts.1) in
    or_from (same_spec first.display next.display) _ (spec-stops first.display next.display (not-true (is_some next.display) parts.0)) hides

open-begins : (first next : Showing) → is_open first ≡ true → goes_on first next ≡ false
open-begins first next shown =
    let parts = and_parts (not (is_some first.display)) (not (is_hidden first.hidden)) shown in
    let hides = and_left (is_hidden first.hidden) (is_hidden next.hidden) (not-true (is_hidden first.hidden) parts.1) in
    or_from (same_spec first.display next.display) _ (spec-alone first.display next.display (not-true (is_some first.display) parts.0)) hides

-- what is shown itself begins no run
pub open-alone : (setting : Invisible) (first : Showing) (es : List Seen) → is_open first ≡ true → run_length setting first es ≡ 0
open-alone setting first [] shown = refl
open-alone setting first (e ∷ es) shown = rw (open-begins first (showing_of setting e) shown)

pub ender-open : (s : BufferValue) (o : ObjectLists) (p : ℕ) → ends_block s p ≡ true → is_open (showing_at s o p) ≡ true
ender-open s o p ender = (and_parts (is_open (showing_at s o p)) (ends_line (accessible_char s.text p)) ender).0

-- a replaced or hidden position stands before the end, and what is read behind it is what is read at the next
pub closed-before : (s : BufferValue) (o : ObjectLists) (p : ℕ) → p ≤ s.text.end → is_open (showing_at s o p) ≡ false → p < s.text.end
closed-before s o p within closed =
    let differs : p ≡ s.text.end → ⊥ = λ e. both_ways (is_open (showing_at s o p)) closed (rw e (end-open s o)) in
    grind arith

pub behind-closed : (s : BufferValue) (o : ObjectLists) (p : ℕ) → p < s.text.end → is_open (showing_at s o p) ≡ false → drop 1 (reading s o p) ≡ reading s o (suc p)
behind-closed s o p before closed =
    let ender = false_from_ne_true (ends_block s p) (λ e. both_ways (is_open (showing_at s o p)) closed (ender-open s o p e)) in
    ap (drop 1) (reading-more s o p (omega arith) ender)

-- an open position's run ends behind it
pub open-end : (s : BufferValue) (o : ObjectLists) (p : ℕ) (showing : Showing) → is_open showing ≡ true → p + 1 ≡ suc p + run_length s.settings.invisible showing (drop 1 (reading s o p))
open-end s o p showing shown =
    let alone = open-alone s.settings.invisible showing (drop 1 (reading s o p)) shown in
    rw alone (omega arith)

-- one position more belongs to a run
pub run-more : (s : BufferValue) (o : ObjectLists) (p : ℕ) (showing : Showing) → p < s.text.end → goes_on showing (showing_at s o p) ≡ true → run_length s.settings.invisible showing (reading s o p) ≡ suc (run_length s.settings.invisible showing (reading s o (suc p)))
run-more s o p showing before more =
    let closed = false_from_ne_true (is_open (showing_at s o p)) (λ e. both_ways (goes_on showing (showing_at s o p)) (open-stops showing (showing_at s o p) e) more) in
    let ender = false_from_ne_true (ends_block s p) (λ e. both_ways (is_open (showing_at s o p)) closed (ender-open s o p e)) in
    let rest = cond-false (ends_block s p) [] (reading s o (suc p)) ender in
    ap (run_length s.settings.invisible showing) (reading-step s o p before) ∙ rw (more, rest) (omega arith)

-- a run behind its first position
pub run-begins : (s : BufferValue) (o : ObjectLists) (p : ℕ) (showing : Showing) → p ≤ s.text.end → showing ≡ showing_at s o p → is_open showing ≡ false → (p < s.text.end) × (p + 1 + run_length s.settings.invisible showing (reading s o (p + 1)) ≡ 1 + p + run_length s.settings.invisible showing (drop 1 (reading s o p)))
run-begins s o p showing within same closed =
    let here : is_open (showing_at s o p) ≡ false = rw same at closed in
    let before = closed-before s o p within here in
    let rest = behind-closed s o p before here in
    (before, rw (add-one, rest) (omega arith))

run-jumps : (s : BufferValue) (o : ObjectLists) (first showing : Showing) (d p : ℕ) → p + d ≤ s.text.end → ((r : ℕ) → p ≤ r → r < p + d → showing_at s o r ≡ showing) → goes_on first showing ≡ true → (p + d) + run_length s.settings.invisible first (reading s o (p + d)) ≡ p + run_length s.settings.invisible first (reading s o p)
run-jumps s o first showing zero p within alike more = (let same : p + 0 ≡ p = omega arith in rw same)
run-jumps s o first showing (suc d) p within alike more =
    let here : goes_on first (showing_at s o p) ≡ true = ap (goes_on first) (alike p (omega arith) (omega arith)) ∙ more in
    let one = run-more s o p first (omega arith) here in
    let rest = run-jumps s o first showing d (suc p) (omega arith) (λ r a b. alike r (omega arith) (omega arith)) more in
    let place : p + suc d ≡ suc p + d = omega arith in
    rw place (omega arith)

alike-at : (s : BufferValue) (o : ObjectLists) (range : AlikeRange) (p r : ℕ) → IsAlikeRange s o range → range.from ≤ p → p ≤ r → r < range.until → showing_at s o r ≡ range.showing
alike-at s o range p r is from first before = is.alike r (omega arith) before

-- all positions of a range belong to a run, where its first does
pub range-goes-on : (s : BufferValue) (o : ObjectLists) (first : Showing) (range : AlikeRange) (p n : ℕ) → IsAlikeRange s o range → range.from ≤ p → p < range.until → range.until ≤ s.text.end → goes_on first range.showing ≡ true → p + run_length s.settings.invisible first (reading s o p) ≡ n → range.until + run_length s.settings.invisible first (reading s o range.until) ≡ n
range-goes-on s o first range p n is from some within more so-far =
    let place : p + (range.until - p) ≡ range.until = omega arith in
    let jump = run-jumps s o first range.showing (range.until - p) p (omega arith) (λ r a b. alike-at s o range p r is from a (omega arith)) more in
    rw place at jump ∙ so-far

-- a run ends before a range that does not go on with it
pub range-stops : (s : BufferValue) (o : ObjectLists) (first : Showing) (range : AlikeRange) (p n : ℕ) → IsAlikeRange s o range → range.from ≤ p → p < range.until → p < s.text.end → goes_on first range.showing ≡ false → p + run_length s.settings.invisible first (reading s o p) ≡ n → p ≡ n
range-stops s o first range p n is from some before none so-far =
    let here : goes_on first (showing_at s o p) ≡ false = ap (goes_on first) (alike-at s o range p p is from (omega arith) some) ∙ none in
    let length : run_length s.settings.invisible first (reading s o p) ≡ 0 = ap (run_length s.settings.invisible first) (reading-step s o p before) ∙ rw here in
    omega arith

-- Edits that are in range leave a text with an accessible range in it.
use Rattle.std.proofs.Common.{◌≡◌, ℕ, ◌+◌, ◌-◌, ◌≤◌, List, ◌++◌, length, take, drop, ap, ◌∙◌, arith, append_assoc}
use Rattle.rd_base.proofs.Lists.{length-replaced}
use Rattle.rd_base.specs.declared.limits.TheConstants.{TEXT_CHARACTERS}
use Rattle.rd_text.specs.Texts.{TextValue, IsText, IsAccessible, inserted, deleted, narrowed, widened}
use Rattle.rd_text.specs.Answers.{IsAccessibleRange, IsRangeOfAll}
use Rattle.rd_text.proofs.Ranges.{length-gap}

-- the length of a list with others put in
pub length-grown : (xs new : List ℕ) (i : ℕ) → i ≤ length xs → length (take i xs ++ new ++ drop i xs) ≡ length xs + length new
length-grown xs new i h = ap length (append_assoc (take i xs) new (drop i xs)) ∙ length-replaced i i new xs ∙ omega arith

pub inserted-is_text : (t : TextValue) (pos : ℕ) (new : List ℕ) → IsText t → IsAccessible t pos → length t.text + length new ≤ TEXT_CHARACTERS → IsText (inserted t pos new)
inserted-is_text t pos new s a room =
    let len = length-grown t.text new (pos - 1) (omega (arith, a.0, a.1)) in
    record { first = s.first; ordered = omega (arith, s.ordered); last = omega (arith, s.last, len); short = omega (arith, len) }

pub deleted-is_text : (t : TextValue) (from to : ℕ) → IsText t → IsAccessibleRange t from to → IsText (deleted t from to)
deleted-is_text t from to s a =
    let high : to ≤ length t.text + 1 = omega (arith, a.last, s.last) in
    let len = length-gap t.text (from - 1) (to - 1) (omega (arith, a.ordered)) (omega arith) in
    record { first = s.first; ordered = omega (arith, a.first, a.last); last = omega (arith, s.first, s.last, a.first, a.ordered, len); short = omega (arith, s.short, len) }

pub narrowed-is_text : (t : TextValue) (from to : ℕ) → IsText t → IsRangeOfAll t from to → IsText (narrowed t from to)
narrowed-is_text t from to s a = record { first = a.first; ordered = a.ordered; last = a.last; short = s.short }

pub widened-is_text : (t : TextValue) → IsText t → IsText (widened t)
widened-is_text t s = record { first = omega arith; ordered = omega arith; last = omega arith; short = s.short }

-- What is read of a buffer, by what is seen at its positions.
use Rattle.std.proofs.Common.{◌≡◌, inl, inr, ℕ, ◌-◌, ◌<◌, ◌≤◌, true, false, if◌then◌else◌, List, [], ◌∷◌, None, refl, sym, ap, ◌∙◌, arith, All}
use Rattle.std.specs.Prelude.{zero, suc, nat_lt}
use Rattle.std.proofs.lemmas.Bool.{and_from, and_parts, both_ways, cond-true, cond-false}
use Rattle.std.proofs.lemmas.Bool.Decides.{nat_tests}
use Rattle.std.proofs.lemmas.List.Elements.{All-nil, All-cons}
use Rattle.rd_base.proofs.Choices.{either}
use Rattle.rd_base.proofs.Lists.{all-one}
use Rattle.rd_objects.specs.Things.{ObjectLists}
use Rattle.rd_props.specs.Buffers.{BufferValue}
use Rattle.rd_props.specs.Seen.{Seen, seen_at, accessible_char}
use Rattle.rd_items.specs.Blocks.{is_shown_newline, EndsBlock}
use Rattle.rd_items.specs.Readings.{showing_at, is_open, ends_line, ends_block, reading_from, reading}

-- what holds of what is seen at each position holds of all that is read
module _ (P : Seen → Type 0) (s : BufferValue) (objects : ObjectLists) (own : (p : ℕ) → P (seen_at s objects p)) where
  from-each : (n p : ℕ) → All P (reading_from s objects n p)
  from-each zero p = all-one P (seen_at s objects p) (own p)
  from-each (suc n) p =
      let more = reading_from s objects n (suc p) in
      All-cons P (seen_at s objects p) (if ends_block s p then [] else more) (own p)
      (either (All P) (ends_block s p) [] more (All-nil P) (from-each n (suc p)))

  pub reading-each : (p : ℕ) → All P (reading s objects p)
  reading-each p = from-each (s.text.end - p) p

-- ---- where a block ends, and what is read there and before

-- the end is neither replaced nor hidden
pub end-open : (s : BufferValue) (o : ObjectLists) → is_open (showing_at s o s.text.end) ≡ true
end-open s o = grind (arith, nat_tests)

end-char : (s : BufferValue) → accessible_char s.text s.text.end ≡ None
end-char s = grind (arith, nat_tests)

-- the end of the accessible text is an ender
pub end-ends : (s : BufferValue) (o : ObjectLists) → ends_block s s.text.end ≡ true
end-ends s o = and_from (is_open (showing_at s o s.text.end)) (ends_line (accessible_char s.text s.text.end)) (end-open s o) (ap ends_line (end-char s))

-- before the end a shown newline is an ender
pub newline-ends : (s : BufferValue) (p : ℕ) → p < s.text.end → is_shown_newline s p ≡ ends_block s p
newline-ends s p before =
    let inside : nat_lt p s.text.end ≡ true = grind (arith, nat_tests) in
    rw inside

-- the last position of a block is an ender
pub block-ends : (s : BufferValue) (o : ObjectLists) (p to : ℕ) → to ≡ suc p → EndsBlock s to → ends_block s p ≡ true
block-ends s o p to here (inl end) = let place : p ≡ s.text.end = omega (arith, here, end) in ap (ends_block s) place ∙ end-ends s o
block-ends s o p to here (inr newline) =
    let place : to - 1 ≡ p = omega (arith, here) in
    (and_parts (nat_lt p s.text.end) (ends_block s p) (ap (is_shown_newline s) (sym place) ∙ newline)).1

-- at an ender what is seen there is read, and nothing else
pub reads-one : (s : BufferValue) (o : ObjectLists) (n p : ℕ) → ends_block s p ≡ true → reading_from s o n p ≡ seen_at s o p ∷ []
reads-one s o zero p e = refl
reads-one s o (suc n) p e = ap (λ (es : List Seen). seen_at s o p ∷ es) (cond-true (ends_block s p) [] (reading_from s o n (suc p)) e)

-- a position that is no ender stands before the end
pub before-end : (s : BufferValue) (o : ObjectLists) (p : ℕ) → p ≤ s.text.end → ends_block s p ≡ false → p < s.text.end
before-end s o p within ender =
    let differs : p ≡ s.text.end → ⊥ = λ e. both_ways (ends_block s p) ender (rw e (end-ends s o)) in
    grind arith

-- what is read at a position before the end
pub reading-step : (s : BufferValue) (o : ObjectLists) (p : ℕ) → p < s.text.end → reading s o p ≡ seen_at s o p ∷ (if ends_block s p then [] else reading s o (suc p))
reading-step s o p before =
    let n : s.text.end - p ≡ suc (s.text.end - suc p) = omega arith in
    rw n

-- what is read at a position that is no ender: what is seen there, and what is read behind it
pub reading-more : (s : BufferValue) (o : ObjectLists) (p : ℕ) → p ≤ s.text.end → ends_block s p ≡ false → reading s o p ≡ seen_at s o p ∷ reading s o (suc p)
reading-more s o p within ender =
    reading-step s o p (before-end s o p within ender) ∙ ap (λ (es : List Seen). seen_at s o p ∷ es) (cond-false (ends_block s p) [] (reading s o (suc p)) ender)

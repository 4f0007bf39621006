-- Shown newlines, and what the searches for newlines tell of them.
use Rattle.std.proofs.Common.{◌≡◌, inl, inr, ℕ, ◌-◌, ◌<◌, ◌≤◌, true, false, get_or, Some, ap, ◌∙◌, arith}
use Rattle.std.specs.Prelude.{suc, nat_lt, nat_le}
use Rattle.std.proofs.lemmas.Bool.{and_from, and_left, and_right, cases_lt}
use Rattle.std.proofs.lemmas.Bool.Decides.{nat_tests}
use Rattle.std.proofs.lemmas.Option.{slice_get-get_or}
use Rattle.rd_text.specs.Texts.{IsText, is_newline, next_newline, prev_newline}
use Rattle.rd_text.proofs.Searches.{next_bound, next_before, next_at, prev_bound, prev_after, prev_at}
use Rattle.rd_objects.specs.Things.{ObjectLists}
use Rattle.rd_props.specs.Buffers.{BufferValue}
use Rattle.rd_props.specs.Seen.{accessible_char}
use Rattle.rd_items.specs.Readings.{showing_at, is_open, ends_line}
use Rattle.rd_items.specs.Blocks.{is_shown_newline}
use Rattle.rd_items.specs.AlikeRanges.{IsAlikeRange}
use Rattle.rd_items.specs.declared.alike_range.AlikeRange.{AlikeRange}

-- no shown newline from one position up to another
abbrev pub AreInside : BufferValue → ℕ → ℕ → Type 0
AreInside s from to = (q : ℕ) → from ≤ q → q < to → is_shown_newline s q ≡ false

pub none-inside : (s : BufferValue) (p : ℕ) → AreInside s p p
none-inside s p = λ q a b. absurd (omega arith)

-- a range that goes on with another
pub both-inside : (s : BufferValue) (from place to : ℕ) → AreInside s from place → AreInside s place to → AreInside s from to
both-inside s from place to first last = λ q a b. elim (cases_lt q place) [ inl below ↦ first q a below | inr above ↦ last q above b ]

pub one-inside : (s : BufferValue) (p : ℕ) → is_shown_newline s p ≡ false → AreInside s p (suc p)
one-inside s p none = λ q a b. let here : q ≡ p = omega arith in rw here none

-- where a search on for a shown newline has come: to a newline or the end
pub record ComesOn (s : BufferValue) (end pos newline : ℕ) : Type 0 where
  pub ordered : pos ≤ newline
  pub within : newline ≤ end
  pub inside : AreInside s pos newline
  pub ends : newline < end → ends_line (accessible_char s.text newline) ≡ true

-- where a search back for a shown newline has come: right behind one, or to the beginning
pub record ComesBack (s : BufferValue) (begin pos from : ℕ) : Type 0 where
  pub ordered : from ≤ pos
  pub within : begin ≤ from
  pub inside : AreInside s from pos
  pub ends : begin < from → ends_line (accessible_char s.text (from - 1)) ≡ true

module _ (s : BufferValue) (right : IsText s.text) where
  -- the character of an accessible position
  here : (q : ℕ) → s.text.begin ≤ q → q < s.text.end → accessible_char s.text q ≡ Some (get_or s.text.text (q - 1) 0)
  here q low high =
      let first = right.first in
      let last = right.last in
      let inside : nat_lt q s.text.end ≡ true = grind (arith, nat_tests) in
      let some : nat_le 1 q ≡ true = grind (arith, nat_tests) in
      let found = slice_get-get_or s.text.text (q - 1) 0 (omega arith) in
      rw (inside, some, found)

  not-newline : (q : ℕ) → s.text.begin ≤ q → q < s.text.end → is_newline (get_or s.text.text (q - 1) 0) ≡ false → is_shown_newline s q ≡ false
  not-newline q low high none =
      let ends : ends_line (accessible_char s.text q) ≡ false = ap ends_line (here q low high) ∙ none in
      and_right _ _ (and_right _ _ ends)

  -- the next newline, of a search that has come on to a place
  pub next-newline : (pos from end : ℕ) → s.text.begin ≤ pos → pos ≤ from → from ≤ s.text.end → end ≡ s.text.end → AreInside s pos from → ComesOn s end pos (next_newline s.text from)
  next-newline pos from end low order high last before =
      let bound = next_bound s.text right from (omega arith) high in
      record {
        ordered = omega arith;
        within = omega arith;
        inside = both-inside s pos from (next_newline s.text from) before
            (λ q a b. not-newline q (omega arith) (omega arith) (next_before s.text right from q (omega arith) high a b (omega arith)));
        ends = λ inside. ap ends_line (here (next_newline s.text from) (omega arith) (omega arith)) ∙ next_at s.text right from (omega arith) high (omega arith);
      }

  -- the last newline before, of a search that has come back to a place
  pub prev-newline : (pos from begin : ℕ) → s.text.begin ≤ from → from ≤ pos → pos ≤ s.text.end → begin ≡ s.text.begin → AreInside s from pos → ComesBack s begin pos (prev_newline s.text from)
  prev-newline pos from begin low order high first behind =
      let bound = prev_bound s.text right from low (omega arith) in
      record {
        ordered = omega arith;
        within = omega arith;
        inside = both-inside s (prev_newline s.text from) from pos
            (λ q a b. not-newline q (omega arith) (omega arith) (prev_after s.text right from q low (omega arith) a b)) behind;
        ends = λ some. ap ends_line (here (prev_newline s.text from - 1) (omega arith) (omega arith)) ∙ prev_at s.text right from low (omega arith) (omega arith);
      }

-- a range that is replaced or hidden has no shown newline
closed-inside : (s : BufferValue) (o : ObjectLists) (range : AlikeRange) → IsAlikeRange s o range → is_open range.showing ≡ false → AreInside s range.from range.until
closed-inside s o range is closed = λ q a b.
    let here : is_open (showing_at s o q) ≡ false = ap is_open (is.alike q a b) ∙ closed in
    and_right _ _ (and_left _ _ here)

-- a range that is replaced or hidden, behind a search on, and before a search back
pub step-on : (s : BufferValue) (o : ObjectLists) (range : AlikeRange) (pos newline : ℕ) → IsAlikeRange s o range → range.from ≡ newline → is_open range.showing ≡ false → AreInside s pos newline → AreInside s pos range.until
step-on s o range pos newline is from closed inside = both-inside s pos newline range.until inside (rw from at (closed-inside s o range is closed))

pub step-back : (s : BufferValue) (o : ObjectLists) (range : AlikeRange) (from pos : ℕ) → IsAlikeRange s o range → range.until ≡ from → is_open range.showing ≡ false → AreInside s from pos → AreInside s range.from pos
step-back s o range from pos is until closed inside = both-inside s range.from from pos (rw until at (closed-inside s o range is closed)) inside

-- a newline that is neither replaced nor hidden
pub open-newline : (s : BufferValue) (o : ObjectLists) (range : AlikeRange) (newline : ℕ) → IsAlikeRange s o range → range.from ≤ newline → newline < range.until → newline < s.text.end → is_open range.showing ≡ true → ends_line (accessible_char s.text newline) ≡ true → is_shown_newline s newline ≡ true
open-newline s o range newline is from some inside shown ends =
    let here : is_open (showing_at s o newline) ≡ true = ap is_open (is.alike newline from some) ∙ shown in
    let before : nat_lt newline s.text.end ≡ true = grind (arith, nat_tests) in
    and_from _ _ before (and_from _ _ here ends)

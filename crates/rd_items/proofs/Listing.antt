-- The list of the blocks of a text.
use Rattle.std.proofs.Common.{◌≡◌, inl, inr, ℕ, ◌+◌, ◌-◌, ◌<◌, ◌≤◌, Bool, true, false, List, [], ◌∷◌, Some, refl, ap, subst, ◌∙◌, arith}
use Rattle.std.specs.Prelude.{zero, suc, slice_get, if◌then◌else◌}
use Rattle.std.proofs.lemmas.Bool.{both_ways, cases_lt}
use Rattle.std.proofs.lemmas.Option.{same_Some}
use Rattle.rd_props.specs.Buffers.{BufferValue}
use Rattle.rd_items.specs.Readings.{ends_block}
use Rattle.rd_items.specs.Blocks.{blocks_from, blocks_of, Adjoin, is_shown_newline, StartsBlock, EndsBlock, IsBlock, AreBlocksOf, ListedLaw}
use Rattle.rd_items.proofs.Newlines.{AreInside, both-inside, one-inside}
use Rattle.rd_items.proofs.Readings.{newline-ends}

-- ---- lists of blocks that adjoin

-- a block that holds a position
record Holds (bs : List (ℕ × ℕ)) (p : ℕ) : Type 0 where
  place : ℕ
  block : ℕ × ℕ
  found : slice_get bs place ≡ Some block
  first : block.0 ≤ p
  last : p < block.1

holding : (from to p : ℕ) (bs : List (ℕ × ℕ)) → Adjoin from to bs → from ≤ p → p < to → Holds bs p
holding from to p [] all low high = absurd (omega arith)
holding from to p (b ∷ bs) all low high = elim (cases_lt p b.1) [
  | inl below ↦ record { place = 0; block = b; found = refl; first = omega (arith, all.0); last = below }
  | inr above ↦
      let rest = holding b.1 to p bs all.2 above high in
      record { place = suc rest.place; block = rest.block; found = rest.found; first = rest.first; last = rest.last }
]

-- ---- blocks that hold one position are one

-- of two blocks that hold one position, the first position of one is not behind the other's
not-later : (s : BufferValue) (p a b c d : ℕ) → IsBlock s a b → IsBlock s c d → p < b → c ≤ p → a < c → ⊥
not-later s p a b c d one other inside first less = by-start other.begins where
  by-start : StartsBlock s c → ⊥
  by-start (inl begin) = omega (arith, one.first)
  by-start (inr newline) = both_ways (is_shown_newline s (c - 1)) (one.inside (c - 1) (omega arith) (omega arith)) newline

-- the end of one is not behind the end of the other
not-longer : (s : BufferValue) (p a b c d : ℕ) → IsBlock s a b → IsBlock s c d → p < b → c ≤ p → b < d → ⊥
not-longer s p a b c d one other inside first less = by-end one.ends where
  by-end : EndsBlock s b → ⊥
  by-end (inl end) = omega (arith, other.last)
  by-end (inr newline) = both_ways (is_shown_newline s (b - 1)) (other.inside (b - 1) (omega arith) (omega arith)) newline

neither-way : (a b : ℕ) → (a < b → ⊥) → (b < a → ⊥) → a ≡ b
neither-way a b less more = grind (arith, less, more)

same-block : (s : BufferValue) (p a b c d : ℕ) → IsBlock s a b → IsBlock s c d → a ≤ p → p < b → c ≤ p → p < d → (a ≡ c) × (b ≡ d)
same-block s p a b c d one other low high first last = (
  neither-way a c (not-later s p a b c d one other high first) (not-later s p c d a b other one last low),
  neither-way b d (not-longer s p a b c d one other high first) (not-longer s p c d a b other one last low),
)

pair : (x : ℕ × ℕ) (a b : ℕ) → x.0 ≡ a → x.1 ≡ b → x ≡ (a, b)
pair (x, y) a b e f = rw (e, f)

-- ---- the blocks of a text

-- a block may start at an earlier position, and none ends before this one
record IsOpen (s : BufferValue) (start p n : ℕ) : Type 0 where
  low : s.text.begin ≤ start
  order : start ≤ p
  far : p + n ≡ s.text.end
  begins : StartsBlock s start
  inside : AreInside s start p

shown-behind : (s : BufferValue) (p : ℕ) → p < s.text.end → ends_block s p ≡ true → is_shown_newline s (suc p - 1) ≡ true
shown-behind s p less ends =
    let place : suc p - 1 ≡ p = omega arith in
    ap (is_shown_newline s) place ∙ newline-ends s p less ∙ ends

block-here : (s : BufferValue) (start p n : ℕ) → IsOpen s start p n → EndsBlock s (suc p) → IsBlock s start (suc p)
block-here s start p n is ends = record {
  first = is.low;
  some = omega (arith, is.order);
  last = omega (arith, is.far);
  begins = is.begins;
  inside = λ q a b. is.inside q a (omega arith);
  ends = ends;
}

first-block : (s : BufferValue) (start p n : ℕ) → IsOpen s start p (suc n) → ends_block s p ≡ true → IsBlock s start (suc p)
first-block s start p n is ends = block-here s start p (suc n) is (inr (shown-behind s p (omega (arith, is.far)) ends))

last-block : (s : BufferValue) (start p : ℕ) → IsOpen s start p 0 → IsBlock s start (suc p)
last-block s start p is = block-here s start p 0 is (inl (omega (arith, is.far)))

open-next : (s : BufferValue) (start p n : ℕ) → IsOpen s start p (suc n) → ends_block s p ≡ true → IsOpen s (suc p) (suc p) n
open-next s start p n is ends = record {
  low = omega (arith, is.low, is.order);
  order = omega arith;
  far = omega (arith, is.far);
  begins = inr (shown-behind s p (omega (arith, is.far)) ends);
  inside = λ q a b. absurd (omega arith);
}

open-more : (s : BufferValue) (start p n : ℕ) → IsOpen s start p (suc n) → ends_block s p ≡ false → IsOpen s start (suc p) n
open-more s start p n is none = record {
  low = is.low;
  order = omega (arith, is.order);
  far = omega (arith, is.far);
  begins = is.begins;
  inside = both-inside s start p (suc p) is.inside (one-inside s p (newline-ends s p (omega (arith, is.far)) ∙ none));
}

blocks-cons : (s : BufferValue) (a : ℕ × ℕ) (bs : List (ℕ × ℕ)) → IsBlock s a.0 a.1 → AreBlocksOf s bs → AreBlocksOf s (a ∷ bs)
blocks-cons s a bs first rest = by-place where
  by-place : (k : ℕ) (b : ℕ × ℕ) → slice_get (a ∷ bs) k ≡ Some b → IsBlock s b.0 b.1
  by-place zero b found = subst (λ (x : ℕ × ℕ). IsBlock s x.0 x.1) (same_Some a b found) first
  by-place (suc k) b found = rest k b found

blocks-nil : (s : BufferValue) → AreBlocksOf s []
blocks-nil s = λ k b found. cc

are-blocks : (s : BufferValue) (n start p : ℕ) → IsOpen s start p n → AreBlocksOf s (blocks_from s start n p)
are-blocks s zero start p is = blocks-cons s (start, suc p) [] (last-block s start p is) (blocks-nil s)
are-blocks s (suc n) start p is =
    by-end (ends_block s p) refl (λ next. are-blocks s n (suc p) (suc p) next) (λ more. are-blocks s n start (suc p) more) where
      by-end : (ends : Bool) → ends_block s p ≡ ends → (IsOpen s (suc p) (suc p) n → AreBlocksOf s (blocks_from s (suc p) n (suc p))) → (IsOpen s start (suc p) n → AreBlocksOf s (blocks_from s start n (suc p))) → AreBlocksOf s (if ends then (start, suc p) ∷ blocks_from s (suc p) n (suc p) else blocks_from s start n (suc p))
      by-end true e next more = blocks-cons s (start, suc p) (blocks_from s (suc p) n (suc p)) (first-block s start p n is e) (next (open-next s start p n is e))
      by-end false e next more = more (open-more s start p n is e)

adjoining : (s : BufferValue) (n start p : ℕ) → start ≤ p → p + n ≡ s.text.end → Adjoin start (s.text.end + 1) (blocks_from s start n p)
adjoining s zero start p low far = (refl, omega arith, omega arith)
adjoining s (suc n) start p low far =
    by-end (ends_block s p) (adjoining s n (suc p) (suc p) (omega arith) (omega arith)) (adjoining s n start (suc p) (omega arith) (omega arith)) where
      by-end : (ends : Bool) → Adjoin (suc p) (s.text.end + 1) (blocks_from s (suc p) n (suc p)) → Adjoin start (s.text.end + 1) (blocks_from s start n (suc p)) → Adjoin start (s.text.end + 1) (if ends then (start, suc p) ∷ blocks_from s (suc p) n (suc p) else blocks_from s start n (suc p))
      by-end true next more = (refl, omega arith, next)
      by-end false next more = more

-- each of the list is a block, and each block is listed
pub blocks-listed : ListedLaw
blocks-listed s ordered = record { blocks = blocks; every = every; adjoin = adjoin } where
  blocks : AreBlocksOf s (blocks_of s)
  blocks = are-blocks s (s.text.end - s.text.begin) s.text.begin s.text.begin
      (record { low = omega arith; order = omega arith; far = omega arith; begins = inl refl; inside = λ q a b. absurd (omega arith) })

  adjoin : Adjoin s.text.begin (s.text.end + 1) (blocks_of s)
  adjoin = adjoining s (s.text.end - s.text.begin) s.text.begin s.text.begin (omega arith) (omega (arith, ordered))

  every : (from to : ℕ) → IsBlock s from to → (k : ℕ) × (slice_get (blocks_of s) k ≡ Some (from, to))
  every from to block =
      let held = holding s.text.begin (s.text.end + 1) from (blocks_of s) adjoin block.first (omega (arith, block.some, block.last)) in
      let same = same-block s from held.block.0 held.block.1 from to (blocks held.place held.block held.found) block held.first held.last (omega arith) block.some in
      (held.place, held.found ∙ ap Some (pair held.block from to same.0 same.1))

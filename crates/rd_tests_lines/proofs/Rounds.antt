-- The blocks of a source, one after the other.
use Rattle.std.proofs.Common.{◌≡◌, ℕ, zero, suc, ◌+◌, ◌<◌, ◌≤◌, true, inl, inr, List, [], ◌∷◌, slice_get, Option, None, Some, refl, sym, ap, ◌∙◌, subst, arith}
use Rattle.std.proofs.lemmas.Bool.{cases_lt}
use Rattle.rd_matrix.specs.Blocks.{IsAmong, StandFrom}
use Rattle.rd_matrix.specs.Sources.{SourceValues}
use Rattle.rd_matrix.specs.declared.block.Block.{Block}
use Rattle.rd_matrix.specs.declared.matrix.Entry.{Entry}
use Rattle.rd_matrix.proofs.HeldLemmas.{later-start}
use Rattle.rd_reuse.specs.Keeping.{AreRight, is_kept, taken}
use Rattle.rd_reuse.specs.declared.change.Change.{Change}
use Rattle.rd_rows.specs.Copies.{shown_rows}
use Rattle.rd_rows.specs.Shapes.{ShapeValues}

-- the older rows of a block are the source's, where it keeps them
abbrev pub IsRight : SourceValues → List Entry → Change → ShapeValues → Block → Type 0
IsRight m old c shape b = is_kept old c b ≡ true → shown_rows (taken old c b.start) ≡ m.rows_of b shape

-- a block, before which each is right
pub record Round (m : SourceValues) (old : List Entry) (c : Change) (shape : ShapeValues) (b : Block) : Type 0 where
  pub place : ℕ
  pub here : slice_get m.blocks place ≡ Some b
  pub before : (j : ℕ) (d : Block) → j < place → slice_get m.blocks j ≡ Some d → IsRight m old c shape d

-- the block that starts where blocks begin is the first
first-place : (from k : ℕ) (bs : List Block) (b : Block) → StandFrom from bs → slice_get bs k ≡ Some b → b.start ≤ from → k ≡ 0
first-place from k [] b stand at low = absurd cc
first-place from zero (a ∷ bs) b stand at low = refl
first-place from (suc k) (a ∷ bs) b stand at low =
    let later = (later-start a.end k bs b stand.2 at).0 in
    let start = stand.0 in
    let some = stand.1 in
    absurd (omega (arith, later, start, some, low))

pub first-round : (m : SourceValues) (old : List Entry) (c : Change) (shape : ShapeValues) (from : ℕ) (b : Block) → StandFrom from m.blocks → IsAmong m.blocks b → b.start ≤ from → Round m old c shape b
first-round m old c shape from b stand among low =
    let first = first-place from among.0 m.blocks b stand among.1 low in
    record { place = among.0; here = among.1; before = λ j d before at. absurd (omega (arith, first, before)) }

right-here : (m : SourceValues) (old : List Entry) (c : Change) (shape : ShapeValues) (b d : Block) (bs : List Block) (k : ℕ) → slice_get bs k ≡ Some b → slice_get bs k ≡ Some d → IsRight m old c shape b → IsRight m old c shape d
right-here m old c shape b d bs k at is right = let same : b ≡ d = cc in subst (IsRight m old c shape) same right

-- each block up to that of a round is right, where the round's is
up-to : (m : SourceValues) (old : List Entry) (c : Change) (shape : ShapeValues) (b : Block) (r : Round m old c shape b) → IsRight m old c shape b
    → (j : ℕ) (d : Block) → j ≤ r.place → slice_get m.blocks j ≡ Some d → IsRight m old c shape d
up-to m old c shape b r right j d low at =
    elim (cases_lt j r.place) as (λ _. IsRight m old c shape d) [
      | inl before ↦ r.before j d before at
      | inr here ↦
          let same : j ≡ r.place = omega (arith, here, low) in
          right-here m old c shape b d m.blocks r.place r.here (sym (ap (slice_get m.blocks) same) ∙ at) right
    ]

pub next-round : (m : SourceValues) (old : List Entry) (c : Change) (shape : ShapeValues) (b d : Block) (o : Option Block) → Round m old c shape b → IsRight m old c shape b
    → ((k : ℕ) → slice_get m.blocks k ≡ Some b → o ≡ slice_get m.blocks (k + 1)) → o ≡ Some d → Round m old c shape d
next-round m old c shape b d o r right next is = record {
  place = r.place + 1;
  here = sym (next r.place r.here) ∙ is;
  before = λ j e low at. up-to m old c shape b r right j e (omega (arith, low)) at;
}

-- each of some blocks stands before a place at which there is none
none-behind : (bs : List Block) (k j : ℕ) (d : Block) → slice_get bs k ≡ None → slice_get bs j ≡ Some d → j < k
none-behind [] k j d none at = absurd cc
none-behind (b ∷ bs) zero j d none at = absurd cc
none-behind (b ∷ bs) (suc k) zero d none at = omega arith
none-behind (b ∷ bs) (suc k) (suc j) d none at = let low = none-behind bs k j d none at in omega (arith, low)

-- where the round ends behind the last block, all blocks are right
pub all-right : (m : SourceValues) (old : List Entry) (c : Change) (shape : ShapeValues) (b : Block) (o : Option Block) → Round m old c shape b → IsRight m old c shape b
    → ((k : ℕ) → slice_get m.blocks k ≡ Some b → o ≡ slice_get m.blocks (k + 1)) → o ≡ None → AreRight m old c shape
all-right m old c shape b o r right next is d among =
    let none : slice_get m.blocks (r.place + 1) ≡ None = sym (next r.place r.here) ∙ is in
    let low = none-behind m.blocks (r.place + 1) among.0 d none among.1 in
    up-to m old c shape b r right among.0 d (omega (arith, low)) among.1

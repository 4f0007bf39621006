-- One step over the positions of a block.
use Rattle.std.proofs.Common.{◌≡◌, ℕ, ◌+◌, ◌-◌, ◌<◌, ◌≤◌, Bool, true, false, List, [], ◌∷◌, ◌++◌, drop, Option, refl, sym, ap, ◌∙◌, arith}
use Rattle.std.specs.Prelude.{zero, suc, if◌then◌else◌}
use Rattle.std.proofs.lemmas.Bool.{both_ways, cond-false, false_from_ne_true}
use Rattle.rd_base.specs.declared.settings.Invisible.{Invisible}
use Rattle.rd_ucd.specs.Data.{Data}
use Rattle.rd_objects.specs.Things.{ObjectLists}
use Rattle.rd_props.specs.Buffers.{BufferValue}
use Rattle.rd_props.specs.Strings.{strings_at}
use Rattle.rd_props.specs.Seen.{Seen, seen_at, accessible_char}
use Rattle.rd_items.specs.declared.showing.Showing.{Showing}
use Rattle.rd_items.specs.declared.piece.Piece.{Piece}
use Rattle.rd_items.specs.declared.item.Item.{Item}
use Rattle.rd_items.specs.Readings.{showing_of, showing_at, is_open, ends_block, reading_from, reading}
use Rattle.rd_items.specs.Pieces.{Scene, scene_in, string_pieces, piece_at, goes_on, run_length, pieces_from}
use Rattle.rd_items.specs.Walks.{pieces_left}
use Rattle.rd_items.specs.Covers.{shows_ender}
use Rattle.rd_items.proofs.Chains.{ends-where}
use Rattle.rd_items.proofs.Readings.{before-end, end-open, reads-one, reading-more}
use Rattle.rd_items.proofs.Runs.{open-stops, ender-open}

-- the scene of a buffer
abbrev scene : BufferValue → ObjectLists → Data → Scene
scene s o d = scene_in s.settings o d

-- the pieces of the position at an offset, and of those after it
abbrev left : BufferValue → ObjectLists → Data → ℕ → ℕ → List Piece
left s o d k p = pieces_from (scene s o d) 0 k (reading s o p)

length-more : (setting : Invisible) (first : Showing) (e : Seen) (rest : List Seen) → goes_on first (showing_of setting e) ≡ true → run_length setting first (e ∷ rest) ≡ suc (run_length setting first rest)
length-more setting first e rest more = rw more (omega arith)

length-none : (setting : Invisible) (first : Showing) (e : Seen) (rest : List Seen) → goes_on first (showing_of setting e) ≡ false → run_length setting first (e ∷ rest) ≡ 0
length-none setting first e rest none = rw none

left-here : (s : BufferValue) (o : ObjectLists) (d : Data) (n k p : ℕ) → p + n ≡ s.text.end → pieces_from (scene s o d) 0 k (reading_from s o n p) ≡ left s o d k p
left-here s o d n k p far =
    let same : s.text.end - p ≡ n = omega arith in
    rw same

-- what is so, where the positions that belong to a run give nothing
abbrev IsSkipped : BufferValue → ObjectLists → Data → Showing → ℕ → ℕ → List Seen → Type 0
IsSkipped s o d first k p es =
    (pieces_from (scene s o d) (run_length s.settings.invisible first es) k es
    ≡ left s o d (k + run_length s.settings.invisible first es) (p + run_length s.settings.invisible first es))
    × (p + run_length s.settings.invisible first es ≤ s.text.end)

skips-none : (s : BufferValue) (o : ObjectLists) (d : Data) (first : Showing) (n k p : ℕ) → p + n ≡ s.text.end → run_length s.settings.invisible first (reading_from s o n p) ≡ 0 → IsSkipped s o d first k p (reading_from s o n p)
skips-none s o d first n k p far none =
    let same : p + 0 ≡ p = omega arith in
    let offset : k + 0 ≡ k = omega arith in
    rw (none, same, offset) (left-here s o d n k p far, omega arith)

skips-end : (s : BufferValue) (o : ObjectLists) (d : Data) (first : Showing) (k p : ℕ) → p ≡ s.text.end → IsSkipped s o d first k p (seen_at s o p ∷ [])
skips-end s o d first k p end =
    let here : is_open (showing_at s o p) ≡ true = rw end (end-open s o) in
    skips-none s o d first 0 k p (omega arith) (length-none s.settings.invisible first (seen_at s o p) [] (open-stops first (showing_at s o p) here))

skips-more : (s : BufferValue) (o : ObjectLists) (d : Data) (first : Showing) (e : Seen) (es : List Seen) (k p : ℕ) → goes_on first (showing_of s.settings.invisible e) ≡ true → IsSkipped s o d first (suc k) (suc p) es → IsSkipped s o d first k p (e ∷ es)
skips-more s o d first e es k p more rest =
    let n = run_length s.settings.invisible first es in
    let length = length-more s.settings.invisible first e es more in
    let place : p + suc n ≡ suc p + n = omega arith in
    let offset : k + suc n ≡ suc k + n = omega arith in
    rw (length, place, offset) rest

-- the positions that belong to a run give nothing
pub skipped : (s : BufferValue) (o : ObjectLists) (d : Data) (first : Showing) (n k p : ℕ) → p + n ≡ s.text.end → IsSkipped s o d first k p (reading_from s o n p)
skipped s o d first zero k p far = skips-end s o d first k p (omega arith)
skipped s o d first (suc n) k p far = skips-by (skipped s o d first n (suc k) (suc p) (omega arith)) (goes_on first (showing_at s o p)) refl where
  skips-by : IsSkipped s o d first (suc k) (suc p) (reading_from s o n (suc p)) → (more : Bool) → goes_on first (showing_at s o p) ≡ more → IsSkipped s o d first k p (reading_from s o (suc n) p)
  skips-by rest false none =
      skips-none s o d first (suc n) k p far (length-none s.settings.invisible first (seen_at s o p) (if ends_block s p then [] else reading_from s o n (suc p)) none)
  skips-by rest true more =
      let closed = false_from_ne_true (is_open (showing_at s o p)) (λ e. both_ways (goes_on first (showing_at s o p)) (open-stops first (showing_at s o p) e) more) in
      let ender = false_from_ne_true (ends_block s p) (λ e. both_ways (is_open (showing_at s o p)) closed (ender-open s o p e)) in
      let es = cond-false (ends_block s p) [] (reading_from s o n (suc p)) ender in
      rw es (skips-more s o d first (seen_at s o p) (reading_from s o n (suc p)) k p more rest)

-- what is read at a position, and behind it
pub reading-behind : (s : BufferValue) (o : ObjectLists) (p : ℕ) → p ≤ s.text.end → reading s o p ≡ seen_at s o p ∷ drop 1 (reading s o p)
reading-behind s o p within = by-place (s.text.end - p) where
  by-place : (n : ℕ) → reading_from s o n p ≡ seen_at s o p ∷ drop 1 (reading_from s o n p)
  by-place zero = refl
  by-place (suc n) = refl

-- how far the run of a position goes behind it
abbrev run_behind : BufferValue → ObjectLists → ℕ → ℕ
run_behind s o p = run_length s.settings.invisible (showing_at s o p) (drop 1 (reading s o p))

-- the pieces of a position at an offset and of those after it
left-parts : (s : BufferValue) (o : ObjectLists) (d : Data) (k p : ℕ) → p ≤ s.text.end → left s o d k p ≡ string_pieces k (showing_at s o p).face (strings_at s p) ++ piece_at (scene s o d) (showing_at s o p) (accessible_char s.text p) k (suc k + run_behind s o p) ∷ pieces_from (scene s o d) (run_behind s o p) (suc k) (drop 1 (reading s o p))
left-parts s o d k p within = ap (pieces_from (scene s o d) 0 k) (reading-behind s o p within)

-- what is skipped behind a position that is no ender
behind-left : (s : BufferValue) (o : ObjectLists) (d : Data) (first : Showing) (k p : ℕ) → p ≤ s.text.end → ends_block s p ≡ false → IsSkipped s o d first (suc k) (suc p) (drop 1 (reading s o p))
behind-left s o d first k p within ender =
    let before = before-end s o p within ender in
    let rest = ap (drop 1) (reading-more s o p within ender) in
    rw rest (skipped s o d first (s.text.end - suc p) (suc k) (suc p) (omega arith))

-- a step from a position at an offset: it puts the strings before it, and then its piece, which ends before another position
pub record IsStep (s : BufferValue) (o : ObjectLists) (d : Data) (start p to : ℕ) (showing : Showing) (x : Piece) (before mid after : List Piece → List Item) : Type 0 where
  pub strings : (ys : List Piece) → mid ys ≡ before (string_pieces (p - start) showing.face (strings_at s p) ++ ys)
  pub put : (ys : List Piece) → after ys ≡ mid (x ∷ ys)
  pub shown : showing ≡ showing_at s o p
  pub run : to ≡ suc p + run_length s.settings.invisible showing (drop 1 (reading s o p))
  pub piece : x ≡ piece_at (scene s o d) showing (accessible_char s.text p) (p - start) (to - start)
  pub first : start ≤ p
  pub last : p ≤ s.text.end

-- where a step's piece ends, as a position and counted from the start
goes-to : (s : BufferValue) (o : ObjectLists) (d : Data) (start p to : ℕ) (showing : Showing) (x : Piece) (before mid after : List Piece → List Item) → IsStep s o d start p to showing x before mid after → (to ≡ suc p + run_behind s o p) × (to - start ≡ suc (p - start) + run_behind s o p)
goes-to s o d start p to showing x before mid after is =
    let place : to ≡ suc p + run_behind s o p = rw is.shown at is.run in
    (place, omega (arith, is.first, place))

made : (s : BufferValue) (o : ObjectLists) (d : Data) (start p to : ℕ) (showing : Showing) (x : Piece) (before mid after : List Piece → List Item) (xs : List Piece) → IsStep s o d start p to showing x before mid after → after xs ≡ before (string_pieces (p - start) (showing_at s o p).face (strings_at s p) ++ piece_at (scene s o d) (showing_at s o p) (accessible_char s.text p) (p - start) (suc (p - start) + run_behind s o p) ∷ xs)
made s o d start p to showing x before mid after xs is =
    let goes = goes-to s o d start p to showing x before mid after is in
    is.put xs ∙ is.strings (x ∷ xs) ∙ rw (is.piece, is.shown, goes.1)

-- a position ends a block exactly where the piece that is put is an ender
step-ender : (s : BufferValue) (o : ObjectLists) (d : Data) (start p to : ℕ) (showing : Showing) (x : Piece) (before mid after : List Piece → List Item) → IsStep s o d start p to showing x before mid after → ends_block s p ≡ shows_ender x.kind
step-ender s o d start p to showing x before mid after is =
    let goes = goes-to s o d start p to showing x before mid after is in
    sym (rw (is.piece, is.shown, goes.1) (ends-where (scene s o d) (seen_at s o p) (drop 1 (reading s o p)) (p - start)))

pub step-ends : (s : BufferValue) (o : ObjectLists) (d : Data) (start p to : ℕ) (showing : Showing) (x : Piece) (before mid after : List Piece → List Item) → IsStep s o d start p to showing x before mid after → shows_ender x.kind ≡ true → after [] ≡ before (pieces_left s (scene s o d) start p)
step-ends s o d start p to showing x before mid after is ends =
    let ender = step-ender s o d start p to showing x before mid after is ∙ ends in
    let none = ap (drop 1) (reads-one s o (s.text.end - p) p ender) in
    let parts = left-parts s o d (p - start) p is.last in
    let rest : pieces_from (scene s o d) (run_behind s o p) (suc (p - start)) (drop 1 (reading s o p)) ≡ [] = rw none in
    made s o d start p to showing x before mid after [] is ∙ ap before (sym (rw rest at parts))

pub step-goes : (s : BufferValue) (o : ObjectLists) (d : Data) (start p to : ℕ) (showing : Showing) (x : Piece) (before mid after : List Piece → List Item) → IsStep s o d start p to showing x before mid after → shows_ender x.kind ≡ false → (p < to) × (to ≤ s.text.end) × (after (pieces_left s (scene s o d) start to) ≡ before (pieces_left s (scene s o d) start p))
step-goes s o d start p to showing x before mid after is none =
    let ender = step-ender s o d start p to showing x before mid after is ∙ none in
    let k = p - start in
    let skips = behind-left s o d (showing_at s o p) k p is.last ender in
    let goes = goes-to s o d start p to showing x before mid after is in
    let there : pieces_left s (scene s o d) start to ≡ left s o d (suc k + run_behind s o p) (suc p + run_behind s o p) = rw (goes.1, goes.0) in
    let parts = left-parts s o d k p is.last in
    let first-parts = string_pieces k (showing_at s o p).face (strings_at s p) in
    let own = piece_at (scene s o d) (showing_at s o p) (accessible_char s.text p) k (suc k + run_behind s o p) in
    let all = parts ∙ ap (λ (ys : List Piece). first-parts ++ own ∷ ys) (skips.0 ∙ sym there) in
    (omega (arith, goes.0), omega (arith, goes.0, skips.1), made s o d start p to showing x before mid after (pieces_left s (scene s o d) start to) is ∙ ap before (sym all))

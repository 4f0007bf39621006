-- Changes that are joined with none and with all.
use Rattle.std.proofs.Common.{◌≡◌, ℕ, zero, suc, ◌+◌, ◌-◌, ◌^◌, ◌<◌, ◌≤◌, min, max, nat_le, Bool, true, false, ltb, ◌&&◌, ◌||◌, if◌then◌else◌, List, ℤ, pos, negsuc, ◌+ℤ◌, ◌-ℤ◌, refl, sym, ap, ◌∙◌, arith}
use Rattle.std.proofs.Math.Bool.{or-false}
use Rattle.std.proofs.Math.IntN.{+ℤ_idl, +ℤ_idr}
use Rattle.std.proofs.lemmas.Bool.{and_from, and_left, le-leb, lt-leb, or_from, or_right, true≢false}
use Rattle.rd_base.proofs.Choices.{either}
use Rattle.rd_base.specs.Lists.{moved}
use Rattle.rd_matrix.specs.Blocks.{IsAmong, first_start}
use Rattle.rd_matrix.specs.Sources.{SourceValues, IsSource}
use Rattle.rd_matrix.specs.declared.block.Block.{Block}
use Rattle.rd_matrix.specs.declared.matrix.Entry.{Entry}
use Rattle.rd_reuse.specs.Changes.{IsChange, all, change_of, edit, is_all, is_small, join, none}
use Rattle.rd_reuse.specs.Keeping.{AreRight, are_whole, is_kept, is_outside, taken}
use Rattle.rd_reuse.specs.declared.change.Change.{Change}
use Rattle.rd_reuse.proofs.Changes.{all-is, change-by}
use Rattle.rd_matrix.proofs.HeldLemmas.{later-start}
use Rattle.rd_rows.specs.Copies.{shown_rows}
use Rattle.rd_rows.specs.Shapes.{ShapeValues}

pub all-last : (c : Change) → join c all ≡ all
all-last c =
    ap (λ (t : Bool). if t then all else change_of (min c.head all.head) (max (moved all.added c.tail) all.tail) (c.added +ℤ all.added)) (or_right (is_all c) (is_all all) refl)

-- the parts of a change make that change, and where it is all they need not
made-of-parts : (c : Change) (t : Bool) (head tail : ℕ) (added : ℤ) → IsChange c → t ≡ is_all c → head ≡ c.head → tail ≡ c.tail → added ≡ c.added → (if t then all else change_of head tail added) ≡ c
made-of-parts c true head tail added is t h l a = sym (all-is c (sym t))
made-of-parts c false head tail added is t h l a =
    ap (λ n. change_of n tail added) h
    ∙ (ap (λ n. change_of c.head n added) l
    ∙ (ap (λ n. change_of c.head c.tail n) a
    ∙ ap (λ (b : Bool). if b then record { head = c.head; tail = c.tail; added = c.added } else all) (and_from (nat_le c.tail 4294967295) (is_small c.added) (le-leb c.tail 4294967295 is.tail) is.added)))

pub none-last : (c : Change) → IsChange c → join c none ≡ c
none-last c is =
    let head : min c.head 4294967295 ≡ c.head = let h = is.head in omega (arith, h) in
    let tail : max (c.tail + 0) 0 ≡ c.tail = omega arith in
    made-of-parts c (is_all c || is_all none) (min c.head 4294967295) (max (c.tail + 0) 0) (c.added +ℤ pos 0) is (or-false (is_all c)) head tail (+ℤ_idr c.added)

pub none-first : (c : Change) → IsChange c → moved c.added 0 ≤ c.tail → join none c ≡ c
none-first c is low =
    let head : min 4294967295 c.head ≡ c.head = let h = is.head in omega (arith, h) in
    let tail : max (moved c.added 0) c.tail ≡ c.tail = omega (arith, low) in
    made-of-parts c (is_all none || is_all c) (min 4294967295 c.head) (max (moved c.added 0) c.tail) (pos 0 +ℤ c.added) is refl head tail (+ℤ_idl c.added)

-- an edit adds no more than what stands before its tail

moved-minus : (a r : ℕ) → moved (pos a -ℤ pos r) 0 ≤ a
moved-minus a zero = omega arith
moved-minus a (suc r) = either (λ (c : ℤ). moved c 0 ≤ a) (ltb a (suc r)) (negsuc (suc r - suc a)) (pos (a - suc r)) (omega arith) (omega arith)

pub edit-low : (from removed added : ℕ) → moved (edit from removed added).added 0 ≤ (edit from removed added).tail
edit-low from removed added =
    let low = moved-minus added removed in
    either (λ (c : Change). moved c.added 0 ≤ c.tail) (nat_le (from + added + 1) 4294967295 && is_small (pos added -ℤ pos removed)) _ _ (omega (arith, low)) (omega arith)

pub edit-is : (from removed added : ℕ) → from ≤ 4294967295 → IsChange (edit from removed added)
edit-is from removed added low = change-by (nat_le (from + added + 1) 4294967295 && is_small (pos added -ℤ pos removed)) from (from + added + 1) (pos added -ℤ pos removed) refl low

pub none-kept : (old : List Entry) (b : Block) → b.start < b.end → b.end < 2 ^ 32 → is_kept old all b ≡ false
none-kept old b some small =
    let below = lt-leb b.end 0 (omega (arith, some)) in
    let behind = lt-leb 4294967295 b.start (omega (arith, some, small)) in
    and_left (is_outside all b) (are_whole b.base (shown_rows (taken old all b.start))) (or_from (nat_le b.end 0) (nat_le 4294967295 b.start) below behind)

pub all-right : (m : SourceValues) (old : List Entry) (shape : ShapeValues) → IsSource m → ((b : Block) → IsAmong m.blocks b → b.end < 2 ^ 32) → AreRight m old all shape
all-right m old shape source small = λ b among kept.
    let some = (later-start (first_start m.blocks) among.0 m.blocks b source.blocks.stand among.1).1 in
    absurd (true≢false (sym kept ∙ none-kept old b some (small b among)))

-- Rows put in place one after another, and the parts of a plan.
use Rattle.std.proofs.Common.{◌≡◌, if◌then◌else◌, ℕ, zero, suc, ◌+◌, ◌-◌, ◌<◌, ◌≤◌, Bool, true, false, not, nat_lt, nat_le, min, List, [], ◌∷◌, ◌++◌, length, get_or, set, take, drop, map, replicate, Option, None, Some, refl, sym, ap, ap₂, ◌∙◌, arith, append_assoc, append-nil}
use Rattle.std.specs.List.{AllByRecursion}
use Rattle.std.proofs.lemmas.List.Elements.{recursion_from_All, All-from_recursion}
use Rattle.std.proofs.lemmas.Bool.Decides.{nat_tests}
use Rattle.std.proofs.lemmas.List.{drop_more, take_more, set_at, length-take-le, length-append, take_all, take_at, length-map, get_or-map, length-drop, get_or-replicate, drop-replicate, get_or-append_right, length-replicate}
use Rattle.rd_base.specs.declared.cell.Cell.{Cell}
use Rattle.rd_term.specs.Pictures.{Picture, IsGrid, blank, blank_row, width_of}
use Rattle.rd_term.specs.Shifts.{cleared}
use Rattle.rd_update.specs.Updates.{differs, row_bytes, rows_bytes, rows_after, allows, less_one, differing, within, is_done, blank_like, start, opening, update, move}
use Rattle.rd_update.specs.Plans.{Prepared, parts_from, planned, sent_of, ArePartsOf, no_part, front_if, front_within, part_if, bytes_if, old_row, HaveOneSize}
use Rattle.rd_update.specs.declared.plan.ChangedRow.{ChangedRow}
use Rattle.rd_update.specs.declared.plan.Sent.{Sent}

-- ---- one list over another, up to a place

pub seam : {X : Type 0} (a b : List X) (i : ℕ) (d : X) → i < length a → i < length b → set (take i a ++ drop i b) i (get_or a i d) ≡ take (i + 1) a ++ drop (i + 1) b
seam a b i d p q =
    let here = get_or a i d in
    let n : length (take i a) ≡ i = length-take-le i a (omega arith) in
    ap (λ xs. set (take i a ++ xs) i here) (drop_more b i d q)
    ∙ set_at (take i a) (get_or b i d) (drop (i + 1) b) here i n
    ∙ sym (append_assoc (take i a) (here ∷ []) (drop (i + 1) b))
    ∙ ap (λ xs. xs ++ drop (i + 1) b) (sym (take_more a i d p))

-- a row more of a screen that has those of others up to it
pub seam-row : (screen before : Picture) (whole : List (List Cell)) (row : ℕ) (cells : List Cell)
    → before ≡ record screen { rows = take row whole ++ drop row screen.rows } → cells ≡ get_or whole row [] → row < length whole → row < length screen.rows
    → (let after : Picture = record before { rows = set before.rows row cells } in after) ≡ record screen { rows = take (row + 1) whole ++ drop (row + 1) screen.rows }
seam-row screen before whole row cells is same here there =
    ap (λ (s : Picture). record s { rows = set s.rows row cells }) is
    ∙ ap (λ rows. record screen { rows = rows }) (ap (λ x. set (take row whole ++ drop row screen.rows) row x) same ∙ seam whole screen.rows row [] here there)

pub length-seam : {X : Type 0} (a b : List X) (i : ℕ) → length a ≡ length b → i ≤ length a → length (take i a ++ drop i b) ≡ length a
length-seam a b i same p = omega (arith, length-append (take i a) (drop i b), length-take-le i a p, length-drop i b)

-- ---- the parts

parts-count : (d : Bool) (row at : ℕ) (more other : List ChangedRow) (n : ℕ) → length more ≡ n → length other ≡ n
    → length (if d then (record { row = row; start = at }) ∷ more else other) ≡ (if d then suc n else n)
parts-count true row at more other n p q = ap suc p
parts-count false row at more other n p q = q

pub length-parts : (row at : ℕ) (olds news : List (List Cell)) → length (parts_from row at olds news) ≡ differing olds news
length-parts row at [] [] = refl
length-parts row at [] (n ∷ ns) = refl
length-parts row at (o ∷ os) [] = refl
length-parts row at (o ∷ os) (n ∷ ns) =
    parts-count (differs o n) row at (parts_from (row + 1) (at + length (row_bytes row o n)) os ns) (parts_from (row + 1) at os ns) (differing os ns)
    (length-parts (row + 1) (at + length (row_bytes row o n)) os ns) (length-parts (row + 1) at os ns)

-- ---- one row in place of the rows from a place on

pub length-replica : {X : Type 0} (a : List X) (from : ℕ) (x : X) → from ≤ length a → length (take from a ++ replicate (length a - from) x) ≡ length a
length-replica a from x le =
    length-append (take from a) (replicate (length a - from) x)
    ∙ omega (arith, length-take-le from a le, length-replicate (length a - from) x)

pub at-replica : {X : Type 0} (a : List X) (from r : ℕ) (x d : X) → from ≤ r → r < length a → from ≤ length a → get_or (take from a ++ replicate (length a - from) x) r d ≡ x
at-replica a from r x d le lt in_a =
    get_or-append_right (take from a) (replicate (length a - from) x) from r d (length-take-le from a in_a) le
    ∙ get_or-replicate (length a - from) (r - from) x d (omega arith)

-- ---- bytes under a limit

-- the bytes before part k of a plan are those of an update with the limit k
prefix-step : (d : Bool) (row at k : ℕ) (o n : List Cell) (os ns : List (List Cell)) (pre fin : List ℕ)
    → ((at k : ℕ) (pre : List ℕ) → length pre ≡ at → k < length (parts_from (row + 1) at os ns)
    → take (get_or (parts_from (row + 1) at os ns) k no_part).start ((pre ++ rows_bytes (row + 1) None os ns) ++ fin) ≡ pre ++ rows_bytes (row + 1) (Some k) os ns)
    → length pre ≡ at
    → k < length (if d then (record { row = row; start = at }) ∷ parts_from (row + 1) (at + length (row_bytes row o n)) os ns else parts_from (row + 1) at os ns)
    → take (get_or (if d then (record { row = row; start = at }) ∷ parts_from (row + 1) (at + length (row_bytes row o n)) os ns else parts_from (row + 1) at os ns) k no_part).start
    ((pre ++ (if not d then rows_bytes (row + 1) None os ns else if allows None then row_bytes row o n ++ rows_bytes (row + 1) (less_one None) os ns else [])) ++ fin)
    ≡ pre ++ (if not d then rows_bytes (row + 1) (Some k) os ns else if allows (Some k) then row_bytes row o n ++ rows_bytes (row + 1) (less_one (Some k)) os ns else [])
prefix-step false row at k o n os ns pre fin ih e p = ih at k pre e p
prefix-step true row at zero o n os ns pre fin ih e p =
    ap (take at) (append_assoc pre (row_bytes row o n ++ rows_bytes (row + 1) None os ns) fin)
    ∙ take_at pre ((row_bytes row o n ++ rows_bytes (row + 1) None os ns) ++ fin) at e
    ∙ sym (append-nil pre)
prefix-step true row at (suc k) o n os ns pre fin ih e p =
    let rb = row_bytes row o n in
    let next = at + length (row_bytes row o n) in
    let len : length (pre ++ rb) ≡ at + length (row_bytes row o n) = length-append pre rb ∙ ap (λ j. j + length rb) e in
    let back : suc k - 1 ≡ k = omega arith in
    ap (λ xs. take (get_or (parts_from (row + 1) next os ns) k no_part).start (xs ++ fin)) (sym (append_assoc pre rb (rows_bytes (row + 1) None os ns)))
    ∙ ih next k (pre ++ rb) len (omega arith)
    ∙ append_assoc pre rb (rows_bytes (row + 1) (Some k) os ns)
    ∙ ap (λ j. pre ++ (rb ++ rows_bytes (row + 1) (Some j) os ns)) (sym back)

prefix : (row at k : ℕ) (olds news : List (List Cell)) (pre fin : List ℕ) → length pre ≡ at → k < length (parts_from row at olds news)
    → take (get_or (parts_from row at olds news) k no_part).start ((pre ++ rows_bytes row None olds news) ++ fin) ≡ pre ++ rows_bytes row (Some k) olds news
prefix row at k [] [] pre fin e p = absurd (omega arith)
prefix row at k [] (n ∷ ns) pre fin e p = absurd (omega arith)
prefix row at k (o ∷ os) [] pre fin e p = absurd (omega arith)
prefix row at k (o ∷ os) (n ∷ ns) pre fin e p =
    prefix-step (differs o n) row at k o n os ns pre fin (λ at k pre e p. prefix (row + 1) at k os ns pre fin e p) e p

-- a limit that allows all rows
done-limit : (limit : Option ℕ) (d : ℕ) → is_done limit (suc d) ≡ true → (allows limit ≡ true) × (is_done (less_one limit) d ≡ true)
done-limit None d e = (refl, refl)
done-limit (Some zero) d e = absurd (let h : suc d ≤ 0 = grind (arith, nat_tests) in omega arith)
done-limit (Some (suc m)) d e = (refl, grind (arith, nat_tests))

-- what is made of a row and of those behind it, where the limit allows all that differ
done-step : {A : Type 0} (d : Bool) (limit : Option ℕ) (count : ℕ) (alike more kept : A) (whole : Bool → A) → (is_done limit count ≡ true → alike ≡ whole false) → (is_done (less_one limit) count ≡ true → more ≡ whole true)
    → is_done limit (if d then suc count else count) ≡ true → (if not d then alike else if allows limit then more else kept) ≡ whole d
done-step false limit count alike more kept whole g h t = g t
done-step true limit count alike more kept whole g h t =
    let parts = done-limit limit count t in
    ap (λ x. if x then more else kept) parts.0 ∙ h parts.1

done-bytes : (row : ℕ) (limit : Option ℕ) (olds news : List (List Cell)) → is_done limit (differing olds news) ≡ true → rows_bytes row limit olds news ≡ rows_bytes row None olds news
done-bytes row limit [] [] t = refl
done-bytes row limit [] (n ∷ ns) t = refl
done-bytes row limit (o ∷ os) [] t = refl
done-bytes row limit (o ∷ os) (n ∷ ns) t =
    let own = row_bytes row o n in
    done-step (differs o n) limit (differing os ns) (rows_bytes (row + 1) limit os ns) (own ++ rows_bytes (row + 1) (less_one limit) os ns) []
    (λ d. if not d then rows_bytes (row + 1) None os ns else own ++ rows_bytes (row + 1) None os ns)
    (done-bytes (row + 1) limit os ns) (λ h. ap (λ x. own ++ x) (done-bytes (row + 1) (less_one limit) os ns h)) t

pub done-rows : (limit : Option ℕ) (olds news : List (List Cell)) → length olds ≡ length news → is_done limit (differing olds news) ≡ true → rows_after limit olds news ≡ news
done-rows limit [] [] e t = refl
done-rows limit [] (n ∷ ns) e t = absurd (cc)
done-rows limit (o ∷ os) [] e t = absurd (cc)
done-rows limit (o ∷ os) (n ∷ ns) e t =
    done-step (differs o n) limit (differing os ns) (n ∷ rows_after limit os ns) (n ∷ rows_after (less_one limit) os ns) (o ∷ os) (λ d. n ∷ ns)
    (λ h. ap (λ x. n ∷ x) (done-rows limit os ns (omega arith) h)) (λ h. ap (λ x. n ∷ x) (done-rows (less_one limit) os ns (omega arith) h)) t

-- ---- what is sent

front-chosen : (b : Bool) (current : Option Picture) (target : Picture) (limit : ℕ) → b ≡ nat_lt limit (length (planned current target).parts)
    → (take (front_if b (planned current target) limit).0 (planned current target).bytes ≡ (update current target (Some limit)).bytes)
    × ((front_if b (planned current target) limit).1 ≡ sent_of (update current target (Some limit)))
front-chosen true current target limit e =
    let old = start current target in
    let n = length-parts 0 (length (opening current)) old.rows target.rows in
    let less : limit < length (parts_from 0 (length (opening current)) old.rows target.rows) = grind (arith, nat_tests) in
    let not_done : nat_le (differing old.rows target.rows) limit ≡ false = grind (arith, nat_tests) in
    let count : min limit (differing old.rows target.rows) ≡ limit = omega arith in (
      prefix 0 (length (opening current)) limit old.rows target.rows (opening current) (move target.row target.column) refl less
          ∙ sym (append-nil (opening current ++ rows_bytes 0 (Some limit) old.rows target.rows))
          ∙ ap (λ d. opening current ++ rows_bytes 0 (Some limit) old.rows target.rows ++ (if d then move target.row target.column else [])) (sym not_done),
      λ i. record { rows = sym count i; done = sym not_done i },
    )
front-chosen false current target limit e =
    let old = start current target in
    let n = length-parts 0 (length (opening current)) old.rows target.rows in
    let more : length (parts_from 0 (length (opening current)) old.rows target.rows) ≤ limit = grind (arith, nat_tests) in
    let is_all : nat_le (differing old.rows target.rows) limit ≡ true = grind (arith, nat_tests) in
    let count : min limit (differing old.rows target.rows) ≡ differing old.rows target.rows = omega arith in (
      take_all (length (planned current target).bytes) (planned current target).bytes (omega arith)
          ∙ ap (λ xs. opening current ++ xs ++ move target.row target.column) (sym (done-bytes 0 (Some limit) old.rows target.rows is_all))
          ∙ ap (λ d. opening current ++ rows_bytes 0 (Some limit) old.rows target.rows ++ (if d then move target.row target.column else [])) (sym is_all),
      λ i. record { rows = (n ∙ sym count) i; done = sym is_all i },
    )

pub front-is : (current : Option Picture) (target : Picture) (limit : Option ℕ)
    → (take (front_within (planned current target) limit).0 (planned current target).bytes ≡ (update current target limit).bytes)
    × ((front_within (planned current target) limit).1 ≡ sent_of (update current target limit))
front-is current target None =
    let old = start current target in
    let n = length-parts 0 (length (opening current)) old.rows target.rows in (
      take_all (length (planned current target).bytes) (planned current target).bytes (omega arith),
      λ i. record { rows = n i; done = true },
    )
front-is current target (Some limit) = front-chosen (nat_lt limit (length (planned current target).parts)) current target limit refl

-- ---- the new current screen

-- the new rows before a row and the old ones from it on, where the first row given is that of a number
pub record AreNewBefore (first cut : ℕ) (olds news after : List (List Cell)) : Type 0 where
  pub low : first ≤ cut
  pub high : cut - first ≤ length news
  pub is : after ≡ take (cut - first) news ++ drop (cut - first) olds

cut-next : (row cut : ℕ) (o n : List Cell) (os ns after : List (List Cell)) → AreNewBefore (row + 1) cut os ns after → AreNewBefore row cut (o ∷ os) (n ∷ ns) (n ∷ after)
cut-next row cut o n os ns after h =
    let one : cut - row ≡ suc (cut - (row + 1)) = omega (arith, h.low) in
    record {
      low = omega (arith, h.low);
      high = omega (arith, h.low, h.high);
      is = ap (λ x. n ∷ x) h.is ∙ sym (ap (λ j. take j (n ∷ ns) ++ drop j (o ∷ os)) one);
    }

cut-step : (d : Bool) (row at k : ℕ) (o n : List Cell) (os ns : List (List Cell))
    → ((at k : ℕ) → k < length (parts_from (row + 1) at os ns) → AreNewBefore (row + 1) (get_or (parts_from (row + 1) at os ns) k no_part).row os ns (rows_after (Some k) os ns))
    → k < length (if d then (record { row = row; start = at }) ∷ parts_from (row + 1) (at + length (row_bytes row o n)) os ns else parts_from (row + 1) at os ns)
    → AreNewBefore row (get_or (if d then (record { row = row; start = at }) ∷ parts_from (row + 1) (at + length (row_bytes row o n)) os ns else parts_from (row + 1) at os ns) k no_part).row (o ∷ os) (n ∷ ns)
    (if not d then n ∷ rows_after (Some k) os ns else if allows (Some k) then n ∷ rows_after (less_one (Some k)) os ns else o ∷ os)
cut-step false row at k o n os ns ih p = cut-next row (get_or (parts_from (row + 1) at os ns) k no_part).row o n os ns (rows_after (Some k) os ns) (ih at k p)
cut-step true row at zero o n os ns ih p =
    let none : row - row ≡ 0 = omega arith in
    record { low = omega arith; high = omega arith; is = sym (ap (λ j. take j (n ∷ ns) ++ drop j (o ∷ os)) none) }
cut-step true row at (suc k) o n os ns ih p =
    let back : k ≡ suc k - 1 = omega arith in
    let next = at + length (row_bytes row o n) in
    let cut = cut-next row (get_or (parts_from (row + 1) next os ns) k no_part).row o n os ns (rows_after (Some k) os ns) (ih next k (omega arith)) in
    record { low = cut.low; high = cut.high; is = sym (ap (λ j. n ∷ rows_after (Some j) os ns) back) ∙ cut.is }

pub cut-is : (row at k : ℕ) (olds news : List (List Cell)) → k < length (parts_from row at olds news)
    → AreNewBefore row (get_or (parts_from row at olds news) k no_part).row olds news (rows_after (Some k) olds news)
cut-is row at k [] [] p = absurd (omega arith)
cut-is row at k [] (n ∷ ns) p = absurd (omega arith)
cut-is row at k (o ∷ os) [] p = absurd (omega arith)
cut-is row at k (o ∷ os) (n ∷ ns) p = cut-step (differs o n) row at k o n os ns (λ at k p. cut-is (row + 1) at k os ns p) p

-- an update that is stopped
pub stopped : (limit : Option ℕ) (count rows : ℕ) (done : Bool) → rows ≡ within limit count → done ≡ is_done limit count → done ≡ false → (limit ≡ Some rows) × (rows < count)
stopped None count rows done e f g = absurd (let h : true ≡ false = sym f ∙ g in cc)
stopped (Some k) count rows done e f g =
    let less : k < count = (let h : nat_le count k ≡ false = sym f ∙ g in grind (arith, nat_tests)) in
    let same : k ≡ rows = omega arith in
    (ap Some same, omega arith)

pub after-stopped : (current : Option Picture) (target : Picture) (limit : Option ℕ) (rows from : ℕ) → limit ≡ Some rows
    → rows < differing (start current target).rows target.rows → from ≡ (get_or (planned current target).parts rows no_part).row
    → (let s : Picture = record (start current target) { rows = take from target.rows ++ drop from (start current target).rows } in s) ≡ (update current target limit).screen
after-stopped current target limit rows from e less f =
    let old = start current target in
    let at = length (opening current) in
    let inside : rows < length (parts_from 0 at old.rows target.rows) = omega (arith, length-parts 0 at old.rows target.rows) in
    let cut = cut-is 0 at rows old.rows target.rows inside in
    let all = differing old.rows target.rows in
    let not_done : nat_le (differing old.rows target.rows) rows ≡ false = grind (arith, nat_tests) in
    let from_is : (get_or (parts_from 0 at old.rows target.rows) rows no_part).row - 0 ≡ from = omega arith in
    let after : take from target.rows ++ drop from old.rows ≡ rows_after (Some rows) old.rows target.rows =
    sym (cut.is ∙ ap (λ j. take j target.rows ++ drop j old.rows) from_is) in
    let Screen : Bool → Picture = λ d. record { rows = rows_after (Some rows) old.rows target.rows; row = if d then target.row else old.row; column = if d then target.column else old.column } in
    ap (λ x. let s : Picture = record old { rows = x } in s) after ∙ ap Screen (sym not_done) ∙ ap (λ l. (update current target l).screen) (sym e)

pub cut-within : (current : Option Picture) (target : Picture) (rows : ℕ) → rows < differing (start current target).rows target.rows
    → (get_or (planned current target).parts rows no_part).row ≤ length target.rows
cut-within current target rows less =
    let old = start current target in
    let at = length (opening current) in
    let inside : rows < length (parts_from 0 at old.rows target.rows) = omega (arith, length-parts 0 at old.rows target.rows) in
    omega (arith, (cut-is 0 at rows old.rows target.rows inside).high)

-- ---- what is pushed

-- one row more: what its cells add, and what the rows behind it add, are what the rows from it on add
pub pushed : {A : Type 0} (F : List (List Cell) → List (List Cell) → List A) (olds news : List (List Cell)) (row : ℕ) (o n : List Cell) (done piece more rest whole : List A)
    → row < length olds → row < length news → o ≡ get_or olds row [] → n ≡ get_or news row []
    → piece ++ rest ≡ F (o ∷ drop (row + 1) olds) (n ∷ drop (row + 1) news)
    → more ≡ done ++ piece → done ++ F (drop row olds) (drop row news) ≡ whole → more ++ rest ≡ whole
pushed F olds news row o n done piece more rest whole p q e f split m h =
    ap (λ xs. xs ++ rest) m
    ∙ append_assoc done piece rest
    ∙ ap (λ xs. done ++ xs) (split
    ∙ ap (λ xs. F xs (n ∷ drop (row + 1) news)) (ap (λ x. x ∷ drop (row + 1) olds) e ∙ sym (drop_more olds row [] p))
    ∙ ap (F (drop row olds)) (ap (λ x. x ∷ drop (row + 1) news) f ∙ sym (drop_more news row [] q)))
    ∙ h

pub bytes-chosen : (d : Bool) (rb rest : List ℕ) → bytes_if d rb ++ rest ≡ (if not d then rest else if allows None then rb ++ rest else [])
bytes-chosen false rb rest = refl
bytes-chosen true rb rest = refl

pub parts-chosen : (d : Bool) (row : ℕ) (bytes more rb : List ℕ) (os ns : List (List Cell)) → more ≡ bytes ++ bytes_if d rb
    → part_if d row (length bytes) ++ parts_from (row + 1) (length more) os ns
    ≡ (if d then (record { row = row; start = length bytes }) ∷ parts_from (row + 1) (length bytes + length rb) os ns else parts_from (row + 1) (length bytes) os ns)
parts-chosen false row bytes more rb os ns m = ap (λ k. parts_from (row + 1) k os ns) (ap length (m ∙ append-nil bytes))
parts-chosen true row bytes more rb os ns m = ap (λ k. (record { row = row; start = length bytes }) ∷ parts_from (row + 1) k os ns) (ap length m ∙ length-append bytes rb)

pub start-row : (current : Option Picture) (target : Picture) (blanks : List Cell) (row : ℕ) → row < length target.rows
    → blanks ≡ blank_row (width_of target.rows) → IsGrid (width_of target.rows) target.rows
    → old_row current blanks row ≡ get_or (start current target).rows row []
start-row None target blanks row p e each =
    e ∙ sym (get_or-map (λ cells. blank_row (length cells)) target.rows row [] [] p ∙ ap blank_row (each row [] p))
start-row (Some screen) target blanks row p e each = refl

pub start-length : (current : Option Picture) (target : Picture) → HaveOneSize current target → length (start current target).rows ≡ length target.rows
start-length None target h = length-map target.rows (λ cells. blank_row (length cells))
start-length (Some screen) target h = h.0

-- ---- what a plan keeps

few-step : (d : Bool) (a b : ℕ) → a ≤ b → (if d then suc a else a) ≤ suc b
few-step true a b p = omega arith
few-step false a b p = omega arith

few-differ : (olds news : List (List Cell)) → differing olds news ≤ length news
few-differ [] [] = omega arith
few-differ [] (n ∷ ns) = omega arith
few-differ (o ∷ os) [] = omega arith
few-differ (o ∷ os) (n ∷ ns) = few-step (differs o n) (differing os ns) (length ns) (few-differ os ns)

within-step : (d : Bool) (row at n : ℕ) (rb rest : List ℕ) (more other : List ChangedRow)
    → (at + length rb + length rest ≤ n → AllByRecursion (λ part. part.start ≤ n) more) → (at + length rest ≤ n → AllByRecursion (λ part. part.start ≤ n) other)
    → at + length (if not d then rest else if allows None then rb ++ rest else []) ≤ n
    → AllByRecursion (λ part. part.start ≤ n) (if d then (record { row = row; start = at }) ∷ more else other)
within-step true row at n rb rest more other f g p = (omega arith, f (omega (arith, length-append rb rest)))
within-step false row at n rb rest more other f g p = g p

parts-within : (row at n : ℕ) (olds news : List (List Cell)) → at + length (rows_bytes row None olds news) ≤ n → AllByRecursion (λ part. part.start ≤ n) (parts_from row at olds news)
parts-within row at n [] [] p = tt
parts-within row at n [] (y ∷ ys) p = tt
parts-within row at n (x ∷ xs) [] p = tt
parts-within row at n (x ∷ xs) (y ∷ ys) p =
    within-step (differs x y) row at n (row_bytes row x y) (rows_bytes (row + 1) None xs ys) (parts_from (row + 1) (at + length (row_bytes row x y)) xs ys) (parts_from (row + 1) at xs ys)
    (parts-within (row + 1) (at + length (row_bytes row x y)) n xs ys) (parts-within (row + 1) at n xs ys) p

pub parts-of : (current : Option Picture) (target : Picture) → length target.rows ≤ 200 → ArePartsOf (planned current target).bytes (planned current target).parts
parts-of current target few =
    let old = start current target in
    let at = length (opening current) in
    let rows = rows_bytes 0 None old.rows target.rows in
    let total = length-append (opening current ++ rows) (move target.row target.column) in
    let front = length-append (opening current) rows in
    let bytes = (planned current target).bytes in
    record {
      few = omega (arith, length-parts 0 at old.rows target.rows, few-differ old.rows target.rows);
      each = All-from_recursion (λ (part : ChangedRow). part.start ≤ length (planned current target).bytes) (parts_from 0 at old.rows target.rows) (parts-within 0 at (length bytes) old.rows target.rows (omega arith));
    }

-- ---- blank rows

pub blank_like-is : (rows : List (List Cell)) (w : ℕ) → AllByRecursion (λ row. length row ≡ w) rows → blank_like rows ≡ replicate (length rows) (blank_row w)
blank_like-is [] w h = refl
blank_like-is (row ∷ rows) w h = let rest = blank_like-is rows w h.1 in let one = ap blank_row h.0 in cc

-- rows of one width, once cleared, are as many rows of known blanks
pub cleared-all : (w : ℕ) (rows : List (List (Option Cell))) → AllByRecursion (λ row. length row ≡ w) rows → map cleared rows ≡ replicate (length rows) (replicate w (Some blank))
cleared-all w [] h = refl
cleared-all w (row ∷ rows) h =
    ap (λ k. replicate k (Some blank) ∷ map cleared rows) h.0
    ∙ ap (λ xs. replicate w (Some blank) ∷ xs) (cleared-all w rows h.1)

pub drop-blanks : (rows : List (List Cell)) (from w : ℕ) → IsGrid w rows → drop from (blank_like rows) ≡ replicate (length rows - from) (blank_row w)
drop-blanks rows from w h =
    ap (drop from) (blank_like-is rows w (recursion_from_All (λ row. length row ≡ w) rows h)) ∙ drop-replicate from (length rows) (blank_row w)

-- ---- what was told

pub after-done : (current : Option Picture) (target : Picture) (limit : Option ℕ) → HaveOneSize current target
    → is_done limit (differing (start current target).rows target.rows) ≡ true → target ≡ (update current target limit).screen
after-done current target limit size done =
    let old = start current target in
    let rows = done-rows limit old.rows target.rows (start-length current target size) done in
    let Screen : Bool → Picture = λ d. record { rows = rows_after limit old.rows target.rows; row = if d then target.row else old.row; column = if d then target.column else old.column } in
    ap (λ x. let s : Picture = record target { rows = x } in s) (sym rows) ∙ ap Screen (sym done)

pub stopped-less : (current : Option Picture) (target : Picture) (sent : Sent) (limit : Option ℕ) → sent ≡ sent_of (update current target limit) → sent.done ≡ false
    → (limit ≡ Some sent.rows) × (sent.rows < differing (start current target).rows target.rows)
stopped-less current target sent limit e done =
    stopped limit (differing (start current target).rows target.rows) sent.rows sent.done (ap (λ (s : Sent). s.rows) e) (ap (λ (s : Sent). s.done) e) done

-- ---- what is prepared

pub planned-made : (current : Option Picture) (target : Picture) (begun more bytes : List ℕ) (none parts : List ChangedRow) (row column : ℕ)
    → begun ≡ opening current → more ≡ begun ++ rows_bytes 0 None (start current target).rows target.rows
    → none ≡ [] → parts ≡ none ++ parts_from 0 (length begun) (start current target).rows target.rows
    → row ≡ target.row → column ≡ target.column → bytes ≡ more ++ move row column
    → let x : Prepared = record { bytes = bytes; parts = parts } in x ≡ planned current target
planned-made current target begun more bytes none parts row column b m n p r c e =
    let old = start current target in
    let rows = rows_bytes 0 None old.rows target.rows in
    let Made : List ℕ → List ChangedRow → Prepared = λ xs ps. record { bytes = xs; parts = ps } in
    ap₂ Made
    (e ∙ ap (λ xs. xs ++ move row column) (m ∙ ap (λ xs. xs ++ rows) b) ∙ ap (λ j. opening current ++ rows ++ move j column) r ∙ ap (λ j. opening current ++ rows ++ move target.row j) c)
    (p ∙ ap (λ xs. xs ++ parts_from 0 (length begun) old.rows target.rows) n ∙ ap (λ xs. parts_from 0 (length xs) old.rows target.rows) b)

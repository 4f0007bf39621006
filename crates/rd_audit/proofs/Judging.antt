-- When verdicts come, put together from what was read.
use Rattle.std.proofs.Common.{◌≡◌, ◌≢◌, ℕ, ◌+◌, ◌<◌, ◌≤◌, ◌⊎◌, inl, inr, if◌then◌else◌, List, [], ◌∷◌, length, map, Option, None, Some, is_some, is_ok, Result, Ok, Err, refl, sym, ap, subst, ◌∙◌, arith, length-append, true≢false}
use Rattle.std.specs.Prelude.{⊤}
use Rattle.std.specs.Io.KnownBytes.{Consumes}
use Rattle.std.proofs.KnownBytes.{Consumes-whole}
use Rattle.std.proofs.lemmas.Option.{MatchOption-at_some, same_Some}
use Rattle.rd_base.proofs.Equals.{cell-itself}
use Rattle.rd_base.proofs.Lists.{heads}
use Rattle.rd_base.specs.declared.cell.Cell.{Cell}
use Rattle.rd_base.specs.declared.limits.TheConstants.{FILE_BYTES}
use Rattle.rd_term.specs.Pictures.{Picture}
use Rattle.rd_term.specs.Terminals.{Shows, Tty, known}
use Rattle.rd_audit.specs.Dumps.{dump_in}
use Rattle.rd_audit.specs.Verdicts.{IsDifference, other_column, other_place, place_or, terminal_after, JudgesFile, Comes, IsBadFile, IsSound, IsJudged}
use Rattle.rd_audit.specs.declared.verdict.Verdict.{Verdict}
use Rattle.rd_audit.specs.declared.verdict.Difference.{Difference}
use Rattle.rd_audit.specs.declared.verdict.Difference.TheVariants as differences
use Rattle.rd_audit.specs.declared.verdict.Verdict.TheVariants.{Yes, No, Usage, BadDump, TooLong, ReadFault, WriteFault, NoMemory}

-- ---- what comes of a sound call

ok≢err : (dump : Picture) (n : ℕ) → Ok dump ≡ Err n → ⊥
ok≢err dump n e = true≢false (ap is_ok e)

-- the contents of the file that the word names are those that are told
told-is : (words : List (List ℕ)) (told : List ℕ → Option (List ℕ)) (left : Option (List ℕ)) (name : List ℕ) → (s : IsSound words told left) → words ≡ name ∷ [] → told name ≡ Some s.file
told-is words told left name s e = ap told (heads (sym e ∙ s.word)).0 ∙ s.contents

-- a file that is told to have a dump is not bad
not-bad : (told : Option (List ℕ)) (file : List ℕ) (dump : Picture) (n : ℕ) → told ≡ Some file → length file ≤ FILE_BYTES → dump_in file ≡ Ok dump → IsBadFile told n → ⊥
not-bad None file dump n e few good bad = true≢false (sym (ap is_some e))
not-bad (Some bytes) file dump n e few good (inl bad) =
    ok≢err dump n (sym good ∙ ap dump_in (sym (bad.1.1 ∙ same_Some bytes file e)) ∙ bad.2)
not-bad (Some bytes) file dump n e few good (inr bad) =
    let more : 8388608 < length file = subst (λ l. 8388608 < length l) (same_Some bytes file e) bad.1 in
    let most : length file ≤ 8388608 = few in
    absurd (omega (arith, more, most))

-- no more bytes are taken than there are
taken-within : (left after : Option (List ℕ)) (stream bytes : List ℕ) → left ≡ Some stream → Consumes left after bytes → length bytes ≤ length stream
taken-within None after stream bytes e c = absurd (true≢false (sym (ap is_some e)))
taken-within (Some xs) None stream bytes e c = absurd c
taken-within (Some xs) (Some ys) stream bytes e c =
    let all : length stream ≡ length bytes + length ys = ap length (sym (same_Some xs stream e) ∙ c) ∙ length-append bytes ys in
    omega (arith, all)

-- besides yes, no and want of memory nothing comes but a read fault, for which there is this cause
pub judged : (v : Verdict) (words : List (List ℕ)) (told : List ℕ → Option (List ℕ)) (left after : Option (List ℕ)) (bytes : List ℕ) (Cause Other : Type 0) → IsSound words told left
    → Consumes left after bytes → Comes v words told bytes after → (v ≡ ReadFault → Cause) → IsJudged v ⊎ (Cause ⊎ Other)
judged Yes words told left after bytes Cause Other s c j fault = inl tt
judged (No x) words told left after bytes Cause Other s c j fault = inl tt
judged Usage words told left after bytes Cause Other s c j fault = absurd (j.0 (ap length s.word))
judged (BadDump n) words told left after bytes Cause Other s c j fault =
    absurd (not-bad (told j.0) s.file s.dump n (told-is words told left j.0 s j.1) s.small s.good j.2.0)
judged TooLong words told left after bytes Cause Other s c j fault =
    let within = taken-within left after s.stream bytes s.bytes c in
    let most : length s.stream ≤ 16777216 = s.short in
    let more : 16777216 < length bytes = j.2.2 in
    absurd (omega (arith, within, most, more))
judged ReadFault words told left after bytes Cause Other s c j fault = inr (inl (fault refl))
judged WriteFault words told left after bytes Cause Other s c j fault = absurd j.2.2.1
judged NoMemory words told left after bytes Cause Other s c j fault = inl tt

-- ---- a stream that shows the dump gets yes

cells-known : (column : ℕ) (cells : List Cell) → other_column column cells (map Some cells) ≡ None
cells-known column [] = refl
cells-known column (cell ∷ cells) = ap (λ t. if t then other_column (column + 1) cells (map Some cells) else Some column) (cell-itself cell) ∙ cells-known (column + 1) cells

rows-known : (row : ℕ) (rows : List (List Cell)) → other_place row rows (known rows) ≡ None
rows-known row [] = refl
rows-known row (cells ∷ rows) = ap (λ o. place_or row o (other_place (row + 1) rows (known rows))) (cells-known 0 cells) ∙ rows-known (row + 1) rows

no-difference : (x : Difference) (p : Picture) (t : Tty) → Shows t p → IsDifference x p t → ⊥
no-difference differences.Confused p t s d = true≢false (sym d ∙ s.sure)
no-difference (differences.Cell row column) p t s (sure, place) =
    true≢false (sym (ap is_some (sym (rows-known 0 p.rows) ∙ ap (other_place 0 p.rows) (sym s.cells) ∙ place)))
no-difference differences.Cursor p t s (sure, place, apart) = apart s.cursor

same-dump : (p q : Picture) (r : Result Picture ℕ) → r ≡ Ok p → r ≡ Ok q → p ≡ q
same-dump p q r e f = let k : Ok p ≡ Ok q = sym e ∙ f in cc

no-no : (x : Difference) (told : Option (List ℕ)) (file stream : List ℕ) (dump : Picture) (left after : Option (List ℕ)) (bytes : List ℕ) → told ≡ Some file → dump_in file ≡ Ok dump → left ≡ Some stream
    → Shows (terminal_after dump stream) dump → Consumes left after bytes → JudgesFile (No x) told bytes after → ⊥
no-no x told file stream dump left after bytes t d e s c (other, (found, (small, is), good), ((short, end), differs)) =
    let same : other ≡ dump = same-dump other dump (dump_in file) (ap dump_in (sym (MatchOption-at_some ⊤ (λ bytes. found ≡ bytes) file t is)) ∙ good) d in
    let all = MatchOption-at_some ⊤ (λ xs. bytes ≡ xs) stream e (Consumes-whole left after bytes (λ xs. bytes ≡ xs) c end refl) in
    no-difference x dump (terminal_after dump stream) s (subst (λ b. IsDifference x dump (terminal_after dump b)) all (subst (λ p. IsDifference x p (terminal_after p bytes)) same differs))

-- yes comes only of a stream that shows the dump
yes-shows : (told : Option (List ℕ)) (file stream : List ℕ) (dump : Picture) (left after : Option (List ℕ)) (bytes : List ℕ) → told ≡ Some file → dump_in file ≡ Ok dump → left ≡ Some stream
    → Consumes left after bytes → JudgesFile Yes told bytes after → Shows (terminal_after dump stream) dump
yes-shows told file stream dump left after bytes t d e c (other, (found, (small, is), good), ((short, end), shows)) =
    let same : other ≡ dump = same-dump other dump (dump_in file) (ap dump_in (sym (MatchOption-at_some ⊤ (λ bytes. found ≡ bytes) file t is)) ∙ good) d in
    let all = MatchOption-at_some ⊤ (λ xs. bytes ≡ xs) stream e (Consumes-whole left after bytes (λ xs. bytes ≡ xs) c end refl) in
    subst (λ b. Shows (terminal_after dump b) dump) all (subst (λ p. Shows (terminal_after p bytes) p) same shows)

neither : {P : Type 0} → ⊥ ⊎ (⊥ ⊎ ⊥) → P
neither (inl h) = absurd h
neither (inr (inl h)) = absurd h
neither (inr (inr h)) = absurd h

pub only-yes : (v : Verdict) (words : List (List ℕ)) (told : List ℕ → Option (List ℕ)) (left after : Option (List ℕ)) (bytes : List ℕ) (s : IsSound words told left)
    → Shows (terminal_after s.dump s.stream) s.dump → Consumes left after bytes → Comes v words told bytes after → v ≢ ReadFault → v ≢ NoMemory → v ≡ Yes
only-yes Yes words told left after bytes s shows c j read found = refl
only-yes (No x) words told left after bytes s shows c (name, e, j) read found =
    absurd (no-no x (told name) s.file s.stream s.dump left after bytes (told-is words told left name s e) s.good s.bytes shows c j)
only-yes Usage words told left after bytes s shows c j read found = neither (judged Usage words told left after bytes ⊥ ⊥ s c j (λ e. absurd (cc)))
only-yes (BadDump n) words told left after bytes s shows c j read found = neither (judged (BadDump n) words told left after bytes ⊥ ⊥ s c j (λ e. absurd (cc)))
only-yes TooLong words told left after bytes s shows c j read found = neither (judged TooLong words told left after bytes ⊥ ⊥ s c j (λ e. absurd (cc)))
only-yes ReadFault words told left after bytes s shows c j read found = absurd (read refl)
only-yes WriteFault words told left after bytes s shows c j read found = neither (judged WriteFault words told left after bytes ⊥ ⊥ s c j (λ e. absurd (cc)))
only-yes NoMemory words told left after bytes s shows c j read found = absurd (found refl)

pub judged-yes : (v : Verdict) (words : List (List ℕ)) (told : List ℕ → Option (List ℕ)) (left after : Option (List ℕ)) (bytes : List ℕ) (s : IsSound words told left)
    → Consumes left after bytes → Comes v words told bytes after → v ≡ Yes → Shows (terminal_after s.dump s.stream) s.dump
judged-yes v words told left after bytes s c j same =
    let k : Comes Yes words told bytes after = subst (λ x. Comes x words told bytes after) same j in
    yes-shows (told k.0) s.file s.stream s.dump left after bytes (told-is words told left k.0 s k.1) s.good s.bytes c k.2

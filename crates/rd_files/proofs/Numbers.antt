-- A fault that there is by the definitions has a line, whose number is at most one more than the bytes of its file.
use Rattle.std.proofs.Common.{◌+◌, ◌<◌, ◌≤◌, ◌^◌, ℕ, suc, ◌==◌, Bool, true, false, List, [], ◌∷◌, length, Option, None, Some, Result, Ok, Err, arith}
use Rattle.std.specs.Prelude.{if◌then◌else◌, nat_lt, slice_index_or}
use Rattle.std.specs.List.{enumerate_from, slice_split}
use Rattle.std.specs.Option.{option_to_list}
use Rattle.std.specs.Str.Lines.{strip_carriage_return}
use Rattle.std.proofs.lemmas.List.Splits.{length-slice_split}
use Rattle.std.proofs.lemmas.List.Sums.{count_by-le-length}
use Rattle.rd_base.specs.declared.class.Class.{Class}
use Rattle.rd_base.proofs.Choices.{either}
use Rattle.rd_ucd.specs.declared.fault.UcdFault.{UcdFault}
use Rattle.rd_ucd.specs.declared.fault.UcdFault.TheVariants as ucd
use Rattle.rd_ucd.specs.declared.spans.Span.{Span}
use Rattle.rd_ucd.specs.declared.spans.Bracket.{Bracket}
use Rattle.rd_ucd.specs.declared.listing.Codes.{Codes}
use Rattle.rd_ucd.specs.declared.entries.EntryKind.{EntryKind}
use Rattle.rd_ucd.specs.declared.entries.EntryKind.TheVariants.{Alone, First, Last}
use Rattle.rd_ucd.specs.declared.entries.DataEntry.{DataEntry}
use Rattle.rd_ucd.specs.declared.entries.Opened.{Opened}
use Rattle.rd_ucd.specs.Codes.{code_of}
use Rattle.rd_ucd.specs.Names.{named}
use Rattle.rd_ucd.specs.Results.{Answers, behind}
use Rattle.rd_ucd.specs.Lines.{entries_in, fields_of}
use Rattle.rd_ucd.specs.ClassFile.{classes_of, closes, coded, ended, line_entry, is_empty_line, kind_of_name, opened_by, span_by, spans_from, unless}
use Rattle.rd_ucd.specs.ListFile.{ascending_from, both, codes_of, counting, is_blank_line, listed_in, trimmed_field}
use Rattle.rd_ucd.specs.MirrorFile.{mirrors_of, pair_by, pair_of}
use Rattle.rd_ucd.specs.BracketFile.{bracket_by, bracket_named, bracket_of, bracket_with, brackets_of}
use Rattle.rd_files.specs.DataFiles.{line_of}

-- the number of a line up to this one
abbrev pub IsLine : ℕ → ℕ → Type 0
IsLine most n = (1 ≤ n) × (n ≤ most)

-- a fault has the number of a line up to this one
abbrev pub IsWithin : {T : Type 0} → ℕ → Result T UcdFault → Type 0
IsWithin most (Ok value) = Unit {0}
IsWithin most (Err fault) = IsLine most (line_of fault)

-- each entry has the number of a line up to this one, and its fault has such a number
abbrev AreWithin : {T : Type 0} → ℕ → List (ℕ × Result T UcdFault) → Type 0
AreWithin most [] = Unit {0}
AreWithin most ((n, entry) ∷ entries) = IsLine most n × IsWithin most entry × AreWithin most entries

module _ {T : Type 0} (most : ℕ) where
  entries-within : (passed_over : List ℕ → Bool) (entry : ℕ → List ℕ → Result T UcdFault) → ((n : ℕ) (line : List ℕ) → IsLine most n → IsWithin most (entry n line))
      → (n : ℕ) (lines : List (List ℕ)) → 1 ≤ n → n + length lines ≤ suc most → AreWithin most (entries_in passed_over entry (enumerate_from n lines))
  entries-within passed_over entry each n [] some fits = tt
  entries-within passed_over entry each n (line ∷ lines) some fits =
      let low : IsLine most n = (some, omega arith) in
      let rest = entries-within passed_over entry each (n + 1) lines (omega arith) (omega arith) in
      let es = entries_in passed_over entry (enumerate_from (n + 1) lines) in
      either (AreWithin most) (passed_over line) es ((n, entry n line) ∷ es) rest (low, each n line low, rest)

  behind-within : (values : List T) (result : Result (List T) UcdFault) → IsWithin most result → IsWithin most (behind values result)
  behind-within values (Ok more) h = tt
  behind-within values (Err fault) h = h

  ascending-within : (key : T → ℕ) (least : ℕ) (entries : List (ℕ × Result T UcdFault)) → AreWithin most entries → IsWithin most (ascending_from key least entries)
  ascending-within key least [] h = tt
  ascending-within key least ((n, Err fault) ∷ entries) h = h.1
  ascending-within key least ((n, Ok e) ∷ entries) h =
      either (IsWithin most) (nat_lt (key e) least) (Err (ucd.NotAscending n)) (behind (e ∷ []) (ascending_from key (suc (key e)) entries)) h.0
      (behind-within (e ∷ []) (ascending_from key (suc (key e)) entries) (ascending-within key (suc (key e)) entries h.2))

-- ---- class files

coded-within : (most n : ℕ) (code : Option ℕ) (kind : EntryKind) (class : Option Class) → IsLine most n → IsWithin most (coded n code kind class)
coded-within most n None kind class h = h
coded-within most n (Some code) kind None h = h
coded-within most n (Some code) kind (Some class) h = tt

entry-within : (most n : ℕ) (line : List ℕ) → IsLine most n → IsWithin most (line_entry n line)
entry-within most n line h =
    let fields = fields_of (strip_carriage_return line) in
    either (IsWithin most) (nat_lt 4 (length fields)) (coded n (code_of (slice_index_or fields 0 [])) (kind_of_name (slice_index_or fields 1 [])) (named (slice_index_or fields 4 []))) (Err (ucd.BadLine n))
    (coded-within most n (code_of (slice_index_or fields 0 [])) (kind_of_name (slice_index_or fields 1 [])) (named (slice_index_or fields 4 [])) h) h

abbrev IsOpenWithin : ℕ → Option Opened → Type 0
IsOpenWithin most None = Unit {0}
IsOpenWithin most (Some o) = IsLine most o.number

opened-within : (most n : ℕ) (e : DataEntry) (kind : EntryKind) → IsLine most n → IsOpenWithin most (opened_by kind n e)
opened-within most n e Alone h = tt
opened-within most n e First h = h
opened-within most n e Last h = tt

ended-within : (most : ℕ) (opened : Option Opened) → IsOpenWithin most opened → IsWithin most (ended opened)
ended-within most None h = tt
ended-within most (Some o) h = h

unless-within : (most n : ℕ) (low closed : Bool) (result : Result (List Span) UcdFault) → IsLine most n → IsWithin most result
    → IsWithin most (unless (if low then Some (ucd.NotAscending n) else (if closed then None else Some (ucd.BadRange n))) result)
unless-within most n true closed result h rest = h
unless-within most n false true result h rest = rest
unless-within most n false false result h rest = h

spans-within : (most least : ℕ) (opened : Option Opened) (entries : List (ℕ × Result DataEntry UcdFault)) → AreWithin most entries → IsOpenWithin most opened
    → IsWithin most (spans_from least opened entries)
spans-within most least opened [] h o = ended-within most opened o
spans-within most least opened ((n, Err fault) ∷ entries) h o = h.1
spans-within most least opened ((n, Ok e) ∷ entries) h o =
    unless-within most n (nat_lt e.code least) (closes opened e) (behind (option_to_list (span_by e.kind opened e)) (spans_from (suc e.code) (opened_by e.kind n e) entries)) h.0
    (behind-within most (option_to_list (span_by e.kind opened e)) (spans_from (suc e.code) (opened_by e.kind n e) entries)
    (spans-within most (suc e.code) (opened_by e.kind n e) entries h.2 (opened-within most n e e.kind h.0)))

-- ---- mirror and bracket files

both-within : (most n : ℕ) (code other : Option ℕ) → IsLine most n → IsWithin most (both n code other)
both-within most n None other h = h
both-within most n (Some code) None h = h
both-within most n (Some code) (Some other) h = tt

codes-within : (most count n : ℕ) (fields : List (List ℕ)) → IsLine most n → IsWithin most (codes_of count n fields)
codes-within most count n fields h =
    either (IsWithin most) (length fields == count) (both n (code_of (trimmed_field fields 0)) (code_of (trimmed_field fields 1))) (Err (ucd.BadLine n))
    (both-within most n (code_of (trimmed_field fields 0)) (code_of (trimmed_field fields 1)) h) h

pair-within : (most n : ℕ) (fields : List (List ℕ)) → IsLine most n → IsWithin most (pair_of n fields)
pair-within most n fields h = go (codes_of 2 n fields) (codes-within most 2 n fields h)
  where
    go : (r : Result Codes UcdFault) → IsWithin most r → IsWithin most (pair_by r)
    go (Ok codes) h = tt
    go (Err fault) h = h

bracket-within : (most n : ℕ) (fields : List (List ℕ)) → IsLine most n → IsWithin most (bracket_of n fields)
bracket-within most n fields h = go (codes_of 3 n fields) (codes-within most 3 n fields h)
  where
    by : (code : ℕ) (bracket : Option Bracket) → IsWithin most (bracket_by n code bracket)
    by code None = h
    by code (Some bracket) = tt

    go : (r : Result Codes UcdFault) → IsWithin most r → IsWithin most (bracket_with n r (trimmed_field fields 2))
    go (Ok codes) h = by codes.code (bracket_named codes.other (trimmed_field fields 2))
    go (Err fault) h = h

-- ---- whole files

few_lines : (bytes : List ℕ) → 1 + length (slice_split (λ b. b == 10) bytes) ≤ suc (suc (length bytes))
few_lines bytes =
    let lines = length-slice_split (λ (b : ℕ). b == 10) bytes in
    let newlines = count_by-le-length (λ (b : ℕ). b == 10) bytes in
    omega (arith, lines, newlines)

pub classes-within : (bytes : List ℕ) → IsWithin (suc (length bytes)) (classes_of bytes)
classes-within bytes =
    spans-within (suc (length bytes)) 0 None _
    (entries-within (suc (length bytes)) is_empty_line line_entry (entry-within (suc (length bytes))) 1 (slice_split (λ b. b == 10) bytes) (omega arith) (few_lines bytes)) tt

listed-within : {T : Type 0} (key : T → ℕ) (of_fields : ℕ → List (List ℕ) → Result T UcdFault) (bytes : List ℕ)
    → ((most n : ℕ) (fields : List (List ℕ)) → IsLine most n → IsWithin most (of_fields n fields)) → IsWithin (suc (length bytes)) (listed_in key of_fields bytes)
listed-within key of_fields bytes each =
    ascending-within (suc (length bytes)) key 0 _
    (entries-within (suc (length bytes)) is_blank_line (λ n line. of_fields n (fields_of (counting line)))
    (λ n line low. each (suc (length bytes)) n (fields_of (counting line)) low) 1 (slice_split (λ b. b == 10) bytes) (omega arith) (few_lines bytes))

pub mirrors-within : (bytes : List ℕ) → IsWithin (suc (length bytes)) (mirrors_of bytes)
mirrors-within bytes = listed-within (λ pair. pair.code) pair_of bytes pair-within

pub brackets-within : (bytes : List ℕ) → IsWithin (suc (length bytes)) (brackets_of bytes)
brackets-within bytes = listed-within (λ entry. entry.code) bracket_of bytes bracket-within

-- the line of a fault that was answered fits
pub line-fits : {T : Type 0} (right : Result T UcdFault) (bytes : List ℕ) (fault : UcdFault) → length bytes ≤ 8388608 → IsWithin (suc (length bytes)) right
    → Answers (Err fault) right → line_of fault < 2 ^ 32
line-fits right bytes ucd.Memory small within answer = omega arith
line-fits right bytes fault small within answer = let low : IsLine (suc (length bytes)) (line_of fault) = rw answer at within in omega (arith, low.1)
